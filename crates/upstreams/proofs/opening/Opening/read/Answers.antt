use Rattle.std.proofs.Common.{◌∙◌, sym}
use Rattle.upstreams.proofs.OpeningLaws as laws
use Rattle.upstreams.proofs.opening.Opening.read.Goals as goal

pub returns-then-is_some : goal.returns-then-is_some
returns-then-is_some c = sym (laws.known_on c.args.self.now c.args.bytes.now (sym c.is_some.ensures ∙ c.if-is_some.true))
