use Rattle.std.proofs.Common.{◌∙◌, ap, sym}
use Rattle.std.specs.Prelude.{◌||◌}
use Rattle.upstreams.specs.Versions.{asks_for_version_0, keeps_version_0}
use Rattle.upstreams.proofs.upstream.Upstream.is_of_version_0.Goals as goal

pub returns-then-asks_for_version_0 : goal.returns-then-asks_for_version_0
returns-then-asks_for_version_0 g c = λ calls b h. ap (λ x. x || keeps_version_0 c.args.now c.args.self.now.fallback.since calls) (sym c.if-asks_for_version_0.true ∙ c.asks_for_version_0.ensures calls b h) ∙ ap (λ x. x || (asks_for_version_0 calls || keeps_version_0 c.args.now c.args.self.now.fallback.since calls)) (sym c.if-is_0.false ∙ c.is_0.ensures)

pub returns : goal.returns
returns g c = λ calls b h. c.keeps_version_0.ensures calls b h ∙ ap (λ x. x || keeps_version_0 c.args.now c.args.self.now.fallback.since calls) (sym c.if-asks_for_version_0.false ∙ c.asks_for_version_0.ensures calls b h) ∙ ap (λ x. x || (asks_for_version_0 calls || keeps_version_0 c.args.now c.args.self.now.fallback.since calls)) (sym c.if-is_0.false ∙ c.is_0.ensures)
