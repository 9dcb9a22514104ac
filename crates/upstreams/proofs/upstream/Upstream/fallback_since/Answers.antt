use Rattle.std.proofs.Common.{◌∙◌, ap, sym, None, Some, if◌then◌else◌}
use Rattle.upstreams.specs.Versions.{keeps_version_0}
use Rattle.upstreams.proofs.upstream.Upstream.fallback_since.Goals as goal

pub returns-then-asks_for_version_0 : goal.returns-then-asks_for_version_0
returns-then-asks_for_version_0 g c = λ calls b h. ap (λ x. if x then Some c.args.now else if keeps_version_0 c.args.now c.args.self.now.fallback.since calls then c.args.self.now.fallback.since else None) (sym c.if-asks_for_version_0.true ∙ c.asks_for_version_0.ensures calls b h)

pub returns-then-keeps_version_0 : goal.returns-then-keeps_version_0
returns-then-keeps_version_0 g c = λ calls b h. ap (λ x. if x then c.args.self.now.fallback.since else None) (sym c.if-keeps_version_0.true ∙ c.keeps_version_0.ensures calls b h) ∙ ap (λ x. if x then Some c.args.now else if keeps_version_0 c.args.now c.args.self.now.fallback.since calls then c.args.self.now.fallback.since else None) (sym c.if-asks_for_version_0.false ∙ c.asks_for_version_0.ensures calls b h)

pub returns : goal.returns
returns g c = λ calls b h. ap (λ x. if x then c.args.self.now.fallback.since else None) (sym c.if-keeps_version_0.false ∙ c.keeps_version_0.ensures calls b h) ∙ ap (λ x. if x then Some c.args.now else if keeps_version_0 c.args.now c.args.self.now.fallback.since calls then c.args.self.now.fallback.since else None) (sym c.if-asks_for_version_0.false ∙ c.asks_for_version_0.ensures calls b h)
