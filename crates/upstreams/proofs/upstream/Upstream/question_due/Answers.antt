use Rattle.std.proofs.Common.{◌∙◌, ap, sym, None, if◌then◌else◌}
use Rattle.rtr_ends.specs.Router.{played}
use Rattle.upstreams.specs.Upstreams.{refresh_due}
use Rattle.upstreams.proofs.upstream.Upstream.question_due.Goals as goal

pub returns-then-is_idle : goal.returns-then-is_idle
returns-then-is_idle g c = λ calls b h. c.refresh_due.ensures calls b h ∙ ap (λ x. if x then refresh_due calls else None) (sym c.if-is_idle.true ∙ c.is_idle.ensures (played calls).router h.leads)
