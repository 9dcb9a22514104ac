use Rattle.std.proofs.Common.{◌∙◌, ap, sym, None, Some, if◌then◌else◌}
use Rattle.rtr_ends.specs.Router.{played}
use Rattle.upstreams.specs.Upstreams.{attempt_at}
use Rattle.upstreams.proofs.upstream.Upstream.attempt_due.Goals as goal

pub returns-then-is_closed : goal.returns-then-is_closed
returns-then-is_closed g c = λ calls b h. ap Some (c.attempt_at.ensures calls b h) ∙ ap (λ x. if x then Some (attempt_at calls) else None) (sym c.if-is_closed.true ∙ c.is_closed.ensures (played calls).router h.leads)
