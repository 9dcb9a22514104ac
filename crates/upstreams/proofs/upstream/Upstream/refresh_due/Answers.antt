use Rattle.std.proofs.Common.{◌∙◌, ap}
use Rattle.rtr_ends.specs.Router.{played}
use Rattle.rtr_ends.specs.Transcript.{due}
use Rattle.upstreams.specs.Upstreams.{soonest}
use Rattle.upstreams.proofs.upstream.Upstream.refresh_due.Goals as goal

pub returns : goal.returns
returns g c = λ calls b h. c.soonest.ensures ∙ ap (λ x. soonest x c.early_due.result) (c.due.ensures.kept calls h.leads) ∙ ap (soonest (due (played calls).items)) (c.early_due.ensures calls b h)
