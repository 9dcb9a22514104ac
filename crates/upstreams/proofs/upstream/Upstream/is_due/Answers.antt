use Rattle.std.proofs.Common.{◌∙◌, ap}
use Rattle.upstreams.specs.Upstreams.{is_past}
use Rattle.upstreams.proofs.upstream.Upstream.is_due.Goals as goal

pub returns : goal.returns
returns g c = λ calls b runs. c.is_past.ensures ∙ ap (λ x. is_past x c.args.now) (c.next_due.ensures calls b runs)
