use Rattle.std.proofs.Common.{◌∙◌, ap, sym, None, Some, if◌then◌else◌}
use Rattle.upstreams.specs.Upstreams.{is_overdue}
use Rattle.upstreams.specs.declared.connection.DisconnectReason.TheVariants.{Stalled, TimedOut}
use Rattle.upstreams.proofs.upstream.Upstream.lost_at.Goals as goal

pub returns-then-is_stalled : goal.returns-then-is_stalled
returns-then-is_stalled g c = λ calls b h.
    ap (λ x. if x then Some Stalled else if is_overdue c.args.self.now.answer_limit c.args.now calls then Some TimedOut else None) (sym c.if-is_stalled.true ∙ c.is_stalled.ensures calls b h)

pub returns-then-is_overdue : goal.returns-then-is_overdue
returns-then-is_overdue g c = λ calls b h.
    ap (λ x. if x then Some TimedOut else None) (sym c.if-is_overdue.true ∙ c.is_overdue.ensures calls b h)
    ∙ ap (λ x. if x then Some Stalled else if is_overdue c.args.self.now.answer_limit c.args.now calls then Some TimedOut else None) (sym c.if-is_stalled.false ∙ c.is_stalled.ensures calls b h)

pub returns : goal.returns
returns g c = λ calls b h.
    ap (λ x. if x then Some TimedOut else None) (sym c.if-is_overdue.false ∙ c.is_overdue.ensures calls b h)
    ∙ ap (λ x. if x then Some Stalled else if is_overdue c.args.self.now.answer_limit c.args.now calls then Some TimedOut else None) (sym c.if-is_stalled.false ∙ c.is_stalled.ensures calls b h)
