use Rattle.std.proofs.Common.{◌∙◌}
use Rattle.upstreams.proofs.UpstreamLaws as laws
use Rattle.upstreams.proofs.upstream.Upstream.next_due.Goals as goal

pub returns : goal.returns
returns g c = λ calls b h.
    c.soonest-2.ensures ∙ laws.soonest_both _ _ _ _
    (c.soonest-waits.ensures ∙ laws.soonest_both _ _ _ _ (c.answer_due.ensures calls b h) (c.question_due.ensures calls b h))
    (c.soonest.ensures ∙ laws.soonest_both _ _ _ _ (c.soonest-ends.ensures ∙ laws.soonest_both _ _ _ _ (c.attempt_due.ensures calls b h) (c.end_due.ensures calls b h)) (c.expires_at.ensures calls b h))
