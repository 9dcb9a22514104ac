use Rattle.std.proofs.Common.{sym, ◌∙◌}
use Rattle.trust_anchors.proofs.Better.{by_end}
use Rattle.trust_anchors.proofs.validity.AnchorValidity.is_better.Goals as goal

pub returns : goal.returns
returns c =
    let v = c.self.inside in
    let w = c.other.inside in
    rw (← c.self.view_is, ← c.other.view_is) (by_end (v.not_before, v.not_after) (w.not_before, w.not_after) c.is_before-3.result
    (sym c.is_before.ensures ∙ c.if-is_before.false) (sym c.is_before-2.ensures ∙ c.if-is_before-2.false) c.is_before-3.ensures)
