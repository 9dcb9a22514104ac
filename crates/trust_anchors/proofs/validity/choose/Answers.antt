use Rattle.std.proofs.Common.{◌<◌, ◌+◌, ℕ, length, sym, subst, ◌∙◌, arith}
use Rattle.trust_anchors.proofs.Better.{IsBestOf, best_first, best_stays, best_changes, best_of_all, better_at, not_better_at, some_there}
use Rattle.trust_anchors.proofs.validity.choose.Goals as goal
use Rattle.trust_anchors.proofs.validity.choose.Goals.{then-is_better, else-is_better}

pub loop-at-init : goal.loop-at-init
loop-at-init c = best_first c.args.validities.now

pub loop-at-preserved : goal.loop-at-preserved
loop-at-preserved c =
    let all = c.args.validities.now in
    let l = c.loop-at in
    let i = c.index-validities-at in
    let j = c.index-validities-best in
    let here : l.at < length all = omega arith in
    let there : l.best < length all = omega (arith, l.invariant.within) in
    elim c.if-is_better.branch [
      | then-is_better w ↦ subst (λ (n : ℕ). IsBestOf all (l.at + 1) n) (sym w.best-is)
          (best_changes all l.at l.best l.invariant (better_at all l.at l.best i.result j.result here there i.is j.is (c.is_better.ensures.0 w.if-is_better.true)))
      | else-is_better w ↦ subst (λ (n : ℕ). IsBestOf all (l.at + 1) n) (sym w.best-is)
          (best_stays all l.at l.best l.invariant
          (not_better_at all l.at l.best i.result j.result here there i.is j.is (λ b. (let t = c.is_better.ensures.1 b in let f = w.if-is_better.false in cc))))
    ]

pub returns : goal.returns
returns c =
    let some = some_there (length c.args.validities.now) (sym c.is_empty.ensures ∙ c.if-is_empty.false) in
    let end = c.loop-at.auto.at-end some in
    best_of_all c.args.validities.now c.loop-at.at c.loop-at.best c.loop-at.invariant (omega (arith, end, c.loop-at-test.false))
