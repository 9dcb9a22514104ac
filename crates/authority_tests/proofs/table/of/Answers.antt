use Rattle.std.proofs.Common.{◌+◌, ◌↔◌, sym, subst, ap, ◌∙◌, take, vec_items}
use Rattle.std.specs.List.{Contains}
use Rattle.std.proofs.lemmas.List.{take_all}
use Rattle.authority_tests.proofs.Pairs.{picked, passed}
use Rattle.authority_tests.proofs.table.of.Goals as goal
use Rattle.authority_tests.proofs.table.of.Goals.{then-pair-number+in_ok-push, else-pair-number}

pub loop-pair-preserved : goal.loop-pair-preserved
loop-pair-preserved g c =
    let xs = c.args.pairs.now in
    let i = c.loop-pair.pair-index in
    let p = c.pair-item.result in
    elim c.if-pair-number.branch [
      | then-pair-number+in_ok-push w ↦ picked xs c.loop-pair.found.items c.if-pair-number.found.items i c.args.number p c.loop-pair-test.true c.pair-item.is w.if-pair-number.true (ap vec_items w.found-is ∙ w.in_ok-push.ensures.items) c.loop-pair.invariant
      | else-pair-number w ↦ subst (λ ys. (x : g.row.T.Denot) → Contains ys x ↔ Contains (take (i + 1) xs) (c.args.number, x)) (sym (ap vec_items w.found-is)) (passed xs c.loop-pair.found.items i c.args.number p c.loop-pair-test.true c.pair-item.is w.if-pair-number.false c.loop-pair.invariant)
    ]

pub returns : goal.returns
returns g c = subst (λ l. (x : g.row.T.Denot) → Contains c.loop-pair.found.items x ↔ Contains l (c.args.number, x)) (take_all c.loop-pair.pair-index c.args.pairs.now c.loop-pair-test.false) c.loop-pair.invariant
