use Rattle.std.proofs.Common.{◌≡◌, take, subst, sym, arith}
use Rattle.std.proofs.lemmas.Result.{IfOk-weaker}
use Rattle.vrps.specs.Change.{between}
use Rattle.vrps.specs.Merging.{AreLists, AreMerged}
use Rattle.vrps.specs.Steps.{back_to}
use Rattle.vrps.proofs.StepLaws.{merged_lists, no_step, one_step, slice_past}
use Rattle.vrps.proofs.Walks.{Ascends, no_records}
use Rattle.vrps.proofs.merge.+merged.Goals as goal
use Rattle.vrps.proofs.merge.+merged.Goals.{in_default-via-in-Some+else-from-to, in_default-via-in_default}

pub returns-in-Some-clause-lists : goal.returns-in-Some-clause-lists
returns-in-Some-clause-lists t c = λ now h.
    let steps = c.args.steps.now.items in
    IfOk-weaker c.copied.result (λ lists. AreLists lists c.in-Some.step.now) (λ lists. AreLists lists (between (back_to (take c.args.to steps) now) (back_to (take c.args.from steps) now)))
    (λ lists are. one_step now steps c.args.from c.args.to c.in-Some.step.now lists h c.if-from-to.true c.if-to-from-le1.true c.in-Some.ensures are) c.copied.ensures.lists

pub returns-in_default-clause-ascend : goal.returns-in_default-clause-ascend
returns-in_default-clause-ascend t c = record {
  withdraw = subst (λ l. Ascends l) (sym c.new.ensures.items) no_records;
  announce = subst (λ l. Ascends l) (sym c.new-in_default.ensures.items) no_records;
}

pub returns-in_default-clause-lists : goal.returns-in_default-clause-lists
returns-in_default-clause-lists t c = λ now h.
    let order = c.requires.order in
    let within = c.requires.within in
    let same : c.args.from ≡ c.args.to = elim c.in_default.branch [
      | in_default-via-in-Some+else-from-to w ↦ let past = w.if-from-to.false in omega (arith, past, order)
      | in_default-via-in_default w ↦ let past = slice_past c.args.steps.now.items c.args.from w.in_default.ensures in omega (arith, past, order, within)
    ] in
    no_step now c.args.steps.now.items c.args.from c.args.to _ same c.new.ensures.items c.new-in_default.ensures.items

pub returns-clause-lists : goal.returns-clause-lists
returns-clause-lists t c = λ now h.
    let steps = c.args.steps.now.items in
    IfOk-weaker c.joined.result (AreMerged c.in_ok-older.older c.in_ok-newer.newer) (λ lists. AreLists lists (between (back_to (take c.args.to steps) now) (back_to (take c.args.from steps) now)))
    (λ lists m. merged_lists _ _ _ c.in_ok-older.older c.in_ok-newer.newer lists (c.in_ok-older.ensures.lists now h) (c.in_ok-newer.ensures.lists now h) m) c.joined.ensures.merged
