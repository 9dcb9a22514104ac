use Rattle.std.proofs.Common.{[], ◌∷◌, ◌+◌, ◌++◌, take, sym, subst, ◌∙◌}
use Rattle.std.proofs.lemmas.List.{append-nil, take_all}
use Rattle.rpkirtr_c.specs.Indexes.{AreRecords}
use Rattle.rpkirtr_c.proofs.RecordLaws.{none_are, one_more}
use Rattle.rpkirtr_c.proofs.index.add_vrps.Goals as goal

pub loop-i-init : goal.loop-i-init
loop-i-init c = (([], none_are), λ before are. (are.0, are.1 ∙ sym (append-nil before)))

pub loop-i-preserved : goal.loop-i-preserved
loop-i-preserved c =
    let have = c.loop-i.invariant.0 in let spells = c.in-Some.ensures.some in (
      (have.0 ++ c.in-Some.vrp ∷ [], one_more have.0 [] c.args.records.now c.loop-i.i _ c.in-Some.vrp have.1 c.loop-i-test.true spells),
      λ before are.
          let more = one_more c.loop-i.list.items before c.args.records.now c.loop-i.i _ c.in-Some.vrp (c.loop-i.invariant.1 before are) c.loop-i-test.true spells in
          subst (λ vs. AreRecords vs (before ++ take (c.loop-i.i + 1) c.args.records.now)) (sym c.in_ok-push-in-Some.ensures) more,
    )

pub returns-clause-ok : goal.returns-clause-ok
returns-clause-ok c = λ before are.
    subst (λ xs. AreRecords c.loop-i.list.items (before ++ xs)) (take_all c.loop-i.i c.args.records.now c.loop-i-test.false) (c.loop-i.invariant.1 before are)
