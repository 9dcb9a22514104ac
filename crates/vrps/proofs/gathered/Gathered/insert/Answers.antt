use Rattle.std.proofs.Common.{ap, sym, ◌∙◌, not, refl}
use Rattle.vrps.specs.VrpSet.{has, set_of}
use Rattle.vrps.proofs.Gathers.{gathers_again, gathers_behind, new_behind, shown_in}
use Rattle.vrps.proofs.gathered.Gathered.insert.Goals as goal
use Rattle.vrps.proofs.gathered.Gathered.insert.Goals.{in-Ok, in-Err}

pub returns-then-is_after-clause-ok : goal.returns-then-is_after-clause-ok
returns-then-is_after-clause-ok c =
    let view = shown_in _ _ _ c.in-Ascending.is c.self.view_is in
    elim c.match-push.branch [
      | in-Ok w ↦ rw w.result-is (gathers_behind _ _ _ c.args.vrp view w.in-Ok.ensures.items)
      | in-Err w ↦ rw w.result-is tt
    ]

pub returns-then-is_after-clause-added : goal.returns-then-is_after-clause-added
returns-then-is_after-clause-added c =
    let view = shown_in _ _ _ c.in-Ascending.is c.self.view_is in
    let new = new_behind _ _ _ c.args.vrp view c.as_slice.ensures.value (c.if-is_after.ensures refl) in
    elim c.match-push.branch [
      | in-Ok w ↦ rw w.result-is (ap not (sym new))
      | in-Err w ↦ rw w.result-is tt
    ]

pub returns-then-is_after-clause-err : goal.returns-then-is_after-clause-err
returns-then-is_after-clause-err c =
    let view = shown_in _ _ _ c.in-Ascending.is c.self.view_is in
    let new = new_behind _ _ _ c.args.vrp view c.as_slice.ensures.value (c.if-is_after.ensures refl) in
    elim c.match-push.branch [
      | in-Ok w ↦ rw w.result-is tt
      | in-Err w ↦ rw w.result-is (ap (λ vs. set_of vs) w.in-Err.ensures.items ∙ view, new)
    ]

pub returns-then-is_listed-clause-ok : goal.returns-then-is_listed-clause-ok
returns-then-is_listed-clause-ok c =
    let view = shown_in _ _ _ c.in-Ascending.is c.self.view_is in
    view ∙ gathers_again _ c.args.vrp (sym (c.is_listed.ensures ∙ ap (λ vs. has (set_of vs) c.args.vrp) c.as_slice-in-Ascending.ensures.value ∙ ap (λ s. has s c.args.vrp) view) ∙ c.if-is_listed.true)
