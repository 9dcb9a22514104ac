use Rattle.std.proofs.Common.{◌≡◌, ◌∙◌, ℕ, Option, Some, None, true, false, List, ◌∷◌, take, ap, sym, subst, refl}
use Rattle.std.specs.Option.{option_map}
use Rattle.vrps.specs.Change.{between}
use Rattle.vrps.specs.VrpSet.{VrpSet, IsVrpSet, size}
use Rattle.vrps.specs.Steps.{AreSteps, HoldsSteps, LeadsToNow, steps_log}
use Rattle.vrps.specs.declared.change.Change.{Change}
use Rattle.vrps.proofs.StepLaws.{is_another, is_the_current, publishes_step, some_is, steps_more, steps_take}
use Rattle.vrps.proofs.log.VersionLogVersionStore.publish.Goals as goal

-- The steps to another set are those to the current one and the step between both.
leads_on : (now set : VrpSet) (steps more : List Change) (step : Change) (keep : ℕ) (current : Option VrpSet) → LeadsToNow current steps → current ≡ Some now → IsVrpSet set → step ≡ between now set → more ≡ take keep (step ∷ steps) → LeadsToNow (Some set) more
leads_on now set steps more step keep current h is fits step_is more_is = record {
  none = λ e. absurd (let k : ◌≡◌ {A = Option VrpSet} (Some set) None = e in cc);
  set = λ s e. subst (λ x. IsVrpSet x) (some_is set s e) fits;
  steps_to = λ s e.
      subst (λ x. AreSteps x more) (some_is set s e)
      (subst (λ l. AreSteps set l) (sym (more_is ∙ ap (λ c. take keep (c ∷ steps)) step_is)) (steps_take keep set (between now set ∷ steps) (steps_more now set steps (h.set now is) (h.steps_to now is))));
}

pub returns-then-is_nothing : goal.returns-then-is_nothing
returns-then-is_nothing c = λ keep i h.
    let now = c.in-Some.now.now.value in
    let set = c.args.set.value in
    let held = subst (λ v. HoldsSteps keep i v) (sym c.self.view_is) h in
    let current = ap (option_map (λ s. s.value)) (sym c.in-Some.ensures.value) in
    let step : c.in_ok-step.step ≡ between now set = c.in_ok-step.ensures ∙ (λ j. between (c.as_ref-3.ensures j) (c.as_ref-4.ensures j)) in
    let nothing = c.is_nothing.ensures.0 c.if-is_nothing.true in
    (h, is_the_current now set i.sets (sym current ∙ held.newest_is) (ap (λ s. size s.withdraw) (sym step) ∙ nothing.0) (ap (λ s. size s.announce) (sym step) ∙ nothing.1))

pub invariant_of-self-2 : goal.invariant_of-self-2
invariant_of-self-2 c =
    let now = c.in-Some.now.now.value in
    let set = c.args.set.value in
    let current = ap (option_map (λ s. s.value)) (sym c.in-Some.ensures.value) in
    let step : c.in_ok-step.step ≡ between now set = c.in_ok-step.ensures ∙ (λ j. between (c.as_ref-3.ensures j) (c.as_ref-4.ensures j)) in
    leads_on now set c.self.inside.steps.items c.keep.new.steps.items c.in_ok-step.step c.self.inside.steps.capacity _ c.self.invariant current (subst (λ s. IsVrpSet s) c.as_ref.ensures c.len-size.ensures.set) step c.keep.ensures.items

pub returns : goal.returns
returns c = λ keep i h.
    let now = c.in-Some.now.now.value in
    let set = c.args.set.value in
    let held = subst (λ v. HoldsSteps keep i v) (sym c.self.view_is) h in
    let current = ap (option_map (λ s. s.value)) (sym c.in-Some.ensures.value) in
    let step : c.in_ok-step.step ≡ between now set = c.in_ok-step.ensures ∙ (λ j. between (c.as_ref-3.ensures j) (c.as_ref-4.ensures j)) in
    let other = is_another now set i.sets (sym current ∙ held.newest_is) (λ both.
    let it = c.is_nothing.ensures.1 (ap (λ s. size s.withdraw) step ∙ both.0, ap (λ s. size s.announce) step ∙ both.1) in
    let k : true ≡ false = sym it ∙ c.if-is_nothing.false in cc) in (
      publishes_step keep i _ (steps_log c.self.inside.session c.take_serial-2.new.next.0 (Some set) c.keep.new.steps.items c.keep.new.steps.capacity) now set held current other refl c.take_serial-2.ensures.next refl
          (c.keep.ensures.items ∙ ap (λ s. take c.self.inside.steps.capacity (s ∷ c.self.inside.steps.items)) step) c.keep.ensures.capacity,
      other,
      c.take_serial-2.ensures.serial ∙ held.next_is,
    )
