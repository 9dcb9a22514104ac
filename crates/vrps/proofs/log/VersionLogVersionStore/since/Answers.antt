use Rattle.std.proofs.Common.{◌≡◌, ◌∙◌, Option, Some, None, take, ap, sym, subst, arith}
use Rattle.std.specs.Option.{option_map}
use Rattle.vrps.specs.VrpSet.{VrpSet}
use Rattle.vrps.specs.Steps.{HoldsSteps, back_to}
use Rattle.vrps.specs.Store.{Known}
use Rattle.vrps.specs.Wholes.{IsBehind}
use Rattle.vrps.proofs.StepLaws.{change_is, fit_listings, knows_no_step, knows_steps, steps_fit}
use Rattle.vrps.proofs.log.VersionLogVersionStore.since.Goals as goal

pub returns-then-len-behind : goal.returns-then-len-behind
returns-then-len-behind c = λ keep i h.
    let held = subst (λ v. HoldsSteps keep i v) (sym c.self.view_is) h in
    let behind = subst (λ v. IsBehind v.next c.args.serial.0 c.behind-behind.result) (sym c.self.view_is) c.behind-behind.ensures in
    let current = ap (option_map (λ s. s.value)) (sym c.in-Some.ensures.value) in
    let past = c.if-len-behind.true in
    let size = c.len.ensures.len in
    knows_no_step keep i _ c.args.serial.0 c.behind-behind.result held behind (λ e. let k : ◌≡◌ {A = Option VrpSet} (Some c.in-Some._now.now.value) None = sym current ∙ e in cc) (omega (arith, past, size))

pub change_of-requires-clause-withdraw : goal.change_of-requires-clause-withdraw
change_of-requires-clause-withdraw c =
    let now = c.in-Some._now.now.value in
    let items = c.self.inside.steps.items in
    let current = ap (option_map (λ s. s.value)) (sym c.in-Some.ensures.value) in
    let fits = c.self.invariant.set now current in
    let steps = c.self.invariant.steps_to now current in
    (fit_listings (back_to (take c.behind-behind.result items) now) now c.in_ok-lists.lists (steps_fit c.behind-behind.result now items fits steps) fits (c.in_ok-lists.ensures.lists now steps)).0

pub change_of-requires-clause-announce : goal.change_of-requires-clause-announce
change_of-requires-clause-announce c =
    let now = c.in-Some._now.now.value in
    let items = c.self.inside.steps.items in
    let current = ap (option_map (λ s. s.value)) (sym c.in-Some.ensures.value) in
    let fits = c.self.invariant.set now current in
    let steps = c.self.invariant.steps_to now current in
    (fit_listings (back_to (take c.behind-behind.result items) now) now c.in_ok-lists.lists (steps_fit c.behind-behind.result now items fits steps) fits (c.in_ok-lists.ensures.lists now steps)).1

pub returns : goal.returns
returns c = λ keep i h.
    let now = c.in-Some._now.now.value in
    let items = c.self.inside.steps.items in
    let held = subst (λ v. HoldsSteps keep i v) (sym c.self.view_is) h in
    let behind = subst (λ v. IsBehind v.next c.args.serial.0 c.behind-behind.result) (sym c.self.view_is) c.behind-behind.ensures in
    let current = ap (option_map (λ s. s.value)) (sym c.in-Some.ensures.value) in
    let steps = c.self.invariant.steps_to now current in
    let few = c.if-len-behind.false in
    let size = c.len.ensures.len in
    ap Known (c.change_of.ensures ∙ change_is (back_to (take c.behind-behind.result items) now) now c.in_ok-lists.lists (c.in_ok-lists.ensures.lists now steps))
    ∙ knows_steps keep i _ c.args.serial.0 c.behind-behind.result now held behind current (omega (arith, few, size))
