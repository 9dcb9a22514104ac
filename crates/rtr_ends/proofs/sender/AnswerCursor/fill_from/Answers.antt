use Rattle.rtr_ends.proofs.Words.{◌≡◌, ◌≤◌, ◌+◌, ◌-◌, ◌∙◌, sym, ap, subst, true, false, arith, length, map, drop, ◌++◌, List, drop-append-add, drop-append-le, drop-map, length-map, Payload, listing, Unit, Prefix}
use Rattle.rtr_ends.specs.Answer.{announcements, withdrawals}
use Rattle.rtr_ends.specs.Sender.{FillsWith, units_in}
use Rattle.rtr_ends.proofs.FillingLaws.{of_longer}
use Rattle.rtr_ends.proofs.sender.AnswerCursor.fill_from.Goals as goal

pub returns-in-Whole-clause-fills : goal.returns-in-Whole-clause-fills
returns-in-Whole-clause-fills c =
    let f : Payload → Unit = λ v. Prefix true v in
    let place = c.args.self.now.place in
    let is : map f c.from_place-rest.result.now ≡ drop place (units_in c.args.self.now.records) =
    ap (map f) (c.from_place-rest.ensures ∙ ap (drop place) (c.as_slice-records.ensures.value ∙ ap listing c.as_ref.ensures)) ∙ sym (drop-map f place (listing c.in-Whole.share.set.value))
    ∙ ap (λ r. drop place (units_in r)) (sym c.in-Whole.is) in
    subst (λ us. FillsWith c.args.version us c.args.out.now c.args.filled c.fill_with.result.1 c.fill_with.result.0 c.fill_with.new.out) is c.fill_with.ensures

pub returns-then-self-withdrawn-clause-fills : goal.returns-then-self-withdrawn-clause-fills
returns-then-self-withdrawn-clause-fills c =
    let f : Payload → Unit = λ v. Prefix false v in
    let place = c.args.self.now.place in
    let before : List Unit = withdrawals c.in-Step.change.withdraw in
    let behind : List Unit = announcements c.in-Step.change.announce in
    let within : place ≤ length before = omega (arith, c.if-self-withdrawn.true, length-map (listing c.in-Step.change.withdraw) f, ap length c.as_slice-withdrawn.ensures.value) in
    let is : map f c.from_place-rest-then-self-withdrawn.result.now ≡ drop place before =
    ap (map f) (c.from_place-rest-then-self-withdrawn.ensures ∙ ap (drop place) c.as_slice-withdrawn.ensures.value) ∙ sym (drop-map f place (listing c.in-Step.change.withdraw)) in
    let all : drop place before ++ behind ≡ drop place (units_in c.args.self.now.records) = sym (drop-append-le place before behind within) ∙ ap (λ r. drop place (units_in r)) (sym c.in-Step.is) in
    let P : List Unit → Type 0 = λ us. FillsWith c.args.version us c.args.out.now c.args.filled c.fill_with-then-self-withdrawn.result.1 c.fill_with-then-self-withdrawn.result.0 c.fill_with-then-self-withdrawn.new.out in
    subst P all (of_longer c.args.version (drop place before) behind c.args.out.now c.args.filled _ _ _ (subst P is c.fill_with-then-self-withdrawn.ensures))

pub returns-else-self-withdrawn-clause-fills : goal.returns-else-self-withdrawn-clause-fills
returns-else-self-withdrawn-clause-fills c =
    let f : Payload → Unit = λ v. Prefix true v in
    let place = c.args.self.now.place in
    let before : List Unit = withdrawals c.in-Step.change.withdraw in
    let behind : List Unit = announcements c.in-Step.change.announce in
    let over = place - length c.as_slice-withdrawn.result.now in
    let at : length before + over ≡ place = omega (arith, c.if-self-withdrawn.false, length-map (listing c.in-Step.change.withdraw) (λ v. Prefix false v), ap length c.as_slice-withdrawn.ensures.value) in
    let is : map f c.from_place-rest-in-Step.result.now ≡ drop over behind =
    ap (map f) (c.from_place-rest-in-Step.ensures ∙ ap (drop over) c.as_slice-announced.ensures.value) ∙ sym (drop-map f over (listing c.in-Step.change.announce)) in
    let all : drop over behind ≡ drop place (units_in c.args.self.now.records) =
    sym (drop-append-add before behind over) ∙ ap (λ n. drop n (before ++ behind)) at ∙ ap (λ r. drop place (units_in r)) (sym c.in-Step.is) in
    subst (λ us. FillsWith c.args.version us c.args.out.now c.args.filled c.fill_with-in-Step.result.1 c.fill_with-in-Step.result.0 c.fill_with-in-Step.new.out) (is ∙ all) c.fill_with-in-Step.ensures
