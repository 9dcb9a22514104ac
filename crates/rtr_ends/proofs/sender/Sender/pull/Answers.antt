use Rattle.std.proofs.Common.{◌≡◌, ◌∙◌, ◌<◌, ◌≤◌, ap, subst, sym, arith, length, None, Some}
use Rattle.rtr_ends.specs.Sender.{PullsBytes, Stays, due_of, left}
use Rattle.rtr_ends.specs.declared.sender.Sender.{Sender}
use Rattle.rtr_ends.proofs.FillingLaws.{fills_more, none_more, none_stays}
use Rattle.rtr_ends.proofs.SenderLaws.{none_filled, gives_more, all_given, gives_all, gives_rest, rests, without_answer, hands_more, hands_less, left_stays}
use Rattle.rtr_ends.proofs.sender.Sender.pull.Goals as goal

pub loop-filled-init : goal.loop-filled-init
loop-filled-init c = none_filled c.args.self.now c.args.out.now

pub returns-then-filled-out-clause-gives : goal.returns-then-filled-out-clause-gives
returns-then-filled-out-clause-gives c =
    let f = gives_more _ _ _ _ _ _ _ _ c.loop-filled.invariant c.give-filled.ensures in
    gives_all c.args.self.now c.args.out.now c.give-filled.new.self c.give-filled.new.out c.give-filled.result (c.give-filled.auto.out ∙ c.loop-filled.auto.out) c.if-filled-out.true f

pub returns-then-filled-out-clause-stays : goal.returns-then-filled-out-clause-stays
returns-then-filled-out-clause-stays c = (gives_more _ _ _ _ _ _ _ _ c.loop-filled.invariant c.give-filled.ensures).stays

pub returns-in_default-clause-gives : goal.returns-in_default-clause-gives
returns-in_default-clause-gives c =
    let f = gives_more _ _ _ _ _ _ _ _ c.loop-filled.invariant c.give-filled.ensures in
    let given = all_given _ _ _ _ _ _ _ _ c.loop-filled.invariant c.give-filled.ensures
    (omega (arith, c.if-filled-out.false, f.low, c.give-filled.auto.out)) in
    let g = fills_more _ _ _ _ _ _ _ _ f given c.fill-filled.ensures in
    let none : c.fill-filled.new.self.answer ≡ None = sym c.take.ensures.value ∙ c.in_default.is in
    let empty = none_stays _ _ _ _ _ _ _ _ f given c.fill-filled.ensures in
    let P : Sender → Type 0 = λ s. PullsBytes (due_of c.args.self.now) c.args.out.now c.fill-filled.result c.fill-filled.new.out (due_of s) in
    subst P (sym (without_answer c.fill-filled.new.self c.take.new.self none c.take.ensures.after))
    (gives_rest c.args.self.now c.args.out.now c.fill-filled.new.self c.fill-filled.new.out c.fill-filled.result (c.fill-filled.auto.out ∙ c.give-filled.auto.out ∙ c.loop-filled.auto.out)
    (rests c.fill-filled.new.self empty none) g)

pub returns-in_default-clause-stays : goal.returns-in_default-clause-stays
returns-in_default-clause-stays c =
    let f = gives_more _ _ _ _ _ _ _ _ c.loop-filled.invariant c.give-filled.ensures in
    let given = all_given _ _ _ _ _ _ _ _ c.loop-filled.invariant c.give-filled.ensures
    (omega (arith, c.if-filled-out.false, f.low, c.give-filled.auto.out)) in
    let g = fills_more _ _ _ _ _ _ _ _ f given c.fill-filled.ensures in
    let none : c.fill-filled.new.self.answer ≡ None = sym c.take.ensures.value ∙ c.in_default.is in
    let P : Sender → Type 0 = λ s. Stays c.args.self.now s in
    subst P (sym (without_answer c.fill-filled.new.self c.take.new.self none c.take.ensures.after)) g.stays

pub loop-filled-smaller : goal.loop-filled-smaller
loop-filled-smaller c =
    let f = gives_more _ _ _ _ _ _ _ _ c.loop-filled.invariant c.give-filled.ensures in
    let given = all_given _ _ _ _ _ _ _ _ c.loop-filled.invariant c.give-filled.ensures
    (omega (arith, c.if-filled-out.false, f.low, c.give-filled.auto.out)) in
    let some : c.fill-filled.new.self.answer ≡ Some c.in-Some.cursor = sym c.take.ensures.value ∙ c.in-Some.is in
    let less : length (left c.next.new.self) < length (left c.fill-filled.new.self) = hands_less c.fill-filled.new.self c.in-Some.cursor c.next.new.self some c.next.ensures in
    let fewer : length (left c.fill-filled.new.self) ≤ length (left c.give-filled.new.self) = none_more _ _ _ _ _ _ _ _ f given c.fill-filled.ensures in
    let same : length (left c.give-filled.new.self) ≡ length (left c.loop-filled.self) = ap length (left_stays _ _ _ _ _ _ _ _ c.loop-filled.invariant c.give-filled.ensures) in
    omega (arith, less, fewer, same)

pub loop-filled-preserved : goal.loop-filled-preserved
loop-filled-preserved c =
    let f = gives_more _ _ _ _ _ _ _ _ c.loop-filled.invariant c.give-filled.ensures in
    let given = all_given _ _ _ _ _ _ _ _ c.loop-filled.invariant c.give-filled.ensures
    (omega (arith, c.if-filled-out.false, f.low, c.give-filled.auto.out)) in
    let g = fills_more _ _ _ _ _ _ _ _ f given c.fill-filled.ensures in
    let empty = none_stays _ _ _ _ _ _ _ _ f given c.fill-filled.ensures in
    let some : c.fill-filled.new.self.answer ≡ Some c.in-Some.cursor = sym c.take.ensures.value ∙ c.in-Some.is in
    hands_more c.args.self.now c.args.out.now c.fill-filled.new.self c.fill-filled.new.out c.fill-filled.result c.in-Some.cursor c.next.new.self some empty c.next.ensures g
