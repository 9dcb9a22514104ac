use Rattle.std.proofs.Common.{◌≡◌, ◌∙◌, ℕ, true, false, List, Vec, Global, ap, arith}
use Rattle.std.proofs.lemmas.Result.{err_from_is_err_and}
use Rattle.der_forms.specs.Combinators.{fault_at}
use Rattle.signed_objects.specs.Faults.{cms_fault_of}
use Rattle.signed_objects.specs.Parts.{is_empty}
use Rattle.signed_objects.proofs.BerSteps.{file_read, file_trails, file_wrong}
use Rattle.signed_objects.proofs.ber.to_der.Goals as goal

abbrev items : Vec ℕ Global → List ℕ
items v = v.items

pub returns-in_err-der : goal.returns-in_err-der
returns-in_err-der c =
    let p = err_from_is_err_and c.from_residual.result c.from_residual.ensures.1 in
    rw (p.1, p.2) (file_wrong c.args.bytes.now items items c.in_err-der.field-0.0 _ c.element.new.cursor c.new-cursor.ensures (λ i. omega (arith, c.type_inv.bytes i)) c.in_err-der.ensures)

pub returns-then-not-ends : goal.returns-then-not-ends
returns-then-not-ends c =
    let more : is_empty c.element.new.cursor.rest ≡ false = (let h = c.if-not-ends.ensures in cc) in
    file_trails c.args.bytes.now _ c.in_ok-der.der.items c.element.new.cursor c.at.result c.new-cursor.ensures (λ i. omega (arith, c.type_inv.bytes i)) c.in_ok-der.ensures more
    (ap cms_fault_of c.at.ensures ∙ ap (λ (k : ℕ). fault_at 5 k) c.offset.ensures)

pub returns : goal.returns
returns c =
    let none : is_empty c.element.new.cursor.rest ≡ true = (let h = c.if-not-ends.ensures in cc) in
    file_read c.args.bytes.now _ c.in_ok-der.der.items c.element.new.cursor c.new-cursor.ensures (λ i. omega (arith, c.type_inv.bytes i)) c.in_ok-der.ensures none
