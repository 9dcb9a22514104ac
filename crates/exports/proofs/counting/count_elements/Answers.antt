use Rattle.std.proofs.Common.{◌≡◌, ◌∷◌, ◌∙◌, sym, ap, subst}
use Rattle.json.specs.Reads.{token_of}
use Rattle.exports.specs.Ignored.{element_count}
use Rattle.exports.specs.PlainForm.{IsScalar, ReadsCounted}
use Rattle.exports.proofs.Elements.{array_form, no_elements}
use Rattle.exports.proofs.PlainParts.{no_array_here}
use Rattle.exports.proofs.PlainSteps.{none_at_end, other}
use Rattle.exports.proofs.counting.count_elements.Goals as goal

pub returns-in_default : goal.returns-in_default
returns-in_default c = none_at_end 126 c.args.reader.now c.in_default.ensures.value.0

pub returns-then-begins_array : goal.returns-then-begins_array
returns-then-begins_array c =
    array_form c.args.reader.now c.next.new.self c.count_items.new.reader c.count_items.result (c.in-Some.ensures.value ∙ ap (λ t. t ∷ c.next.new.self) c.if-begins_array.ensures) c.count_items.ensures

pub returns : goal.returns
returns c =
    let t = token_of c.in-Some.token in
    subst (λ ts. ReadsCounted ts c.read_rest.new.reader 0) (sym c.in-Some.ensures.value)
    (other 126 (λ j d. IsScalar d c.in-Some-read_rest._passed) (λ j d. 0 ≡ element_count d) (t ∷ c.next.new.self) c.read_rest.new.reader
    (λ j d made at is. no_elements d (no_array_here 126 t c.next.new.self c.read_rest.new.reader j d c.if-begins_array.ensures made at).0) c.in-Some-read_rest.ensures)
