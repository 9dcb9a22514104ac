use Rattle.std.proofs.Common.{◌∷◌, ◌∙◌, ap}
use Rattle.json.specs.Reads.{token_of}
use Rattle.exports.proofs.PlainSteps.{none_at_end}
use Rattle.exports.proofs.PlainWhole.{list_form, object_form, other_form}
use Rattle.exports.proofs.text.value_parts.Goals as goal

pub returns-in_default : goal.returns-in_default
returns-in_default c = none_at_end 127 c.args.reader.now c.in_default.ensures.value.0

pub returns-then-begins_object : goal.returns-then-begins_object
returns-then-begins_object c =
    object_form c.args.now c.args.reader.now c.next.new.self c.plain_parts.new.reader c.plain_parts.result (c.in-Some.ensures.value ∙ ap (λ t. t ∷ c.next.new.self) c.if-begins_object.ensures) c.plain_parts.ensures

pub returns-then-begins_array : goal.returns-then-begins_array
returns-then-begins_array c =
    list_form c.args.now c.args.reader.now c.next.new.self c.list_parts.new.reader c.list_parts.result (c.in-Some.ensures.value ∙ ap (λ t. t ∷ c.next.new.self) c.if-begins_array.ensures) (c.list_parts.ensures c.args.now)

pub returns : goal.returns
returns c =
    other_form c.args.now c.in-Some-read_rest._passed c.args.reader.now c.next.new.self c.read_rest.new.reader (token_of c.in-Some.token) c.in-Some.ensures.value c.if-begins_object.ensures c.if-begins_array.ensures c.in-Some-read_rest.ensures
