use Rattle.std.proofs.Common.{◌≡◌, ◌∙◌, ap, sym, subst}
use Rattle.std.specs.Prelude.{MatchOption}
use Rattle.json.specs.Reads.{token_of}
use Rattle.json_texts.specs.Encoding.{begins_with_zero}
use Rattle.json_texts.proofs.Zero.{zero_is_no_json}
use Rattle.payload_lists.proofs.PlainMembers.{if_none}
use Rattle.exports.specs.PlainForm.{ReadsForm, ReadsNone, TellsParts}
use Rattle.exports.specs.Repeating.{export_repeats}
use Rattle.exports.proofs.PlainParts.{there_is}
use Rattle.exports.proofs.PlainWhole.{more_than_json, no_json, whole_form}
use Rattle.exports.proofs.text.parts_of_text.Goals as goal

pub returns-then-begins_with_zero-clause-fault : goal.returns-then-begins_with_zero-clause-fault
returns-then-begins_with_zero-clause-fault c = zero_is_no_json c.args.text.now (ap begins_with_zero (sym c.as_bytes.ensures.value) ∙ sym c.begins_with_zero.ensures ∙ c.if-begins_with_zero.true)

pub returns-in_default-clause-fault : goal.returns-in_default-clause-fault
returns-in_default-clause-fault c =
    no_json c.args.text.now c.in_ok-reader.reader c.in_ok-reader.ensures.ok
    (subst (λ o. MatchOption o (ReadsNone 127 c.in_ok-reader.reader) (λ p. ReadsForm c.args.now c.in_ok-reader.reader c.value_parts.new.reader p)) c.in_default.is c.in_ok-parts.ensures)

pub returns-then-is_some-clause-fault : goal.returns-then-is_some-clause-fault
returns-then-is_some-clause-fault c =
    let p = c.in-Some.parts in
    let more = there_is c.next.result _ _ c.if-is_some.ensures c.next.ensures.value in
    more_than_json c.args.text.now (λ j d. TellsParts c.args.now d p × (p.repeats ≡ export_repeats j)) c.in_ok-reader.reader c.value_parts.new.reader c.next.new.self (token_of more.0) c.in_ok-reader.ensures.ok
    (subst (λ o. MatchOption o (ReadsNone 127 c.in_ok-reader.reader) (λ q. ReadsForm c.args.now c.in_ok-reader.reader c.value_parts.new.reader q)) c.in-Some.is c.in_ok-parts.ensures) more.1

pub returns-clause-ok : goal.returns-clause-ok
returns-clause-ok c =
    whole_form c.args.text.now c.args.now c.in-Some.parts c.in_ok-reader.reader c.value_parts.new.reader c.in_ok-reader.ensures.ok
    (subst (λ o. MatchOption o (ReadsNone 127 c.in_ok-reader.reader) (λ q. ReadsForm c.args.now c.in_ok-reader.reader c.value_parts.new.reader q)) c.in-Some.is c.in_ok-parts.ensures)
    (if_none c.next.result _ _ (sym c.if-is_some.ensures) c.next.ensures.value).0
