use Rattle.std.proofs.Common.{◌≡◌, ◌∷◌, ◌∙◌, Err, None, false, option_map, refl, sym, ap, subst, inl}
use Rattle.std.specs.Prelude.{MatchOption, codes}
use Rattle.payload_lists.specs.PayloadList.{text_at}
use Rattle.json.specs.Reads.{token_of}
use Rattle.exports.specs.Gathering.{said_by}
use Rattle.exports.specs.PlainForm.{IsRawEntry, IsJudged, IsScalar, ReadsEntry, ReadsNone, ReadsSome}
use Rattle.exports.specs.Repeating.{entry_repeats, entry_twice}
use Rattle.exports.specs.declared.fault.EntryFault.TheVariants as faults
use Rattle.exports.proofs.PlainParts.{judged_of, no_object_here, no_text}
use Rattle.exports.proofs.PlainSteps.{no_object, none_at_end, object_read, other}
use Rattle.exports.proofs.streaming.plain_entry.Goals as goal

pub returns-in_err-token : goal.returns-in_err-token
returns-in_err-token c =
    subst (λ o. MatchOption o (ReadsNone 125 c.args.reader.now) (λ r. ReadsEntry c.args.reader.now c.next.new.self r)) (sym c.from_residual.ensures) (none_at_end 125 c.args.reader.now c.in_err-token.ensures.value.0)

pub returns-then-not-begins_object : goal.returns-then-not-begins_object
returns-then-not-begins_object c =
    let t = token_of c.in_ok-token.token in
    subst (λ ts. ReadsSome 125 (λ j d. (IsJudged d (Err faults.NoObject) × (text_at (codes "ta") d ≡ None)) × (false ≡ entry_repeats j)) ts c.read_rest.new.reader) (sym c.in_ok-token.ensures.value)
    (other 125 (λ j d. IsScalar d c.in_ok-_passed._passed) (λ j d. (IsJudged d (Err faults.NoObject) × (text_at (codes "ta") d ≡ None)) × (false ≡ entry_repeats j)) (t ∷ c.next.new.self) c.read_rest.new.reader
    (λ j d made at is. let no = no_object_here 125 t c.next.new.self c.read_rest.new.reader j d c.if-not-begins_object.ensures made at in ((inl (no.0, refl), no_text (codes "ta") d no.0), no.1)) c.in_ok-_passed.ensures)

pub returns-in_err-found : goal.returns-in_err-found
returns-in_err-found c =
    subst (λ o. MatchOption o (ReadsNone 125 c.args.reader.now) (λ r. ReadsEntry c.args.reader.now c.plain_members.new.reader r)) (sym c.from_residual-in_err-found.ensures)
    (no_object 124 c.args.reader.now c.next.new.self (c.in_ok-token.ensures.value ∙ ap (λ t. t ∷ c.next.new.self) c.if-not-begins_object.ensures) c.in_err-found.ensures)

pub returns : goal.returns
returns c =
    object_read 124 (λ js ms. IsRawEntry ms c.in_ok-found.found × (c.in_ok-found.repeat ≡ entry_twice js)) (λ j d. (IsJudged d c.judged.result × (text_at (codes "ta") d ≡ option_map (λ s. s.now) c.in_ok-found.found.ta)) × (c.in_ok-found.repeat ≡ entry_repeats j)) c.args.reader.now c.next.new.self c.plain_members.new.reader
    (c.in_ok-token.ensures.value ∙ ap (λ t. t ∷ c.next.new.self) c.if-not-begins_object.ensures) c.in_ok-found.ensures
    (λ js ms h. ((judged_of ms (said_by c.in_ok-found.found) c.judged.result h.0.0 c.judged.ensures.ok c.judged.ensures.fault, h.0.1), h.1))
