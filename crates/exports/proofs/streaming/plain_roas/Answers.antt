use Rattle.std.proofs.Common.{◌≡◌, ◌∷◌, ◌∙◌, None, false, sym, ap, subst}
use Rattle.std.specs.Prelude.{MatchOption}
use Rattle.json.specs.Reads.{token_of}
use Rattle.exports.specs.PlainForm.{IsScalar, ReadsEntries, ReadsNoItems, ReadsSome, TellsRoas}
use Rattle.exports.specs.Repeating.{roas_repeat}
use Rattle.exports.proofs.PlainParts.{no_array_here, roas_read}
use Rattle.exports.proofs.PlainSteps.{no_array, none_at_end, other}
use Rattle.exports.proofs.streaming.plain_roas.Goals as goal

pub returns-in_default : goal.returns-in_default
returns-in_default c = none_at_end 126 c.args.reader.now c.in_default.ensures.value.0

pub returns-then-not-begins_array : goal.returns-then-not-begins_array
returns-then-not-begins_array c =
    let t = token_of c.in-Some.token in
    subst (λ ts. ReadsSome 126 (λ j d. TellsRoas c.args.now d None × (false ≡ roas_repeat j)) ts c.read_rest.new.reader) (sym c.in-Some.ensures.value)
    (other 126 (λ j d. IsScalar d c.in-Some-read_rest._passed) (λ j d. TellsRoas c.args.now d None × (false ≡ roas_repeat j)) (t ∷ c.next.new.self) c.read_rest.new.reader
    (λ j d made at is. no_array_here 126 t c.next.new.self c.read_rest.new.reader j d c.if-not-begins_array.ensures made at) c.in-Some-read_rest.ensures)

pub returns-in_default-2 : goal.returns-in_default-2
returns-in_default-2 c =
    no_array 125 c.args.reader.now c.next.new.self (c.in-Some.ensures.value ∙ ap (λ t. t ∷ c.next.new.self) c.if-not-begins_array.ensures)
    (subst (λ o. MatchOption o (ReadsNoItems 125 c.next.new.self) (λ r. ReadsEntries c.args.now c.next.new.self c.gather_entries.new.reader r)) c.in_default-2.is c.in_ok-entries.ensures)

pub returns : goal.returns
returns c =
    roas_read c.args.now c.args.reader.now c.next.new.self c.gather_entries.new.reader (c.in-Some-2.entries, c.in-Some-2.repeat) (c.in-Some.ensures.value ∙ ap (λ t. t ∷ c.next.new.self) c.if-not-begins_array.ensures)
    (subst (λ o. MatchOption o (ReadsNoItems 125 c.next.new.self) (λ r. ReadsEntries c.args.now c.next.new.self c.gather_entries.new.reader r)) c.in-Some-2.is c.in_ok-entries.ensures)
