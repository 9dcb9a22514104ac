use Rattle.std.proofs.Common.{◌∷◌, ◌∙◌, None, sym, ap, subst}
use Rattle.std.specs.Prelude.{MatchOption}
use Rattle.json.specs.Reads.{token_of}
use Rattle.exports.specs.ListForm.{HoldsEntry, IsListed, ReadsListed}
use Rattle.exports.specs.PlainForm.{IsScalar, ReadsNone, ReadsSome}
use Rattle.exports.proofs.ListParts.{listed_of, not_listed}
use Rattle.exports.proofs.PlainParts.{no_object_here}
use Rattle.exports.proofs.PlainSteps.{no_object, none_at_end, object_read, other}
use Rattle.exports.proofs.lists.list_entry.Goals as goal

pub returns-in_err-token : goal.returns-in_err-token
returns-in_err-token c =
    subst (λ o. MatchOption o (ReadsNone 126 c.args.reader.now) (λ found. ReadsListed c.args.reader.now c.next.new.self found)) (sym c.from_residual.ensures) (none_at_end 126 c.args.reader.now c.in_err-token.ensures.value.0)

pub returns-then-not-begins_object : goal.returns-then-not-begins_object
returns-then-not-begins_object c =
    let t = token_of c.in_ok-token.token in
    subst (λ ts. ReadsSome 126 (λ j d. IsListed d None) ts c.read_rest.new.reader) (sym c.in_ok-token.ensures.value)
    (other 126 (λ j d. IsScalar d c.in_ok-_passed._passed) (λ j d. IsListed d None) (t ∷ c.next.new.self) c.read_rest.new.reader
    (λ j d made at is. not_listed d (no_object_here 126 t c.next.new.self c.read_rest.new.reader j d c.if-not-begins_object.ensures made at).0) c.in_ok-_passed.ensures)

pub returns-in_err-found : goal.returns-in_err-found
returns-in_err-found c =
    subst (λ o. MatchOption o (ReadsNone 126 c.args.reader.now) (λ found. ReadsListed c.args.reader.now c.list_members.new.reader found)) (sym c.from_residual-in_err-found.ensures)
    (no_object 125 c.args.reader.now c.next.new.self (c.in_ok-token.ensures.value ∙ ap (λ t. t ∷ c.next.new.self) c.if-not-begins_object.ensures) c.in_err-found.ensures)

pub returns : goal.returns
returns c =
    object_read 125 (λ js ms. HoldsEntry ms c.in_ok-found.found) (λ j d. IsListed d c.payload_of.result) c.args.reader.now c.next.new.self c.list_members.new.reader
    (c.in_ok-token.ensures.value ∙ ap (λ t. t ∷ c.next.new.self) c.if-not-begins_object.ensures) c.in_ok-found.ensures
    (λ js ms h. listed_of ms c.in_ok-found.found c.payload_of.result h c.payload_of.ensures.some c.payload_of.ensures.none)
