use Rattle.std.proofs.Common.{◌≡◌, ◌∷◌, ◌∙◌, None, false, codes, sym, ap, subst}
use Rattle.std.specs.Prelude.{MatchOption}
use Rattle.json.specs.Reads.{token_of}
use Rattle.exports.specs.PlainForm.{IsMetadata, IsScalar, ReadsBuilt, ReadsNone, ReadsSome, TellsBuilt}
use Rattle.exports.specs.Repeating.{metadata_repeat, two_twice}
use Rattle.exports.proofs.PlainParts.{built_by, no_object_here, not_built}
use Rattle.exports.proofs.PlainSteps.{no_object, none_at_end, object_read, other}
use Rattle.exports.proofs.streaming.plain_built.Goals as goal

pub returns-in_err-token : goal.returns-in_err-token
returns-in_err-token c =
    subst (λ o. MatchOption o (ReadsNone 126 c.args.reader.now) (λ r. ReadsBuilt c.args.reader.now c.next.new.self r)) (sym c.from_residual.ensures) (none_at_end 126 c.args.reader.now c.in_err-token.ensures.value.0)

pub returns-then-not-begins_object : goal.returns-then-not-begins_object
returns-then-not-begins_object c =
    let t = token_of c.in_ok-token.token in
    subst (λ ts. ReadsSome 126 (λ j d. TellsBuilt d None × (false ≡ metadata_repeat j)) ts c.read_rest.new.reader) (sym c.in_ok-token.ensures.value)
    (other 126 (λ j d. IsScalar d c.in_ok-_passed._passed) (λ j d. TellsBuilt d None × (false ≡ metadata_repeat j)) (t ∷ c.next.new.self) c.read_rest.new.reader
    (λ j d made at is. let no = no_object_here 126 t c.next.new.self c.read_rest.new.reader j d c.if-not-begins_object.ensures made at in (not_built d no.0, no.2)) c.in_ok-_passed.ensures)

pub returns-in_err-metadata : goal.returns-in_err-metadata
returns-in_err-metadata c =
    subst (λ o. MatchOption o (ReadsNone 126 c.args.reader.now) (λ r. ReadsBuilt c.args.reader.now c.plain_metadata.new.reader r)) (sym c.from_residual-in_err-metadata.ensures)
    (no_object 125 c.args.reader.now c.next.new.self (c.in_ok-token.ensures.value ∙ ap (λ t. t ∷ c.next.new.self) c.if-not-begins_object.ensures) c.in_err-metadata.ensures)

pub returns : goal.returns
returns c =
    object_read 125 (λ js ms. IsMetadata ms c.in_ok-metadata.metadata × (c.in_ok-metadata.repeat ≡ two_twice (codes "generated") (codes "buildtime") js)) (λ j d. TellsBuilt d c.built.result × (c.in_ok-metadata.repeat ≡ metadata_repeat j))
    c.args.reader.now c.next.new.self c.plain_metadata.new.reader (c.in_ok-token.ensures.value ∙ ap (λ t. t ∷ c.next.new.self) c.if-not-begins_object.ensures) c.in_ok-metadata.ensures
    (λ js ms h. (built_by ms c.in_ok-metadata.metadata c.built.result h.0 c.built.ensures, h.1))
