use Rattle.std.proofs.Common.{inl, inr, Bor, true, false, suc, ◌≡◌, ◌-◌, ◌∷◌, ◌∙◌, ℕ, List, Some, None, option_map, refl, sym, ap, subst, arith}
use Rattle.std.specs.Prelude.{◌⊎◌, ⊤, MatchOption}
use Rattle.json.specs.Token.{Token}
use Rattle.json.specs.Json as json
use Rattle.json.specs.Json.{value}
use Rattle.json.specs.declared.token.Token.{Token as Read}
use Rattle.json.specs.declared.token.Token.TheVariants.{EndArray, EndObject, Key, Bad}
use Rattle.json.proofs.Grammar.{value_is}
use Rattle.json.specs.Reads.{token_of}
use Rattle.serde_json.specs.Data.{null, boolean, number, string}
use Rattle.payload_lists.proofs.PlainTurns.{number_read, string_read}
use Rattle.exports.specs.PlainForm.{IsScalar, ReadsNone, ReadsSome}
use Rattle.exports.proofs.PlainParts.{number_none, number_some, read_at}
use Rattle.exports.proofs.PlainSteps.{array_read, begun, begun_items, boolean_read, ends, ends_items, no_array, no_item, no_name, no_object, no_value, none_at, none_at_end, null_read, object_read, one_more, one_more_item, scalar_read, too_deep}
use Rattle.exports.specs.declared.streaming.Scalar.{Scalar}
use Rattle.exports.proofs.streaming.+passing.Goals as goal

abbrev neither : Scalar
neither = record { number = None; text = None; array = false; object = false }

abbrev an_array : Scalar
an_array = record { number = None; text = None; array = true; object = false }

abbrev an_object : Scalar
an_object = record { number = None; text = None; array = false; object = true }

-- ---- items

pub pass_items-loop-reader-init : goal.pass_items-loop-reader-init
pass_items-loop-reader-init t c = begun_items c.args.depth (λ f ds. ⊤) c.args.reader.now tt

pub pass_items-loop-reader-preserved : goal.pass_items-loop-reader-preserved
pass_items-loop-reader-preserved t c =
    one_more_item c.args.depth (λ f ds. ⊤) (λ f ds. ⊤) (λ j d. IsScalar d c.in-Some._passed) c.args.reader.now c.loop-reader.reader c.read_value.new.reader c.loop-reader.invariant c.loop-reader-test.ensures.0
    (subst (λ ts. ReadsSome c.args.depth (λ j d. IsScalar d c.in-Some._passed) ts c.read_value.new.reader) c.loop-reader-test.ensures.1 c.in-Some.ensures) (λ f ds j d a b. tt)

pub pass_items-returns-in_default : goal.pass_items-returns-in_default
pass_items-returns-in_default t c =
    no_item c.args.depth (λ f ds. ⊤) c.args.reader.now c.loop-reader.reader c.loop-reader.invariant c.loop-reader-test.ensures.0 (subst (λ ts. ReadsNone c.args.depth ts) c.loop-reader-test.ensures.1 c.in_default.ensures)

pub pass_items-returns : goal.pass_items-returns
pass_items-returns t c =
    ends_items c.args.depth (λ f ds. ⊤) (λ js ds. ⊤) c.args.reader.now c.loop-reader.reader c.take_end_array.new.self c.loop-reader.invariant c.loop-reader-test.ensures (λ f ds a. tt)

-- ---- members

pub pass_members-loop-reader-init : goal.pass_members-loop-reader-init
pass_members-loop-reader-init t c = begun c.args.depth (λ f ms. ⊤) c.args.reader.now tt

pub pass_members-returns-in-Some-None : goal.pass_members-returns-in-Some-None
pass_members-returns-in-Some-None t c =
    ends c.args.depth (λ f ms. ⊤) (λ js ms. ⊤) c.args.reader.now c.loop-reader.reader c.next_name.new.reader c.loop-reader.invariant
    (c.in-Some-None.ensures ∙ ap (λ k. Some (option_map (λ s. s.now) k, c.next_name.new.reader)) c.in-Some-None.field-0-is) (λ f ms a. tt)

pub pass_members-returns-in-None : goal.pass_members-returns-in-None
pass_members-returns-in-None t c = no_name c.args.depth (λ f ms. ⊤) c.args.reader.now c.loop-reader.reader c.loop-reader.invariant c.in-None.ensures

pub pass_members-loop-reader-preserved : goal.pass_members-loop-reader-preserved
pass_members-loop-reader-preserved t c =
    one_more c.args.depth (λ f ms. ⊤) (λ f ms. ⊤) (λ j d. IsScalar d c.in-Some._passed) c.args.reader.now c.loop-reader.reader c.next_name.new.reader c.read_value.new.reader c.in-Some-Some.field-0-0.now c.loop-reader.invariant
    (c.in-Some-Some.ensures ∙ ap (λ k. Some (option_map (λ s. s.now) k, c.next_name.new.reader)) c.in-Some-Some.field-0-is) c.in-Some.ensures (λ f ms j d a b. tt)

pub pass_members-returns-in_default : goal.pass_members-returns-in_default
pass_members-returns-in_default t c =
    no_value c.args.depth (λ f ms. ⊤) c.args.reader.now c.loop-reader.reader c.next_name.new.reader c.in-Some-Some.field-0-0.now c.loop-reader.invariant
    (c.in-Some-Some.ensures ∙ ap (λ k. Some (option_map (λ s. s.now) k, c.next_name.new.reader)) c.in-Some-Some.field-0-is) c.in_default.ensures

-- ---- values

pub read_value-returns-in_err-token : goal.read_value-returns-in_err-token
read_value-returns-in_err-token t c =
    subst (λ o. MatchOption o (ReadsNone c.args.depth c.args.reader.now) (λ s. ReadsSome c.args.depth (λ j d. IsScalar d s) c.args.reader.now c.next.new.self)) (sym c.from_residual.ensures)
    (none_at_end c.args.depth c.args.reader.now c.in_err-token.ensures.value.0)

pub read_value-returns : goal.read_value-returns
read_value-returns t c =
    read_at c.args.depth (λ s j d. IsScalar d s) c.args.reader.now (token_of c.in_ok-token.token ∷ c.next.new.self) c.read_rest.new.reader c.read_rest.result c.in_ok-token.ensures.value c.read_rest.ensures

pub read_array-returns-then-depth-eq0 : goal.read_array-returns-then-depth-eq0
read_array-returns-then-depth-eq0 t c = (too_deep c.args.depth c.args.reader.now c.if-depth-eq0.true).1

pub read_array-returns-then-not-pass_items : goal.read_array-returns-then-not-pass_items
read_array-returns-then-not-pass_items t c =
    let deep : suc (c.args.depth - 1) ≡ c.args.depth = omega (arith, c.if-depth-eq0.false) in
    subst (λ k. ReadsNone k (Token.begin_array ∷ c.args.reader.now)) deep (no_array (c.args.depth - 1) (Token.begin_array ∷ c.args.reader.now) c.args.reader.now refl c.if-not-pass_items.ensures)

pub read_array-returns : goal.read_array-returns
read_array-returns t c =
    let deep : suc (c.args.depth - 1) ≡ c.args.depth = omega (arith, c.if-depth-eq0.false) in
    subst (λ k. ReadsSome k (λ j d. IsScalar d an_array) (Token.begin_array ∷ c.args.reader.now) c.pass_items.new.reader) deep
    (array_read (c.args.depth - 1) (λ js ds. ⊤) (λ j d. IsScalar d an_array) (Token.begin_array ∷ c.args.reader.now) c.args.reader.now c.pass_items.new.reader refl c.if-not-pass_items.ensures (λ js ds h. (refl, refl, refl, refl)))

pub read_object-returns-then-depth-eq0 : goal.read_object-returns-then-depth-eq0
read_object-returns-then-depth-eq0 t c = (too_deep c.args.depth c.args.reader.now c.if-depth-eq0.true).0

pub read_object-returns-then-not-pass_members : goal.read_object-returns-then-not-pass_members
read_object-returns-then-not-pass_members t c =
    let deep : suc (c.args.depth - 1) ≡ c.args.depth = omega (arith, c.if-depth-eq0.false) in
    subst (λ k. ReadsNone k (Token.begin_object ∷ c.args.reader.now)) deep (no_object (c.args.depth - 1) (Token.begin_object ∷ c.args.reader.now) c.args.reader.now refl c.if-not-pass_members.ensures)

pub read_object-returns : goal.read_object-returns
read_object-returns t c =
    let deep : suc (c.args.depth - 1) ≡ c.args.depth = omega (arith, c.if-depth-eq0.false) in
    subst (λ k. ReadsSome k (λ j d. IsScalar d an_object) (Token.begin_object ∷ c.args.reader.now) c.pass_members.new.reader) deep
    (object_read (c.args.depth - 1) (λ js ms. ⊤) (λ j d. IsScalar d an_object) (Token.begin_object ∷ c.args.reader.now) c.args.reader.now c.pass_members.new.reader refl c.if-not-pass_members.ensures (λ js ms h. (refl, refl, refl, refl)))

pub read_rest-returns-in_err-scalar_number-in-Number : goal.read_rest-returns-in_err-scalar_number-in-Number
read_rest-returns-in_err-scalar_number-in-Number t c =
    subst (λ o. MatchOption o (ReadsNone c.args.depth (token_of c.args.token ∷ c.args.reader.now)) (λ s. ReadsSome c.args.depth (λ j d. IsScalar d s) (token_of c.args.token ∷ c.args.reader.now) c.args.reader.now)) (sym c.from_residual.ensures)
    (number_none c.args.depth c.in-Number.text.now (token_of c.args.token ∷ c.args.reader.now) c.args.reader.now (ap (λ k. token_of k ∷ c.args.reader.now) c.in-Number.is) c.in_err-scalar_number-in-Number.ensures)

pub read_rest-returns-in_ok-scalar_number-in-Number : goal.read_rest-returns-in_ok-scalar_number-in-Number
read_rest-returns-in_ok-scalar_number-in-Number t c =
    let n = c.in_ok-scalar_number-in-Number.field-0 in
    let x = number_some c.in-Number.text.now n c.in_ok-scalar_number-in-Number.ensures in
    scalar_read c.args.depth (λ j d. IsScalar d (record { number = n; text = None; array = false; object = false })) (token_of c.args.token ∷ c.args.reader.now) c.args.reader.now (Token.number c.in-Number.text.now)
    (json.number c.in-Number.text.now) (number x.0) (ap (λ k. token_of k ∷ c.args.reader.now) c.in-Number.is) (number_read c.in-Number.text.now c.args.reader.now c.args.depth) (ap (option_map number) x.1) (x.2, refl, refl, refl)

pub read_rest-returns-in-String : goal.read_rest-returns-in-String
read_rest-returns-in-String t c =
    scalar_read c.args.depth (λ j d. IsScalar d (record { number = None; text = Some c.in-String.text; array = false; object = false })) (token_of c.args.token ∷ c.args.reader.now) c.args.reader.now (Token.string c.in-String.text.now)
    (json.string c.in-String.text.now) (string c.in-String.text.now) (ap (λ k. token_of k ∷ c.args.reader.now) c.in-String.is) (string_read c.in-String.text.now c.args.reader.now c.args.depth) refl (refl, refl, refl, refl)

pub read_rest-returns-in-Bool : goal.read_rest-returns-in-Bool
read_rest-returns-in-Bool t c =
    scalar_read c.args.depth (λ j d. IsScalar d neither) (token_of c.args.token ∷ c.args.reader.now) c.args.reader.now (Token.boolean c.in-Bool._bit) (json.boolean c.in-Bool._bit)
    (boolean c.in-Bool._bit) (ap (λ k. token_of k ∷ c.args.reader.now) c.in-Bool.is) (boolean_read c.in-Bool._bit c.args.reader.now c.args.depth) refl (refl, refl, refl, refl)

pub read_rest-returns-in-Null : goal.read_rest-returns-in-Null
read_rest-returns-in-Null t c =
    scalar_read c.args.depth (λ j d. IsScalar d neither) (token_of c.args.token ∷ c.args.reader.now) c.args.reader.now Token.null json.null
    null (ap (λ k. token_of k ∷ c.args.reader.now) c.in-Null.is) (null_read c.args.reader.now c.args.depth) refl (refl, refl, refl, refl)

-- A token that begins no value
ends_at : (k : ℕ) (t : Read) (new : List Token) → (t ≡ EndArray) ⊎ (t ≡ EndObject) ⊎ ((x : Bor (List ℕ)) × (t ≡ Key x)) ⊎ (t ≡ Bad) → ReadsNone k (token_of t ∷ new)
ends_at k t new (inl is) = none_at k (token_of t ∷ new) (ap (λ x. value k (token_of x ∷ new)) is ∙ value_is k (Token.end_array ∷ new))
ends_at k t new (inr (inl is)) = none_at k (token_of t ∷ new) (ap (λ x. value k (token_of x ∷ new)) is ∙ value_is k (Token.end_object ∷ new))
ends_at k t new (inr (inr (inl is))) = none_at k (token_of t ∷ new) (ap (λ x. value k (token_of x ∷ new)) is.1 ∙ value_is k (Token.key is.0.now ∷ new))
ends_at k t new (inr (inr (inr is))) = none_at k (token_of t ∷ new) (ap (λ x. value k (token_of x ∷ new)) is ∙ value_is k (Token.bad ∷ new))

pub read_rest-returns-in-EndArray : goal.read_rest-returns-in-EndArray
read_rest-returns-in-EndArray t c = ends_at c.args.depth c.args.token c.args.reader.now c.in-EndArray.is
