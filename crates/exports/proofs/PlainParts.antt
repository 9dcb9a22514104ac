-- What is found in the members of an object while they are read.
use Rattle.std.proofs.Common.{◌≡◌, ◌≢◌, ◌||◌, ℕ, zero, suc, ◌++◌, ◌∷◌, [], true, false, List, length, Option, Some, None, Result, Ok, Err, option_map, get_or, refl, sym, ap, subst, ◌∙◌, arith, inr}
use Rattle.std.specs.Prelude.{Bool, IfErr, IfOk, MatchOption, codes, is_some, option_and_then}
use Rattle.json.specs.Token.{Token}
use Rattle.serde_json.specs.Data.{Num, Data, null, boolean, number, string, array, object, Items, no_items, Members, no_members, put}
use Rattle.serde_json.specs.Find.{as_array, as_number, as_object, as_str, as_u64, get_member}
use Rattle.json.specs.Json as json
use Rattle.json.specs.Json.{Json, Parse, parse_map, value, value_with}
use Rattle.json.proofs.Grammar.{value_is}
use Rattle.payload_lists.proofs.PlainTurns.{number_read}
use Rattle.exports.specs.Repeating.{entry_repeats, items_repeat, metadata_repeat, roas_repeat}
use Rattle.serde_json.specs.Read.{converted, number_of, of_items, of_json, of_members}
use Rattle.serde_json.proofs.Views.{get_member-put, get_member-put_other}
use Rattle.payload_lists.specs.PayloadList.{text_at, whole_at}
use Rattle.exports.specs.Built.{IsBuilt}
use Rattle.exports.specs.Numbering.{Anchors}
use Rattle.exports.proofs.Anchoring.{anchors_before}
use Rattle.exports.specs.Entry.{AreEntries, FailsAt, IsEntry, IsNoEntry, Said, SaysEntry, SaysFault, said, whole}
use Rattle.exports.specs.PlainForm.{AreListed, FailsIn, IsRawEntry, IsJudged, IsMetadata, IsScalar, ReadsEntries, ReadsNone, ReadsRoas, ReadsSome, TellsBuilt, TellsItems, TellsListed, TellsRoas, before}
use Rattle.exports.proofs.PlainSteps.{array_read}
use Rattle.exports.specs.declared.entry.ExportEntry.{ExportEntry}
use Rattle.exports.specs.declared.fault.EntryFault.{EntryFault}
use Rattle.exports.specs.declared.streaming.Entries.{Entries}
use Rattle.exports.specs.declared.streaming.Entries.TheVariants.{Whole, Broken}
use Rattle.exports.specs.declared.entry.RawEntry.{RawEntry}
use Rattle.exports.specs.declared.streaming.Metadata.{Metadata}
use Rattle.exports.specs.declared.streaming.Scalar.{Scalar}

-- What stands under the name that was put, and what under another one
pub number_put : (k : List ℕ) (d : Data) (ms : Members) → whole_at k (object (put k d ms)) ≡ whole d
number_put k d ms = ap (λ o. option_and_then as_u64 (option_and_then as_number o)) (get_member-put k d ms)

pub text_put : (k : List ℕ) (d : Data) (ms : Members) → text_at k (object (put k d ms)) ≡ as_str d
text_put k d ms = ap (λ o. option_and_then as_str o) (get_member-put k d ms)

pub number_kept : (q k : List ℕ) (d : Data) (ms : Members) → (q ≡ k → ⊥) → whole_at q (object (put k d ms)) ≡ whole_at q (object ms)
number_kept q k d ms other = ap (λ o. option_and_then as_u64 (option_and_then as_number o)) (get_member-put_other q k d ms other)

pub text_kept : (q k : List ℕ) (d : Data) (ms : Members) → (q ≡ k → ⊥) → text_at q (object (put k d ms)) ≡ text_at q (object ms)
text_kept q k d ms other = ap (λ o. option_and_then as_str o) (get_member-put_other q k d ms other)

expiry_kept : (k : List ℕ) (d : Data) (ms : Members) → (codes "expires" ≡ k → ⊥) → option_map whole (get_member (codes "expires") (put k d ms)) ≡ option_map whole (get_member (codes "expires") ms)
expiry_kept k d ms other = ap (option_map whole) (get_member-put_other (codes "expires") k d ms other)

-- ---- an entry

pub found_nothing : IsRawEntry no_members (record { asn_number = None; asn_text = None; prefix = None; max_len = None; expires = None; ta = None })
found_nothing = (refl, refl)

pub found_asn : (ms : Members) (d : Data) (f : RawEntry) (s : Scalar) → IsRawEntry ms f → IsScalar d s → IsRawEntry (put (codes "asn") d ms) (record f { asn_number = s.number; asn_text = s.text })
found_asn ms d f s is scalar =
    let n = number_put (codes "asn") d ms ∙ scalar.0 in
    let t = text_put (codes "asn") d ms ∙ scalar.1 in
    let p = text_kept (codes "prefix") (codes "asn") d ms (λ e. cc) ∙ ap (λ x. x.prefix) is.0 in
    let m = number_kept (codes "maxLength") (codes "asn") d ms (λ e. cc) ∙ ap (λ x. x.max_len) is.0 in
    let e = expiry_kept (codes "asn") d ms (λ e. cc) ∙ ap (λ x. x.expires) is.0 in
    (λ i. record { asn_number = n i; asn_text = t i; prefix = p i; max_len = m i; expires = e i }, text_kept (codes "ta") (codes "asn") d ms (λ e. cc) ∙ is.1)

pub found_prefix : (ms : Members) (d : Data) (f : RawEntry) (s : Scalar) → IsRawEntry ms f → IsScalar d s → IsRawEntry (put (codes "prefix") d ms) (record f { prefix = s.text })
found_prefix ms d f s is scalar =
    let n = number_kept (codes "asn") (codes "prefix") d ms (λ e. cc) ∙ ap (λ x. x.asn_number) is.0 in
    let t = text_kept (codes "asn") (codes "prefix") d ms (λ e. cc) ∙ ap (λ x. x.asn_text) is.0 in
    let p = text_put (codes "prefix") d ms ∙ scalar.1 in
    let m = number_kept (codes "maxLength") (codes "prefix") d ms (λ e. cc) ∙ ap (λ x. x.max_len) is.0 in
    let e = expiry_kept (codes "prefix") d ms (λ e. cc) ∙ ap (λ x. x.expires) is.0 in
    (λ i. record { asn_number = n i; asn_text = t i; prefix = p i; max_len = m i; expires = e i }, text_kept (codes "ta") (codes "prefix") d ms (λ e. cc) ∙ is.1)

pub found_max_len : (ms : Members) (d : Data) (f : RawEntry) (s : Scalar) → IsRawEntry ms f → IsScalar d s → IsRawEntry (put (codes "maxLength") d ms) (record f { max_len = s.number })
found_max_len ms d f s is scalar =
    let n = number_kept (codes "asn") (codes "maxLength") d ms (λ e. cc) ∙ ap (λ x. x.asn_number) is.0 in
    let t = text_kept (codes "asn") (codes "maxLength") d ms (λ e. cc) ∙ ap (λ x. x.asn_text) is.0 in
    let p = text_kept (codes "prefix") (codes "maxLength") d ms (λ e. cc) ∙ ap (λ x. x.prefix) is.0 in
    let m = number_put (codes "maxLength") d ms ∙ scalar.0 in
    let e = expiry_kept (codes "maxLength") d ms (λ e. cc) ∙ ap (λ x. x.expires) is.0 in
    (λ i. record { asn_number = n i; asn_text = t i; prefix = p i; max_len = m i; expires = e i }, text_kept (codes "ta") (codes "maxLength") d ms (λ e. cc) ∙ is.1)

pub found_expires : (ms : Members) (d : Data) (f : RawEntry) (s : Scalar) → IsRawEntry ms f → IsScalar d s → IsRawEntry (put (codes "expires") d ms) (record f { expires = Some s.number })
found_expires ms d f s is scalar =
    let n = number_kept (codes "asn") (codes "expires") d ms (λ e. cc) ∙ ap (λ x. x.asn_number) is.0 in
    let t = text_kept (codes "asn") (codes "expires") d ms (λ e. cc) ∙ ap (λ x. x.asn_text) is.0 in
    let p = text_kept (codes "prefix") (codes "expires") d ms (λ e. cc) ∙ ap (λ x. x.prefix) is.0 in
    let m = number_kept (codes "maxLength") (codes "expires") d ms (λ e. cc) ∙ ap (λ x. x.max_len) is.0 in
    let e = ap (option_map whole) (get_member-put (codes "expires") d ms) ∙ ap Some scalar.0 in
    (λ i. record { asn_number = n i; asn_text = t i; prefix = p i; max_len = m i; expires = e i }, text_kept (codes "ta") (codes "expires") d ms (λ e. cc) ∙ is.1)

pub found_ta : (ms : Members) (d : Data) (f : RawEntry) (s : Scalar) → IsRawEntry ms f → IsScalar d s → IsRawEntry (put (codes "ta") d ms) (record f { ta = s.text })
found_ta ms d f s is scalar =
    let n = number_kept (codes "asn") (codes "ta") d ms (λ e. cc) ∙ ap (λ x. x.asn_number) is.0 in
    let t = text_kept (codes "asn") (codes "ta") d ms (λ e. cc) ∙ ap (λ x. x.asn_text) is.0 in
    let p = text_kept (codes "prefix") (codes "ta") d ms (λ e. cc) ∙ ap (λ x. x.prefix) is.0 in
    let m = number_kept (codes "maxLength") (codes "ta") d ms (λ e. cc) ∙ ap (λ x. x.max_len) is.0 in
    let e = expiry_kept (codes "ta") d ms (λ e. cc) ∙ ap (λ x. x.expires) is.0 in
    (λ i. record { asn_number = n i; asn_text = t i; prefix = p i; max_len = m i; expires = e i }, text_put (codes "ta") d ms ∙ scalar.1)

pub found_other : (k : List ℕ) (ms : Members) (d : Data) (f : RawEntry) → (k ≡ codes "asn" → ⊥) → (k ≡ codes "prefix" → ⊥) → (k ≡ codes "maxLength" → ⊥) → (k ≡ codes "expires" → ⊥) → (k ≡ codes "ta" → ⊥)
    → IsRawEntry ms f → IsRawEntry (put k d ms) f
found_other k ms d f asn prefix max_len expires ta is =
    let n = number_kept (codes "asn") k d ms (λ e. asn (sym e)) ∙ ap (λ x. x.asn_number) is.0 in
    let t = text_kept (codes "asn") k d ms (λ e. asn (sym e)) ∙ ap (λ x. x.asn_text) is.0 in
    let p = text_kept (codes "prefix") k d ms (λ e. prefix (sym e)) ∙ ap (λ x. x.prefix) is.0 in
    let m = number_kept (codes "maxLength") k d ms (λ e. max_len (sym e)) ∙ ap (λ x. x.max_len) is.0 in
    let e = expiry_kept k d ms (λ e. expires (sym e)) ∙ ap (λ x. x.expires) is.0 in
    (λ i. record { asn_number = n i; asn_text = t i; prefix = p i; max_len = m i; expires = e i }, text_kept (codes "ta") k d ms (λ e. ta (sym e)) ∙ is.1)

-- What is no object has no text.
pub no_text : (k : List ℕ) (d : Data) → is_some (as_object d) ≡ false → text_at k d ≡ None
no_text k null other = refl
no_text k (boolean b) other = refl
no_text k (number n) other = refl
no_text k (string s) other = refl
no_text k (array ds) other = refl
no_text k (object ms) other = absurd (let yes : true ≡ false = other in cc)

-- ---- metadata

apart : codes "generated" ≡ codes "buildtime" → ⊥
apart e = let first : ◌≡◌ {A = ℕ} 103 98 = ap (λ (l : List ℕ). get_or l 0 0) e in absurd (omega (arith, first))

pub told_nothing : IsMetadata no_members (record { generated = None; buildtime = None })
told_nothing = (refl, refl)

pub told_generated : (ms : Members) (d : Data) (m : Metadata) (s : Scalar) → IsMetadata ms m → IsScalar d s → IsMetadata (put (codes "generated") d ms) (record m { generated = s.number })
told_generated ms d m s is scalar = (number_put (codes "generated") d ms ∙ scalar.0, text_kept (codes "buildtime") (codes "generated") d ms (λ e. apart (sym e)) ∙ is.1)

pub told_buildtime : (ms : Members) (d : Data) (m : Metadata) (s : Scalar) → IsMetadata ms m → IsScalar d s → IsMetadata (put (codes "buildtime") d ms) (record m { buildtime = s.text })
told_buildtime ms d m s is scalar = (number_kept (codes "generated") (codes "buildtime") d ms apart ∙ is.0, text_put (codes "buildtime") d ms ∙ scalar.1)

pub told_other : (k : List ℕ) (ms : Members) (d : Data) (m : Metadata) → (k ≡ codes "generated" → ⊥) → (k ≡ codes "buildtime" → ⊥) → IsMetadata ms m → IsMetadata (put k d ms) m
told_other k ms d m generated buildtime is = (number_kept (codes "generated") k d ms (λ e. generated (sym e)) ∙ is.0, text_kept (codes "buildtime") k d ms (λ e. buildtime (sym e)) ∙ is.1)

pub built_by : (ms : Members) (m : Metadata) (built : Option ℕ) → IsMetadata ms m → IsBuilt m.generated (option_map (λ t. t.now) m.buildtime) built → TellsBuilt (object ms) built
built_by ms m built is h = subst (λ n. IsBuilt n (text_at (codes "buildtime") (object ms)) built) (sym is.0) (subst (λ t. IsBuilt m.generated t built) (sym is.1) h)

-- ---- entries

pub are_more : (ds : List Data) (es : List ExportEntry) (d : Data) (e : ExportEntry) → AreListed ds es → IsEntry d e → AreListed (ds ++ d ∷ []) (es ++ e ∷ [])
are_more [] [] d e h is = (is, tt)
are_more (x ∷ ds) (y ∷ es) d e h is = (h.0, are_more ds es d e h.1 is)
are_more [] (y ∷ es) d e h is = absurd h
are_more (x ∷ ds) [] d e h is = absurd h

are_all : (ds : List Data) (es : List ExportEntry) → AreListed ds es → AreEntries (before ds no_items) es
are_all [] [] h = tt
are_all (x ∷ ds) (y ∷ es) h = (h.0, are_all ds es h.1)
are_all [] (y ∷ es) h = absurd h
are_all (x ∷ ds) [] h = absurd h

-- The first that is no entry stays the first, where others follow,
pub fails_more : (ds : List Data) (d : Data) (i : ℕ) (w : EntryFault) → FailsIn ds i w → FailsIn (ds ++ d ∷ []) i w
fails_more [] d i w h = absurd h
fails_more (x ∷ ds) d zero w h = h
fails_more (x ∷ ds) d (suc i) w h = (h.0, fails_more ds d i w h.1)

-- and behind entries the next one is.
pub fails_last : (ds : List Data) (es : List ExportEntry) (d : Data) (w : EntryFault) → AreListed ds es → IsNoEntry d w → FailsIn (ds ++ d ∷ []) (length ds) w
fails_last [] [] d w h none = none
fails_last (x ∷ ds) (e ∷ es) d w h none = ((e, h.0), fails_last ds es d w h.1 none)
fails_last [] (e ∷ es) d w h none = absurd h
fails_last (x ∷ ds) [] d w h none = absurd h

fails_all : (ds : List Data) (i : ℕ) (w : EntryFault) → FailsIn ds i w → FailsAt (before ds no_items) i w
fails_all [] i w h = absurd h
fails_all (d ∷ ds) zero w h = h
fails_all (d ∷ ds) (suc i) w h = (h.0, fails_all ds i w h.1)

pub told_all : (now : ℕ) (ds : List Data) (entries : Entries) → TellsListed now ds entries → TellsItems now (before ds no_items) entries
told_all now ds (Whole g) h = (h.0, are_all ds h.0 h.1, h.2, subst (λ names. Anchors now h.0 names g) (anchors_before ds) h.3)
told_all now ds (Broken i w) h = fails_all ds i w h

-- the entries so far
abbrev pub EntriesSoFar : ℕ → ℕ → Entries → Bool → (json.Items → json.Items) → List Data → Type 0
EntriesSoFar now index entries repeat f ds = (length ds ≡ index) × TellsListed now ds entries × ((rest : json.Items) → items_repeat (f rest) ≡ (repeat || items_repeat rest))

-- One more of which a name is repeated, or is not
pub or_more : (a b c : Bool) → (a || (b || c)) ≡ ((a || b) || c)
or_more true b c = refl
or_more false b c = refl

pub or_false : (a : Bool) → (a || false) ≡ a
or_false true = refl
or_false false = refl

pub roas_read : (now : ℕ) (old ts new : List Token) (r : Entries × Bool) → old ≡ Token.begin_array ∷ ts → ReadsEntries now ts new r → ReadsRoas now old new (Some r.0, r.1)
roas_read now old ts new r first read =
    array_read 125 (λ js ds. TellsListed now ds r.0 × (r.1 ≡ items_repeat js)) (λ j d. TellsRoas now d (Some r.0) × (r.1 ≡ roas_repeat j)) old ts new first read
    (λ js ds h. ((before ds no_items, refl, told_all now ds r.0 h.0), h.1))

pub there_is : {A : Type 0} (o : Option A) (P : Type 0) (Q : A → Type 0) → true ≡ is_some o → MatchOption o P Q → (a : A) × Q a
there_is None P Q e h = absurd (cc)
there_is (Some a) P Q e h = (a, h)

-- What was read of the rest of a value was read of the value.
pub read_at : {A : Type 0} (k : ℕ) (Is : A → Json → Data → Type 0) (old rest new : List Token) (o : Option A) → old ≡ rest → MatchOption o (ReadsNone k rest) (λ a. ReadsSome k (Is a) rest new)
    → MatchOption o (ReadsNone k old) (λ a. ReadsSome k (Is a) old new)
read_at k Is old rest new None same h = subst (λ ts. ReadsNone k ts) (sym same) h
read_at k Is old rest new (Some a) same h = subst (λ ts. ReadsSome k (Is a) ts new) (sym same) h

-- ---- values

pub number_some : (s : List ℕ) (n : Option ℕ) → Some n ≡ option_map as_u64 (number_of s) → (x : Num) × (number_of s ≡ Some x) × (as_u64 x ≡ n)
number_some s n e = of (number_of s) e
  where
    of : (o : Option Num) → Some n ≡ option_map as_u64 o → (x : Num) × (o ≡ Some x) × (as_u64 x ≡ n)
    of None e = absurd (cc)
    of (Some x) e = (x, refl, cc)

-- A number that is too large for a float is not read.
pub number_none : (k : ℕ) (s : List ℕ) (old new : List Token) → old ≡ Token.number s ∷ new → None ≡ option_map as_u64 (number_of s) → ReadsNone k old
number_none k s old new first e = ap (converted of_json) (ap (value k) first ∙ number_read s new k) ∙ by (number_of s) e
  where
    by : (o : Option Num) → None ≡ option_map as_u64 o → option_map {U = Data × List Token} (λ b. (b, new)) (option_map number o) ≡ None
    by None e = refl
    by (Some x) e = absurd (cc)

pub none_of : {A : Type 0} (o : Option A) → is_some o ≡ false → o ≡ None
none_of None h = refl
none_of (Some a) h = absurd (let no : true ≡ false = h in cc)

-- Only the brace of an object begins one, and only the bracket of an array an array.
abbrev shape_of : Json → ℕ
shape_of json.null = 3
shape_of (json.boolean b) = 3
shape_of (json.number s) = 3
shape_of (json.string s) = 3
shape_of (json.array js) = 2
shape_of (json.object ms) = 1

abbrev shape : Option (Json × List Token) → ℕ
shape None = 0
shape (Some p) = shape_of p.0

arrays_only : (o : Option (json.Items × List Token)) (ms : json.Members) (new : List Token) → parse_map json.array o ≡ Some (json.object ms, new) → ⊥
arrays_only None ms new e = let no : 0 ≡ 1 = ap shape e in omega (arith, no)
arrays_only (Some p) ms new e = let no : 2 ≡ 1 = ap shape e in omega (arith, no)

objects_only : (o : Option (json.Members × List Token)) (js : json.Items) (new : List Token) → parse_map json.object o ≡ Some (json.array js, new) → ⊥
objects_only None js new e = let no : 0 ≡ 2 = ap shape e in omega (arith, no)
objects_only (Some p) js new e = let no : 1 ≡ 2 = ap shape e in omega (arith, no)

object_with : (a : Parse json.Items) (o : Parse json.Members) (t : Token) (ts new : List Token) (ms : json.Members) → value_with a o (t ∷ ts) ≡ Some (json.object ms, new) → t ≡ Token.begin_object
object_with a o Token.begin_object ts new ms e = refl
object_with a o Token.end_object ts new ms e = let no : 0 ≡ 1 = ap shape e in absurd (omega (arith, no))
object_with a o Token.begin_array ts new ms e = absurd (arrays_only (a ts) ms new e)
object_with a o Token.end_array ts new ms e = let no : 0 ≡ 1 = ap shape e in absurd (omega (arith, no))
object_with a o (Token.key s) ts new ms e = let no : 0 ≡ 1 = ap shape e in absurd (omega (arith, no))
object_with a o (Token.string s) ts new ms e = let no : 3 ≡ 1 = ap shape e in absurd (omega (arith, no))
object_with a o (Token.number s) ts new ms e = let no : 3 ≡ 1 = ap shape e in absurd (omega (arith, no))
object_with a o (Token.boolean b) ts new ms e = let no : 3 ≡ 1 = ap shape e in absurd (omega (arith, no))
object_with a o Token.null ts new ms e = let no : 3 ≡ 1 = ap shape e in absurd (omega (arith, no))
object_with a o Token.bad ts new ms e = let no : 0 ≡ 1 = ap shape e in absurd (omega (arith, no))

array_with : (a : Parse json.Items) (o : Parse json.Members) (t : Token) (ts new : List Token) (js : json.Items) → value_with a o (t ∷ ts) ≡ Some (json.array js, new) → t ≡ Token.begin_array
array_with a o Token.begin_object ts new js e = absurd (objects_only (o ts) js new e)
array_with a o Token.end_object ts new js e = let no : 0 ≡ 2 = ap shape e in absurd (omega (arith, no))
array_with a o Token.begin_array ts new js e = refl
array_with a o Token.end_array ts new js e = let no : 0 ≡ 2 = ap shape e in absurd (omega (arith, no))
array_with a o (Token.key s) ts new js e = let no : 0 ≡ 2 = ap shape e in absurd (omega (arith, no))
array_with a o (Token.string s) ts new js e = let no : 3 ≡ 2 = ap shape e in absurd (omega (arith, no))
array_with a o (Token.number s) ts new js e = let no : 3 ≡ 2 = ap shape e in absurd (omega (arith, no))
array_with a o (Token.boolean b) ts new js e = let no : 3 ≡ 2 = ap shape e in absurd (omega (arith, no))
array_with a o Token.null ts new js e = let no : 3 ≡ 2 = ap shape e in absurd (omega (arith, no))
array_with a o Token.bad ts new js e = let no : 0 ≡ 2 = ap shape e in absurd (omega (arith, no))

pub object_first : (k : ℕ) (t : Token) (ts new : List Token) (ms : json.Members) → value k (t ∷ ts) ≡ Some (json.object ms, new) → t ≡ Token.begin_object
object_first k t ts new ms e = object_with _ _ t ts new ms (sym (value_is k (t ∷ ts)) ∙ e)

pub array_first : (k : ℕ) (t : Token) (ts new : List Token) (js : json.Items) → value k (t ∷ ts) ≡ Some (json.array js, new) → t ≡ Token.begin_array
array_first k t ts new js e = array_with _ _ t ts new js (sym (value_is k (t ∷ ts)) ∙ e)

-- Made of a tree under a constructor
pub made_by : {A : Type 0} (f : A → Data) (o : Option A) (d : Data) → option_map f o ≡ Some d → (a : A) × (d ≡ f a)
made_by f None d e = absurd (cc)
made_by f (Some a) d e = (a, cc)

pub no_object_value : (j : Json) (d : Data) → ((ms : json.Members) → j ≡ json.object ms → ⊥) → of_json j ≡ Some d → (is_some (as_object d) ≡ false) × (false ≡ entry_repeats j) × (false ≡ metadata_repeat j)
no_object_value json.null d other e = (ap (λ o. is_some (option_and_then as_object o)) (sym e), refl, refl)
no_object_value (json.boolean b) d other e = (ap (λ o. is_some (option_and_then as_object o)) (sym e), refl, refl)
no_object_value (json.number s) d other e = let x = made_by number (number_of s) d e in (ap (λ y. is_some (as_object y)) x.1, refl, refl)
no_object_value (json.string s) d other e = (ap (λ o. is_some (option_and_then as_object o)) (sym e), refl, refl)
no_object_value (json.array js) d other e = let x = made_by array (of_items js) d e in (ap (λ y. is_some (as_object y)) x.1, refl, refl)
no_object_value (json.object ms) d other e = absurd (other ms refl)

pub no_array_value : (j : Json) (d : Data) → ((js : json.Items) → j ≡ json.array js → ⊥) → of_json j ≡ Some d → (as_array d ≡ None) × (false ≡ roas_repeat j)
no_array_value json.null d other e = (ap (λ o. option_and_then as_array o) (sym e), refl)
no_array_value (json.boolean b) d other e = (ap (λ o. option_and_then as_array o) (sym e), refl)
no_array_value (json.number s) d other e = let x = made_by number (number_of s) d e in (ap as_array x.1, refl)
no_array_value (json.string s) d other e = (ap (λ o. option_and_then as_array o) (sym e), refl)
no_array_value (json.array js) d other e = absurd (other js refl)
no_array_value (json.object ms) d other e = let x = made_by object (of_members ms no_members) d e in (ap as_array x.1, refl)

pub no_object_here : (k : ℕ) (t : Token) (ts new : List Token) (j : Json) (d : Data) → t ≢ Token.begin_object → of_json j ≡ Some d → value k (t ∷ ts) ≡ Some (j, new) → (is_some (as_object d) ≡ false) × (false ≡ entry_repeats j) × (false ≡ metadata_repeat j)
no_object_here k t ts new j d other made read = no_object_value j d (λ ms is. other (object_first k t ts new ms (read ∙ ap (λ x. Some (x, new)) is))) made

pub no_array_here : (k : ℕ) (t : Token) (ts new : List Token) (j : Json) (d : Data) → t ≢ Token.begin_array → of_json j ≡ Some d → value k (t ∷ ts) ≡ Some (j, new) → (as_array d ≡ None) × (false ≡ roas_repeat j)
no_array_here k t ts new j d other made read = no_array_value j d (λ js is. other (array_first k t ts new js (read ∙ ap (λ x. Some (x, new)) is))) made

pub not_built : (d : Data) → is_some (as_object d) ≡ false → TellsBuilt d None
not_built null h = λ t e m says. absurd (cc)
not_built (boolean b) h = λ t e m says. absurd (cc)
not_built (number n) h = λ t e m says. absurd (cc)
not_built (string s) h = λ t e m says. absurd (cc)
not_built (array ds) h = λ t e m says. absurd (cc)
not_built (object ms) h = absurd (let no : true ≡ false = h in cc)

pub an_array : (d : Data) → is_some (as_array d) ≡ true → (ds : Items) × (d ≡ array ds)
an_array null h = absurd (let no : false ≡ true = h in cc)
an_array (boolean b) h = absurd (let no : false ≡ true = h in cc)
an_array (number n) h = absurd (let no : false ≡ true = h in cc)
an_array (string s) h = absurd (let no : false ≡ true = h in cc)
an_array (array ds) h = (ds, refl)
an_array (object ms) h = absurd (let no : false ≡ true = h in cc)

pub judged_of : (ms : Members) (s : Said) (r : Result ExportEntry EntryFault) → said (object ms) ≡ s → IfOk r (λ e. SaysEntry s e) → IfErr r (λ w. SaysFault s w) → IsJudged (object ms) r
judged_of ms s (Ok e) same ok fault = (refl, subst (λ x. SaysEntry x e) (sym same) ok)
judged_of ms s (Err w) same ok fault = inr (refl, subst (λ x. SaysFault x w) (sym same) fault)
