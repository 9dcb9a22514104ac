-- What is found in an entry of a payload list while it is read, and what that makes of its array.
use Rattle.std.proofs.Common.{◌≡◌, ℕ, suc, ◌+◌, ◌<◌, ◌≤◌, List, [], ◌∷◌, ◌++◌, Bool, true, false, MatchBool, Option, Some, None, option_map, Ordering, Less, Equal, Greater, nat_cmp, Bor, refl, sym, ap, ◌∙◌, subst, arith}
use Rattle.std.specs.Prelude.{IfNone, IfSome, codes, is_some, option_and_then}
use Rattle.std.specs.Ordering.{match_ordering}
use Rattle.std.specs.Cmp.Lexicographic.{slice_cmp}
use Rattle.serde_json.specs.Data.{Data, object, no_items, Members, no_members, member, put}
use Rattle.serde_json.specs.Find.{as_number, as_object, as_str, as_u64, get_member}
use Rattle.serde_json.proofs.Views.{get_member-put, get_member-put_other}
use Rattle.prefixes.specs.Payload.{Payload}
use Rattle.prefixes.specs.Text.{PrefixText}
use Rattle.payload_lists.specs.EntrySteps.{MakesPayload}
use Rattle.payload_lists.specs.PayloadList.{AreEntries, IsEntry, member_count, text_at, whole_at}
use Rattle.payload_lists.specs.PlainForm.{one_if}
use Rattle.payload_lists.proofs.Entries.{is_entry, one_some}
use Rattle.exports.specs.ListForm.{HoldsEntry, IsListed, OnlyThree, of_three, three}
use Rattle.exports.specs.PlainForm.{IsScalar, before}
use Rattle.exports.specs.declared.lists.ListEntry.{ListEntry}
use Rattle.exports.specs.declared.streaming.Scalar.{Scalar}
use Rattle.exports.proofs.PlainParts.{number_kept, number_put, text_kept, text_put}

-- ---- how many members there are

-- A member that is put is one more, unless there was one of its name.
more_at : (o : Ordering) (k l : List ℕ) (d e : Data) (ms : Members) → suc (member_count ms) ≤ member_count (put k d ms) + one_if (get_member k ms)
    → suc (suc (member_count ms)) ≤ member_count (match_ordering o (member k d (member l e ms)) (member l d ms) (member l e (put k d ms))) + one_if (match_ordering o (get_member k ms) (Some e) (get_member k ms))
more_at Less k l d e ms later = omega arith
more_at Equal k l d e ms later = omega arith
more_at Greater k l d e ms later = omega (arith, later)

one_more : (k : List ℕ) (d : Data) (ms : Members) → suc (member_count ms) ≤ member_count (put k d ms) + one_if (get_member k ms)
one_more k d no_members = omega arith
one_more k d (member l e ms) = more_at (slice_cmp nat_cmp k l) k l d e ms (one_more k d ms)

at_most_one : {A : Type 0} (o : Option A) → one_if o ≤ 1
at_most_one None = omega arith
at_most_one (Some a) = omega arith

three_count : (asn max_len prefix : Option Data) → member_count (three asn max_len prefix) ≡ of_three (three asn max_len prefix)
three_count None None None = refl
three_count None None (Some p) = refl
three_count None (Some m) None = refl
three_count None (Some m) (Some p) = refl
three_count (Some a) None None = refl
three_count (Some a) None (Some p) = refl
three_count (Some a) (Some m) None = refl
three_count (Some a) (Some m) (Some p) = refl

only_count : (ms : Members) → OnlyThree ms → member_count ms ≡ of_three ms
only_count ms only = subst (λ x. member_count x ≡ of_three x) (sym only.3) (three_count only.0 only.1 only.2)

-- ---- one of the three members

put_asn : (d : Data) (asn max_len prefix : Option Data) → put (codes "asn") d (three asn max_len prefix) ≡ three (Some d) max_len prefix
put_asn d None None None = refl
put_asn d None None (Some p) = refl
put_asn d None (Some m) None = refl
put_asn d None (Some m) (Some p) = refl
put_asn d (Some a) None None = refl
put_asn d (Some a) None (Some p) = refl
put_asn d (Some a) (Some m) None = refl
put_asn d (Some a) (Some m) (Some p) = refl

put_max_len : (d : Data) (asn max_len prefix : Option Data) → put (codes "maxLength") d (three asn max_len prefix) ≡ three asn (Some d) prefix
put_max_len d None None None = refl
put_max_len d None None (Some p) = refl
put_max_len d None (Some m) None = refl
put_max_len d None (Some m) (Some p) = refl
put_max_len d (Some a) None None = refl
put_max_len d (Some a) None (Some p) = refl
put_max_len d (Some a) (Some m) None = refl
put_max_len d (Some a) (Some m) (Some p) = refl

put_prefix : (d : Data) (asn max_len prefix : Option Data) → put (codes "prefix") d (three asn max_len prefix) ≡ three asn max_len (Some d)
put_prefix d None None None = refl
put_prefix d None None (Some p) = refl
put_prefix d None (Some m) None = refl
put_prefix d None (Some m) (Some p) = refl
put_prefix d (Some a) None None = refl
put_prefix d (Some a) None (Some p) = refl
put_prefix d (Some a) (Some m) None = refl
put_prefix d (Some a) (Some m) (Some p) = refl

still_only : (k : List ℕ) (d : Data) (ms : Members) → ((asn max_len prefix : Option Data) → OnlyThree (put k d (three asn max_len prefix))) → OnlyThree ms → OnlyThree (put k d ms)
still_only k d ms put_is only = subst (λ x. OnlyThree (put k d x)) (sym only.3) (put_is only.0 only.1 only.2)

-- Where there were others, there are, whichever of the three is put.
still_others : (b : Bool) (k : List ℕ) (d : Data) (ms : Members) → of_three (put k d ms) + one_if (get_member k ms) ≡ suc (of_three ms) → (OnlyThree ms → OnlyThree (put k d ms)) → MatchBool b (of_three ms < member_count ms) (OnlyThree ms)
    → MatchBool b (of_three (put k d ms) < member_count (put k d ms)) (OnlyThree (put k d ms))
still_others true k d ms counted only h = omega (arith, counted, h, one_more k d ms)
still_others false k d ms counted only h = only h

counted_asn : (d : Data) (ms : Members) → of_three (put (codes "asn") d ms) + one_if (get_member (codes "asn") ms) ≡ suc (of_three ms)
counted_asn d ms =
    let a = ap one_if (get_member-put (codes "asn") d ms) in
    let m = ap one_if (get_member-put_other (codes "maxLength") (codes "asn") d ms (λ e. cc)) in
    let p = ap one_if (get_member-put_other (codes "prefix") (codes "asn") d ms (λ e. cc)) in omega (arith, a, m, p)

counted_max_len : (d : Data) (ms : Members) → of_three (put (codes "maxLength") d ms) + one_if (get_member (codes "maxLength") ms) ≡ suc (of_three ms)
counted_max_len d ms =
    let a = ap one_if (get_member-put_other (codes "asn") (codes "maxLength") d ms (λ e. cc)) in
    let m = ap one_if (get_member-put (codes "maxLength") d ms) in
    let p = ap one_if (get_member-put_other (codes "prefix") (codes "maxLength") d ms (λ e. cc)) in omega (arith, a, m, p)

counted_prefix : (d : Data) (ms : Members) → of_three (put (codes "prefix") d ms) + one_if (get_member (codes "prefix") ms) ≡ suc (of_three ms)
counted_prefix d ms =
    let a = ap one_if (get_member-put_other (codes "asn") (codes "prefix") d ms (λ e. cc)) in
    let m = ap one_if (get_member-put_other (codes "maxLength") (codes "prefix") d ms (λ e. cc)) in
    let p = ap one_if (get_member-put (codes "prefix") d ms) in omega (arith, a, m, p)

pub holds_nothing : HoldsEntry no_members (record { asn = None; max_len = None; prefix = None; has_others = false })
holds_nothing = record { asn = refl; max_len = refl; prefix = refl; others = (None, None, None, refl) }

pub holds_asn : (ms : Members) (d : Data) (f : ListEntry) (s : Scalar) → HoldsEntry ms f → IsScalar d s → HoldsEntry (put (codes "asn") d ms) (record f { asn = s.number })
holds_asn ms d f s h scalar = record {
  asn = number_put (codes "asn") d ms ∙ scalar.0;
  max_len = number_kept (codes "maxLength") (codes "asn") d ms (λ e. cc) ∙ h.max_len;
  prefix = text_kept (codes "prefix") (codes "asn") d ms (λ e. cc) ∙ h.prefix;
  others = still_others f.has_others (codes "asn") d ms (counted_asn d ms) (still_only (codes "asn") d ms (λ a m p. (Some d, m, p, put_asn d a m p))) h.others;
}

pub holds_max_len : (ms : Members) (d : Data) (f : ListEntry) (s : Scalar) → HoldsEntry ms f → IsScalar d s → HoldsEntry (put (codes "maxLength") d ms) (record f { max_len = s.number })
holds_max_len ms d f s h scalar = record {
  asn = number_kept (codes "asn") (codes "maxLength") d ms (λ e. cc) ∙ h.asn;
  max_len = number_put (codes "maxLength") d ms ∙ scalar.0;
  prefix = text_kept (codes "prefix") (codes "maxLength") d ms (λ e. cc) ∙ h.prefix;
  others = still_others f.has_others (codes "maxLength") d ms (counted_max_len d ms) (still_only (codes "maxLength") d ms (λ a m p. (a, Some d, p, put_max_len d a m p))) h.others;
}

pub holds_prefix : (ms : Members) (d : Data) (f : ListEntry) (s : Scalar) → HoldsEntry ms f → IsScalar d s → HoldsEntry (put (codes "prefix") d ms) (record f { prefix = s.text })
holds_prefix ms d f s h scalar = record {
  asn = number_kept (codes "asn") (codes "prefix") d ms (λ e. cc) ∙ h.asn;
  max_len = number_kept (codes "maxLength") (codes "prefix") d ms (λ e. cc) ∙ h.max_len;
  prefix = text_put (codes "prefix") d ms ∙ scalar.1;
  others = still_others f.has_others (codes "prefix") d ms (counted_prefix d ms) (still_only (codes "prefix") d ms (λ a m p. (a, m, Some d, put_prefix d a m p))) h.others;
}

-- ---- another member

asn_apart : (k : List ℕ) (d : Data) (max_len prefix : Option Data) → (k ≡ codes "asn" → ⊥) → get_member k (three (Some d) max_len prefix) ≡ get_member k (three None max_len prefix)
asn_apart k d max_len prefix other = ap (get_member k) (sym (put_asn d None max_len prefix)) ∙ get_member-put_other k (codes "asn") d (three None max_len prefix) other

max_len_apart : (k : List ℕ) (d : Data) (prefix : Option Data) → (k ≡ codes "maxLength" → ⊥) → get_member k (three None (Some d) prefix) ≡ get_member k (three None None prefix)
max_len_apart k d prefix other = ap (get_member k) (sym (put_max_len d None None prefix)) ∙ get_member-put_other k (codes "maxLength") d (three None None prefix) other

prefix_apart : (k : List ℕ) (d : Data) → (k ≡ codes "prefix" → ⊥) → get_member k (three None None (Some d)) ≡ None
prefix_apart k d other = ap (get_member k) (sym (put_prefix d None None None)) ∙ get_member-put_other k (codes "prefix") d no_members other

no_third : (k : List ℕ) (prefix : Option Data) → (k ≡ codes "prefix" → ⊥) → get_member k (three None None prefix) ≡ None
no_third k None no_prefix = refl
no_third k (Some p) no_prefix = prefix_apart k p no_prefix

no_second : (k : List ℕ) (max_len prefix : Option Data) → (k ≡ codes "prefix" → ⊥) → (k ≡ codes "maxLength" → ⊥) → get_member k (three None max_len prefix) ≡ None
no_second k None prefix no_prefix no_max_len = no_third k prefix no_prefix
no_second k (Some m) prefix no_prefix no_max_len = max_len_apart k m prefix no_max_len ∙ no_third k prefix no_prefix

none_other : (k : List ℕ) (asn max_len prefix : Option Data) → (k ≡ codes "asn" → ⊥) → (k ≡ codes "prefix" → ⊥) → (k ≡ codes "maxLength" → ⊥) → get_member k (three asn max_len prefix) ≡ None
none_other k None max_len prefix no_asn no_prefix no_max_len = no_second k max_len prefix no_prefix no_max_len
none_other k (Some a) max_len prefix no_asn no_prefix no_max_len = asn_apart k a max_len prefix no_asn ∙ no_second k max_len prefix no_prefix no_max_len

now_others : (b : Bool) (k : List ℕ) (d : Data) (ms : Members) → of_three (put k d ms) ≡ of_three ms → (OnlyThree ms → get_member k ms ≡ None) → MatchBool b (of_three ms < member_count ms) (OnlyThree ms) → of_three (put k d ms) < member_count (put k d ms)
now_others true k d ms same none h = omega (arith, same, h, one_more k d ms, at_most_one (get_member k ms))
now_others false k d ms same none h =
    let absent : one_if (get_member k ms) ≡ 0 = ap one_if (none h) in
    omega (arith, same, only_count ms h, one_more k d ms, absent)

pub holds_other : (k : List ℕ) (ms : Members) (d : Data) (f : ListEntry) → (k ≡ codes "asn" → ⊥) → (k ≡ codes "prefix" → ⊥) → (k ≡ codes "maxLength" → ⊥) → HoldsEntry ms f → HoldsEntry (put k d ms) (record f { has_others = true })
holds_other k ms d f no_asn no_prefix no_max_len h =
    let a = ap one_if (get_member-put_other (codes "asn") k d ms (λ e. no_asn (sym e))) in
    let m = ap one_if (get_member-put_other (codes "maxLength") k d ms (λ e. no_max_len (sym e))) in
    let p = ap one_if (get_member-put_other (codes "prefix") k d ms (λ e. no_prefix (sym e))) in
    record {
      asn = number_kept (codes "asn") k d ms (λ e. no_asn (sym e)) ∙ h.asn;
      max_len = number_kept (codes "maxLength") k d ms (λ e. no_max_len (sym e)) ∙ h.max_len;
      prefix = text_kept (codes "prefix") k d ms (λ e. no_prefix (sym e)) ∙ h.prefix;
      others = now_others f.has_others k d ms (omega (arith, a, m, p)) (λ only. ap (get_member k) only.3 ∙ none_other k only.0 only.1 only.2 no_asn no_prefix no_max_len) h.others;
    }

-- ---- the entry

one_number : (o : Option Data) (n : ℕ) → option_and_then as_u64 (option_and_then as_number o) ≡ Some n → one_if o ≡ 1
one_number None n e = absurd (cc)
one_number (Some d) n e = refl

one_text : (o : Option Data) (s : List ℕ) → option_and_then as_str o ≡ Some s → one_if o ≡ 1
one_text None s e = absurd (cc)
one_text (Some d) s e = refl

all_three : (ms : Members) (asn max_len : ℕ) (text : List ℕ) → whole_at (codes "asn") (object ms) ≡ Some asn → whole_at (codes "maxLength") (object ms) ≡ Some max_len → text_at (codes "prefix") (object ms) ≡ Some text → of_three ms ≡ 3
all_three ms asn max_len text has_asn has_max has_text =
    let a = one_number (get_member (codes "asn") ms) asn has_asn in
    let m = one_number (get_member (codes "maxLength") ms) max_len has_max in
    let p = one_text (get_member (codes "prefix") ms) text has_text in omega (arith, a, m, p)

same_members : (ms ns : Members) → Some ms ≡ Some ns → ms ≡ ns
same_members ms ns e = cc

three_of : (ms : Members) (v : Payload) → IsEntry (object ms) v → (member_count ms ≡ 3) × (of_three ms ≡ 3)
three_of ms v h = (
  ap (λ x. member_count x) (same_members ms h.members h.is_object) ∙ h.three,
  all_three ms v.asn v.max_len h.text h.asn h.max_len h.has_text,
)

-- With another member it is the entry of no payload.
pub no_entry_with_others : (ms : Members) (f : ListEntry) → f.has_others ≡ true → HoldsEntry ms f → (v : Payload) → ¬ (IsEntry (object ms) v)
no_entry_with_others ms f others h v is =
    let more = subst (λ b. MatchBool b (of_three ms < member_count ms) (OnlyThree ms)) others h.others in
    let counts = three_of ms v is in omega (arith, more, counts.0, counts.1)

-- Without one of the three it is the entry of none.
pub no_entry_without_asn : (ms : Members) (f : ListEntry) → f.asn ≡ None → HoldsEntry ms f → (v : Payload) → ¬ (IsEntry (object ms) v)
no_entry_without_asn ms f none h v is = let no : None ≡ Some v.asn = sym (h.asn ∙ none) ∙ is.asn in cc

pub no_entry_without_max_len : (ms : Members) (f : ListEntry) → f.max_len ≡ None → HoldsEntry ms f → (v : Payload) → ¬ (IsEntry (object ms) v)
no_entry_without_max_len ms f none h v is = let no : None ≡ Some v.max_len = sym (h.max_len ∙ none) ∙ is.max_len in cc

pub no_entry_without_prefix : (ms : Members) (f : ListEntry) → f.prefix ≡ None → HoldsEntry ms f → (v : Payload) → ¬ (IsEntry (object ms) v)
no_entry_without_prefix ms f none h v is = let no : None ≡ Some is.text = sym (h.prefix ∙ ap (option_map (λ s. s.now)) none) ∙ is.has_text in cc

entry_of : (ms : Members) (f : ListEntry) (asn max_len : ℕ) (text : Bor (List ℕ)) (v : Payload) → f.has_others ≡ false → f.asn ≡ Some asn → f.max_len ≡ Some max_len → f.prefix ≡ Some text → HoldsEntry ms f → MakesPayload asn max_len text.now v → IsEntry (object ms) v
entry_of ms f asn max_len text v others has_asn has_max has_text h made =
    let only = subst (λ b. MatchBool b (of_three ms < member_count ms) (OnlyThree ms)) others h.others in
    let a = h.asn ∙ has_asn in
    let m = h.max_len ∙ has_max in
    let t = h.prefix ∙ ap (option_map (λ s. s.now)) has_text in
    is_entry (object ms) ms asn max_len text.now v refl (only_count ms only ∙ all_three ms asn max_len text.now a m t) (sym a) (sym m) (sym t) made

makes : (ms : Members) (f : ListEntry) (asn max_len : ℕ) (text : Bor (List ℕ)) (v : Payload) → f.asn ≡ Some asn → f.max_len ≡ Some max_len → f.prefix ≡ Some text → HoldsEntry ms f → IsEntry (object ms) v → MakesPayload asn max_len text.now v
makes ms f asn max_len text v has_asn has_max has_text holds h = record {
  asn_is = one_some asn v.asn (whole_at (codes "asn") (object ms)) (holds.asn ∙ has_asn) h.asn;
  max_len_is = one_some max_len v.max_len (whole_at (codes "maxLength") (object ms)) (holds.max_len ∙ has_max) h.max_len;
  prefix = subst (λ t. PrefixText v.prefix t) (one_some h.text text.now (text_at (codes "prefix") (object ms)) h.has_text (holds.prefix ∙ ap (option_map (λ s. s.now)) has_text)) h.prefix;
  payload = h.payload;
}

pub if_makes : (f : ListEntry) (asn max_len : ℕ) (text : Bor (List ℕ)) (o : Option Payload) → f.has_others ≡ false → f.asn ≡ Some asn → f.max_len ≡ Some max_len → f.prefix ≡ Some text → IfSome o (λ v. MakesPayload asn max_len text.now v)
    → IfSome o (λ v. (ms : Members) → HoldsEntry ms f → IsEntry (object ms) v)
if_makes f asn max_len text None others has_asn has_max has_text h = tt
if_makes f asn max_len text (Some v) others has_asn has_max has_text made = λ ms h. entry_of ms f asn max_len text v others has_asn has_max has_text h made

pub if_makes_none : (f : ListEntry) (asn max_len : ℕ) (text : Bor (List ℕ)) (o : Option Payload) → f.asn ≡ Some asn → f.max_len ≡ Some max_len → f.prefix ≡ Some text → IfNone o ((v : Payload) → ¬ (MakesPayload asn max_len text.now v))
    → IfNone o ((ms : Members) → HoldsEntry ms f → (v : Payload) → ¬ (IsEntry (object ms) v))
if_makes_none f asn max_len text None has_asn has_max has_text none = λ ms h v is. none v (makes ms f asn max_len text v has_asn has_max has_text h is)
if_makes_none f asn max_len text (Some v) has_asn has_max has_text h = tt

pub listed_of : (ms : Members) (f : ListEntry) (o : Option Payload) → HoldsEntry ms f → IfSome o (λ v. (ns : Members) → HoldsEntry ns f → IsEntry (object ns) v)
    → IfNone o ((ns : Members) → HoldsEntry ns f → (v : Payload) → ¬ (IsEntry (object ns) v)) → IsListed (object ms) o
listed_of ms f None h some none = none ms h
listed_of ms f (Some v) h some none = some ms h

-- What is no object is the entry of no payload.
pub not_listed : (d : Data) → is_some (as_object d) ≡ false → IsListed d None
not_listed d none v h = let no : is_some (as_object d) ≡ true = ap (λ o. is_some o) h.is_object in let never : true ≡ false = sym no ∙ none in cc

-- ---- the items

pub are_more : (ds : List Data) (vs : List Payload) (d : Data) (v : Payload) → AreEntries (before ds no_items) vs → IsEntry d v → AreEntries (before (ds ++ d ∷ []) no_items) (vs ++ v ∷ [])
are_more [] [] d v h is = (is, tt)
are_more (x ∷ ds) (y ∷ vs) d v h is = (h.0, are_more ds vs d v h.1 is)
are_more [] (y ∷ vs) d v h is = absurd h
are_more (x ∷ ds) [] d v h is = absurd h

-- If one is no entry, they are no entries, and they stay so.
pub none_last : (ds : List Data) (d : Data) → ((v : Payload) → ¬ (IsEntry d v)) → (vs : List Payload) → ¬ (AreEntries (before (ds ++ d ∷ []) no_items) vs)
none_last [] d none [] h = absurd h
none_last [] d none (v ∷ vs) h = none v h.0
none_last (x ∷ ds) d none [] h = absurd h
none_last (x ∷ ds) d none (v ∷ vs) h = none_last ds d none vs h.1

none_before : (ds : List Data) (d : Data) (vs : List Payload) → AreEntries (before (ds ++ d ∷ []) no_items) vs → (ws : List Payload) × AreEntries (before ds no_items) ws
none_before [] d vs h = ([], tt)
none_before (x ∷ ds) d [] h = absurd h
none_before (x ∷ ds) d (v ∷ vs) h = let rest = none_before ds d vs h.1 in (v ∷ rest.0, (h.0, rest.1))

pub none_more : (ds : List Data) (d : Data) → ((vs : List Payload) → ¬ (AreEntries (before ds no_items) vs)) → (vs : List Payload) → ¬ (AreEntries (before (ds ++ d ∷ []) no_items) vs)
none_more ds d none vs h = let front = none_before ds d vs h in none front.0 front.1
