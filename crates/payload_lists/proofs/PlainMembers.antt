-- What is kept of an entry's members while they are read.
use Rattle.std.proofs.Common.{◌≡◌, ℕ, suc, ◌+◌, ◌<◌, List, [], ◌∷◌, length, Option, Some, None, option_map, Ordering, Less, Equal, Greater, nat_cmp, Bor, refl, sym, ap, ◌∙◌, arith}
use Rattle.std.specs.Prelude.{codes, drop, Bool, true, false, ◌==◌, ◌^◌, if◌then◌else◌, slice_index, IfSome, MatchOption}
use Rattle.std.specs.Option.{SomeIff, is_some}
use Rattle.fast_float.specs.Text.{Parts, IsInteger, digits_of, minus, scan}
use Rattle.serde_json.specs.Read.{number_from, number_of}
use Rattle.std.specs.Ordering.{match_ordering}
use Rattle.std.specs.Cmp.Lexicographic.{slice_cmp}
use Rattle.serde_json.specs.Data.{Data, Members, no_members, member, number, string, unsigned, put}
use Rattle.serde_json.specs.Find.{get_member}
use Rattle.serde_json.proofs.Views.{get_member-put, get_member-put_other}
use Rattle.payload_lists.specs.PayloadList.{member_count}
use Rattle.payload_lists.specs.PlainForm.{HoldsMembers, one_if}
use Rattle.payload_lists.specs.declared.plain.Plain.{Plain}

count_at : (o : Ordering) (k l : List ℕ) (d e : Data) (ms : Members) → (get_member k ms ≡ None → member_count (put k d ms) ≡ suc (member_count ms))
    → match_ordering o (get_member k ms) (Some e) (get_member k ms) ≡ None
    → member_count (match_ordering o (member k d (member l e ms)) (member l d ms) (member l e (put k d ms))) ≡ suc (suc (member_count ms))
count_at Less k l d e ms later is = refl
count_at Equal k l d e ms later is = absurd (cc)
count_at Greater k l d e ms later is = ap suc (later is)

-- A member of a new name is one more.
pub count_put : (k : List ℕ) (d : Data) (ms : Members) → get_member k ms ≡ None → member_count (put k d ms) ≡ suc (member_count ms)
count_put k d no_members new = refl
count_put k d (member l e ms) new = count_at (slice_cmp nat_cmp k l) k l d e ms (count_put k d ms) new

none_of : {A B : Type 0} (f : A → B) (o : Option A) → o ≡ None → option_map f o ≡ None
none_of f o e = ap (option_map f) e

pub holds_asn : (ms : Members) (p : Plain) (n : ℕ) → p.asn ≡ None → HoldsMembers ms p → HoldsMembers (put (codes "asn") (number (unsigned n)) ms) (record p { asn = Some n })
holds_asn ms p n none h = record {
  asn = get_member-put (codes "asn") (number (unsigned n)) ms;
  max_len = get_member-put_other (codes "maxLength") (codes "asn") (number (unsigned n)) ms (λ e. cc) ∙ h.max_len;
  prefix = get_member-put_other (codes "prefix") (codes "asn") (number (unsigned n)) ms (λ e. cc) ∙ h.prefix;
  count = count_put (codes "asn") (number (unsigned n)) ms (h.asn ∙ none_of (λ m. number (unsigned m)) p.asn none) ∙ ap suc (h.count ∙ ap (λ o. one_if o + one_if p.max_len + one_if p.prefix) none) ∙ omega arith;
}

pub holds_max_len : (ms : Members) (p : Plain) (n : ℕ) → p.max_len ≡ None → HoldsMembers ms p → HoldsMembers (put (codes "maxLength") (number (unsigned n)) ms) (record p { max_len = Some n })
holds_max_len ms p n none h = record {
  asn = get_member-put_other (codes "asn") (codes "maxLength") (number (unsigned n)) ms (λ e. cc) ∙ h.asn;
  max_len = get_member-put (codes "maxLength") (number (unsigned n)) ms;
  prefix = get_member-put_other (codes "prefix") (codes "maxLength") (number (unsigned n)) ms (λ e. cc) ∙ h.prefix;
  count = count_put (codes "maxLength") (number (unsigned n)) ms (h.max_len ∙ none_of (λ m. number (unsigned m)) p.max_len none)
      ∙ ap suc (h.count ∙ ap (λ o. one_if p.asn + one_if o + one_if p.prefix) none) ∙ omega arith;
}

pub holds_prefix : (ms : Members) (p : Plain) (s : Bor (List ℕ)) → p.prefix ≡ None → HoldsMembers ms p → HoldsMembers (put (codes "prefix") (string s.now) ms) (record p { prefix = Some s })
holds_prefix ms p s none h = record {
  asn = get_member-put_other (codes "asn") (codes "prefix") (string s.now) ms (λ e. cc) ∙ h.asn;
  max_len = get_member-put_other (codes "maxLength") (codes "prefix") (string s.now) ms (λ e. cc) ∙ h.max_len;
  prefix = get_member-put (codes "prefix") (string s.now) ms;
  count = count_put (codes "prefix") (string s.now) ms (h.prefix ∙ none_of (λ t. string t.now) p.prefix none)
      ∙ ap suc (h.count ∙ ap (λ o. one_if p.asn + one_if p.max_len + one_if o) none) ∙ omega arith;
}

pub none_is : {A : Type 0} (o : Option A) → is_some o ≡ false → o ≡ None
none_is None e = refl
none_is (Some a) e = absurd (cc)

-- ---- numbers

integer_is : (p : Parts) → IsInteger p → digits_of p < 2 ^ 64 → number_from false p ≡ Some (unsigned (digits_of p))
integer_is p whole fits = grind (arith, whole.0, whole.1, whole.2, fits)

not_minus : (s : List ℕ) → 0 < length (scan s).whole → (slice_index s 0 == minus) ≡ false
unfolding scan
not_minus [] some = refl
not_minus (b ∷ s) some = by (b == minus) refl
  where
    by : (is : Bool) → (b == minus) ≡ is → is ≡ false
    by false e = refl
    by true e = let never : ⊥ = grind (arith, some, e) in absurd never

pub plain_is : (s : List ℕ) (o : Option ℕ) → SomeIff o (IsInteger (scan s) × (digits_of (scan s) < 2 ^ 64)) (digits_of (scan s)) → IfSome o (λ n. number_of s ≡ Some (unsigned n))
unfolding number_of
plain_is s None h = tt
plain_is s (Some n) h =
    ap (λ b. if b then number_from true (scan (drop 1 s)) else number_from false (scan s)) (not_minus s h.0.0.0) ∙ integer_is (scan s) (h.0.0.0, h.0.0.1, h.0.0.2) h.0.1 ∙ ap (λ m. Some (unsigned m)) (sym h.1)

pub if_none : {A : Type 0} (o : Option A) (P : Type 0) (Q : A → Type 0) → is_some o ≡ false → MatchOption o P Q → P
if_none None P Q e h = h
if_none (Some a) P Q e h = absurd (cc)
