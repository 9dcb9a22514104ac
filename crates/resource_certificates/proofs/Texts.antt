-- Texts of times and of names.
use Rattle.std.proofs.Common.{◌≡◌, ◌≢◌, ℕ, zero, suc, ◌≤◌, ◌<◌, Bool, true, false, cond, List, [], ◌∷◌, length, None, Result, Ok, Err, refl, sym, ap, ◌∙◌, arith, length-append}
use Rattle.std.specs.Prelude.{nat_le, slice_index, IsAscii, IsUtf8}
use Rattle.std.specs.Str.{is_utf8}
use Rattle.std.specs.Result.{MatchResult, is_ok}
use Rattle.std.proofs.lemmas.Str.{IsUtf8-from_is_utf8, is_utf8-from_IsUtf8}
use Rattle.std.specs.Str.{IsNotAscii}
use Rattle.std.specs.Bool.{MatchBool}
use Rattle.std.proofs.lemmas.Bool.{le-leb, lt-leb}
use Rattle.der_lite.specs.Der.{is_ia5}
use Rattle.der_lite.proofs.Texts.{ia5_from_ascii, not_ia5}
use Rattle.der_lite.specs.Moments.{CivilMoment, moment_digits, moment_text, moment_of, moment_in}
use Rattle.der_lite.proofs.MomentLaws.{not_time, time_is}
use Rattle.resource_certificates.specs.Times.{century, widened}

-- a moment's text has 15 characters
length_of_time : (m : CivilMoment) → length (moment_text m) ≡ 15
unfolding moment_text moment_digits
length_of_time m = refl

length_of_either : (b : Bool) → length {A = ℕ} (cond b (49 ∷ 57 ∷ []) (50 ∷ 48 ∷ [])) ≡ 2
length_of_either true = refl
length_of_either false = refl

-- a text without its century of another length than 13 is no moment's
pub not_thirteen : (content : List ℕ) → length content ≢ 13 → None ≡ moment_in (widened content)
unfolding widened
not_thirteen content other =
    not_time (widened content) (λ h. other (omega (
      arith,
      ap (λ (l : List ℕ). length l) (time_is (widened content) h).text,
      length_of_time (moment_of (widened content)),
      length-append (century (slice_index content 0)) content,
      length_of_either (nat_le 53 (slice_index content 0)),
    )))

-- this many items from a place on
abbrev pub items : ℕ → ℕ → List ℕ → List ℕ
items zero i l = []
items (suc n) i l = slice_index l i ∷ items n (suc i) l

items_on : (n i x : ℕ) (l : List ℕ) → items n (suc i) (x ∷ l) ≡ items n i l
items_on zero i x l = refl
items_on (suc n) i x l = ap (λ (m : List ℕ). slice_index l i ∷ m) (items_on n (suc i) x l)

items_all : (l : List ℕ) → items (length l) 0 l ≡ l
items_all [] = refl
items_all (x ∷ l) = ap (λ (m : List ℕ). x ∷ m) (items_on (length l) 0 x l ∙ items_all l)

thirteen : (l : List ℕ) → length l ≡ 13 → l ≡ items 13 0 l
thirteen l h = sym (items_all l) ∙ ap (λ (n : ℕ). items n 0 l) h

-- a text of the 20th century, and one of the 21st
pub widened_late : (content : List ℕ) → length content ≡ 13 → 53 ≤ slice_index content 0 → 49 ∷ 57 ∷ items 13 0 content ≡ widened content
unfolding widened
widened_late content h late = rw (le-leb 53 (slice_index content 0) late) (ap (λ (l : List ℕ). 49 ∷ 57 ∷ l) (sym (thirteen content h)))

pub widened_early : (content : List ℕ) → length content ≡ 13 → slice_index content 0 < 53 → 50 ∷ 48 ∷ items 13 0 content ≡ widened content
unfolding widened
widened_early content h early = rw (lt-leb 53 (slice_index content 0) early) (ap (λ (l : List ℕ). 50 ∷ 48 ∷ l) (sym (thirteen content h)))

-- characters of ASCII, by the test of each
pub ascii_is : (b : Bool) (content : List ℕ) → MatchBool b (IsAscii content) (IsNotAscii content) → b ≡ is_ia5 content
ascii_is true content h = sym (ia5_from_ascii content h)
ascii_is false content h = sym (not_ia5 content h.0 h.1)

-- UTF-8, by the test of a text
never_utf8 : (content : List ℕ) (b : Bool) → is_utf8 content ≡ b → ¬ (IsUtf8 content) → b ≡ false
never_utf8 content true e none = absurd (none (IsUtf8-from_is_utf8 content e))
never_utf8 content false e none = refl

pub utf8_is : {A B : Type 0} (Text : A → Type 0) (Place : B → Type 0) (content : List ℕ) (r : Result A B) → MatchResult r (λ s. Text s × IsUtf8 content) (λ e. ¬ (IsUtf8 content) × Place e) → is_ok r ≡ is_utf8 content
utf8_is Text Place content (Ok s) h = sym (is_utf8-from_IsUtf8 content h.1)
utf8_is Text Place content (Err e) h = sym (never_utf8 content (is_utf8 content) refl h.0)
