-- The digits of bytes.
use Rattle.std.specs.List.{AllByRecursion}
use Rattle.std.proofs.lemmas.Str.{IsUtf8-from_ascii}
use Rattle.std.proofs.lemmas.Str.Ascii.{IsAscii-cons, IsAscii-nil}
use Rattle.hex.proofs.HexLemmas.{IsAscii-encode_with}
use Rattle.std.proofs.Common.{◌≡◌, ℕ, ◌/◌, ◌%◌, ◌<◌, List, [], ◌∷◌, ◌++◌, slice_index, Option, refl, ap, sym, subst, arith, Result, Ok, Err, IsOk, OnOk, IsAscii, IsUtf8}
use Rattle.std.specs.Io.KnownBytes.{Appends}
use Rattle.std.proofs.KnownBytes.{Appends-trans}
use Rattle.hex.specs.Hex.{encode_lower, encode_with, lower_digits}

-- no digits of no bytes
pub digits-nil : encode_lower [] ≡ []
unfolding encode_with
digits-nil = refl

-- the digits of two lists of bytes, one after the other
pub digits-append : (xs ys : List ℕ) → encode_lower (xs ++ ys) ≡ encode_lower xs ++ encode_lower ys
unfolding encode_with
digits-append [] ys = refl
digits-append (x ∷ xs) ys = ap (λ (t : List ℕ). slice_index lower_digits (x / 16) ∷ slice_index lower_digits (x % 16) ∷ t) (digits-append xs ys)

-- more bytes are printed
pub prints_more : (a b c : Option (List ℕ)) (done piece : List ℕ) → Appends a b (encode_lower done) → Appends b c (encode_lower piece) → Appends a c (encode_lower (done ++ piece))
prints_more a b c done piece before after =
    subst (λ (t : List ℕ). Appends a c t) (sym (digits-append done piece)) (Appends-trans a b c (encode_lower done) (encode_lower piece) before after)

-- what holds if there is a value
pub when_ok : {T E : Type 0} (r : Result T E) (P : Type 0) → IsOk r → OnOk r P → P
when_ok (Ok x) P is h = h
when_ok (Err e) P is h = absurd cc

ascii_of : (bytes : List ℕ) → AllByRecursion (λ b. b < 128) bytes → IsAscii bytes
ascii_of [] h = IsAscii-nil
ascii_of (b ∷ bytes) h = IsAscii-cons b bytes h.0 (ascii_of bytes h.1)

each_digit : IsAscii lower_digits
each_digit = ascii_of lower_digits (omega arith, (omega arith, (omega arith, (omega arith, (omega arith, (omega arith, (omega arith, (omega arith, (omega arith, (omega arith, (omega arith, (omega arith, (omega arith, (omega arith, (omega arith, (omega arith, tt))))))))))))))))

-- digits are a text
pub digits_are_text : (bytes : List ℕ) → IsUtf8 (encode_lower bytes)
digits_are_text bytes = IsUtf8-from_ascii (encode_lower bytes) (IsAscii-encode_with lower_digits bytes each_digit)
