-- Texts that are numbers in decimal digits.
use Rattle.std.proofs.Common.{◌≡◌, ◌≢◌, ℕ, ◌<◌, ◌≤◌, ◌^◌, List, [], ◌∷◌, length, get_or, arith, sym, ap, ◌∙◌, Result, Ok, Err, subst, zero, suc, refl}
use Rattle.std.specs.Char.{digit_value}
use Rattle.std.specs.Fmt.{decimal}
use Rattle.std.specs.Str.Parse.{AllDigits, digits_value, ParsesUnsigned}
use Rattle.std.proofs.lemmas.Str.Parse.{IsNumeralModel, numerals_by_value, tells_digits, parse_plain}
use Rattle.std.proofs.lemmas.Fmt.{decimal_digit, first_decimal, decimal_nonempty, decimal_is_IsNumeral, decimal-digits_value, parse-decimal}
use Rattle.prefixes.specs.TextSteps.{BeginsNumeral}
use Rattle.prefixes.proofs.Lacks.{Lacks, digits_lack}

-- digits and their value, as std's lemmas define them
own : IsNumeralModel (AllDigits 10) (digits_value 10)
own = numerals_by_value (AllDigits 10) tells_digits

-- The decimal text of a number begins with no sign, and with 0 only if 0 is all of it.
pub begins : (n : ℕ) (bs : List ℕ) → n < 2 ^ 32 → bs ≡ decimal n → BeginsNumeral bs
begins zero bs small e =
    let is : bs ≡ 48 ∷ [] = e ∙ decimal_digit 0 (omega arith) in
    subst (λ xs. BeginsNumeral xs) (sym is) (record { some = omega arith; digit = omega arith; lone_zero = λ _. refl })
begins (suc n) bs small e =
    let first : 48 < get_or (decimal (suc n)) 0 0 = first_decimal (suc n) (omega arith) (omega arith) in
    let some : 0 < length (decimal (suc n)) = decimal_nonempty (suc n) (omega arith) in
    subst (λ xs. BeginsNumeral xs) (sym e) (record { some = some; digit = omega arith; lone_zero = λ h. absurd (omega arith) })

-- What `parse` gives if a text begins so is the number whose text it is.
pub read : {E : Type 0} (bs : List ℕ) (r : Result ℕ E) → ParsesUnsigned 32 10 bs r → BeginsNumeral bs → (n : ℕ) → r ≡ Ok n → (n < 2 ^ 32) × (bs ≡ decimal n)
read bs r h b n e =
    let plain = parse_plain own 32 bs r h (omega (arith, b.digit)) in
    let at_n = rw e at plain in
    (rw at_n.1 at_n.0.2, sym (decimal-digits_value own bs at_n.0.0 b.some b.lone_zero (omega (arith, at_n.0.2))) ∙ ap decimal (sym at_n.1))

-- If `parse` gives nothing the text is no number's.
pub missed : {E : Type 0} (bs : List ℕ) (r : Result ℕ E) → ParsesUnsigned 32 10 bs r → (x : E) → r ≡ Err x → (n : ℕ) → n < 2 ^ 32 → bs ≢ decimal n
missed bs r h x e n small is = let ok : r ≡ Ok n = parse-decimal 32 n bs r small (omega arith) is h in absurd (cc)

-- A decimal text lacks what is no digit.
pub decimal_lacks : (c n : ℕ) → 10 ≤ digit_value c → n < 2 ^ 64 → Lacks c (decimal n)
decimal_lacks c n big small = digits_lack c 10 big (decimal n) (decimal_is_IsNumeral n small).0.1
