-- Characters of names.
use Rattle.std.proofs.Common.{◌≡◌, ℕ, ◌/◌, ◌%◌, Bool, true, false, ◌||◌, ◌==◌, if◌then◌else◌, ◌∷◌, [], ◌++◌, codes, encode_utf8, ap, arith}
use Rattle.std.proofs.lemmas.Bool.Decides.{nat_tests}
use Rattle.std.specs.Char.{digit_char, is_control}
use Rattle.rpkiobject.specs.Names.{visible, escaped}

pub visible_control : (c : ℕ) → is_control c ≡ true → visible c ≡ codes "\\u00" ++ digit_char (c / 16) ∷ digit_char (c % 16) ∷ []
unfolding visible
visible_control c h = ap (λ (b : Bool). if b then codes "\\u00" ++ digit_char (c / 16) ∷ digit_char (c % 16) ∷ [] else encode_utf8 c) h

pub visible_other : (c : ℕ) → is_control c ≡ false → visible c ≡ encode_utf8 c
unfolding visible
visible_other c h = ap (λ (b : Bool). if b then codes "\\u00" ++ digit_char (c / 16) ∷ digit_char (c % 16) ∷ [] else encode_utf8 c) h

pub escaped_other : (c : ℕ) → ¬ (c ≡ 34) → ¬ (c ≡ 92) → escaped c ≡ visible c
unfolding escaped
escaped_other c quote backslash = ap (λ (b : Bool). if b then 92 ∷ c ∷ [] else visible c) neither
  where
    neither : (c == 34 || c == 92) ≡ false
    neither = grind (arith, nat_tests)
