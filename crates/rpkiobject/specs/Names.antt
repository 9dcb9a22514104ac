-- Names of files, as they are printed.
use Rattle.std.specs.Prelude.{ℕ, ◌/◌, ◌%◌, ◌||◌, ◌==◌, if◌then◌else◌, List, [], ◌∷◌, ◌++◌, codes, encode_utf8}
use Rattle.std.specs.Char.{digit_char, is_control}

-- A control character is written by its number (RFC 8259 section 7), so that no line is broken.
unfoldable pub visible : ℕ → List ℕ
visible c = if is_control c then codes "\\u00" ++ digit_char (c / 16) ∷ digit_char (c % 16) ∷ [] else encode_utf8 c

-- A quote and a backslash are escaped by a backslash.
unfoldable pub escaped : ℕ → List ℕ
escaped c = if c == 34 || c == 92 then 92 ∷ c ∷ [] else visible c
