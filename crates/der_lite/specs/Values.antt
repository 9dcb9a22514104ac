-- What primitive contents mean: numbers in a range, and bits.
use Rattle.std.specs.Prelude.{ℕ, ◌+◌, ◌-◌, ◌^◌, ◌||◌, Bool, not, nat_lt, nat_le, if◌then◌else◌, List, [], ◌∷◌, take, drop, slice_index, pos}
use Rattle.der_lite.specs.Der.{number, base_256, is_integer, IntSpells, bits_of, bit_count}
use Rattle.der_lite.specs.Grammar.{Content, primitive}

-- X.690 section 8.3.3: the highest bit of an integer's content is its sign
abbrev pub is_negative : List ℕ → Bool
is_negative content = nat_le 128 (slice_index content 0)

-- an integer from least to most; any other breaks the second rule
abbrev pub between_rules : ℕ → ℕ → ℕ → List ℕ → List (ℕ × Bool)
between_rules least most fault content = (4, not (is_integer content)) ∷ (fault, is_negative content || nat_lt (number content) least || nat_lt most (number content)) ∷ []

-- INTEGER (least..most)
abbrev pub integer_between : ℕ → ℕ → ℕ → Content ℕ
integer_between least most fault = primitive (λ n content. IntSpells (pos n) content) (between_rules least most fault)

-- X.690 section 8.3.2: the content of a number below 2^32 in the fewest bytes, of which the highest bit is a sign
unfoldable pub unsigned_bytes : ℕ → List ℕ
unsigned_bytes n =
    if nat_lt n (2 ^ 7) then base_256 1 n
    else if nat_lt n (2 ^ 15) then base_256 2 n
    else if nat_lt n (2 ^ 23) then base_256 3 n
    else if nat_lt n (2 ^ 31) then base_256 4 n
    else base_256 5 n

-- the bits of a bit string's content
abbrev pub bits_value : List ℕ → List Bool
bits_value content = take (bit_count content) (bits_of (drop 1 content))

-- bits as a number of this many bits, with zeros for those that are missing
abbrev pub bits_number : List Bool → ℕ → ℕ
bits_number [] width = 0
bits_number (bit ∷ bits) width = (if bit then 2 ^ (width - 1) else 0) + bits_number bits (width - 1)
