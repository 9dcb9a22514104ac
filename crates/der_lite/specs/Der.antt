-- Elements of the distinguished encoding rules (X.690).
use Rattle.std.specs.Prelude.{◌≡◌, ℕ, zero, suc, ◌+◌, ◌-◌, ◌*◌, ◌/◌, ◌%◌, ◌^◌, ◌<◌, Bool, true, false, not, ◌&&◌, ◌||◌, nat_lt, nat_le, ◌==◌, bytes_eq, if◌then◌else◌, List, [], ◌∷◌, ◌++◌, length, take, slice_index, replicate, ℤ, pos, ◌-ℤ◌}

-- bytes are numbers below 256
abbrev pub IsBytes : List ℕ → Type 0
IsBytes bytes = (i : ℕ) → slice_index bytes i < 256

-- the number that bytes spell, the highest byte first
abbrev pub number : List ℕ → ℕ
number [] = 0
number (byte ∷ bytes) = byte * 256 ^ length bytes + number bytes

-- a number in a count of bytes, the highest first
abbrev pub base_256 : ℕ → ℕ → List ℕ
base_256 zero n = []
base_256 (suc count) n = base_256 count (n / 256) ++ (n % 256) ∷ []

-- X.690 sections 8.1.3 and 10.1: the length of a content in the fewest bytes. Below 128 it is one byte;
-- otherwise 128 and the count of its bytes, and then these.
unfoldable pub length_bytes : ℕ → List ℕ
length_bytes n =
    if nat_lt n 128 then n ∷ []
    else if nat_lt n (256 ^ 1) then 129 ∷ base_256 1 n
    else if nat_lt n (256 ^ 2) then 130 ∷ base_256 2 n
    else if nat_lt n (256 ^ 3) then 131 ∷ base_256 3 n
    else 132 ∷ base_256 4 n

-- X.690 section 8.1.2: the tags of elements, which are universal but for the last, [0] of a constructed context
abbrev pub INTEGER : ℕ
INTEGER = 2

abbrev pub BIT_STRING : ℕ
BIT_STRING = 3

abbrev pub OCTET_STRING : ℕ
OCTET_STRING = 4

abbrev pub OBJECT_IDENTIFIER : ℕ
OBJECT_IDENTIFIER = 6

abbrev pub IA5_STRING : ℕ
IA5_STRING = 22

abbrev pub GENERALIZED_TIME : ℕ
GENERALIZED_TIME = 24

abbrev pub SEQUENCE : ℕ
SEQUENCE = 48

abbrev pub EXPLICIT_0 : ℕ
EXPLICIT_0 = 160

-- X.690 section 8.1.1: the tag, the length of the content, the content
abbrev pub tlv : ℕ → List ℕ → List ℕ
tlv tag content = tag ∷ length_bytes (length content) ++ content

-- The bytes are the element of this tag and content. At most four bytes say the length.
pub record Tlv (tag : ℕ) (content bytes : List ℕ) : Type 0 where
  pub short : length content < 2 ^ 32
  pub spelled : bytes ≡ tlv tag content

-- X.690 section 8.3.3: the whole number of a content, in two's complement
abbrev pub twos_complement : List ℕ → ℤ
twos_complement bytes = if nat_lt (slice_index bytes 0) 128 then pos (number bytes) else pos (number bytes) -ℤ pos (256 ^ length bytes)

-- X.690 sections 8.3.1 and 8.3.2: one byte or more, of which the first nine bits are neither all 0 nor all 1
abbrev pub is_integer : List ℕ → Bool
is_integer [] = false
is_integer (first ∷ []) = true
is_integer (first ∷ second ∷ more) = not (first == 0 && nat_lt second 128) && not (first == 255 && nat_le 128 second)

-- X.690 section 8.3: the content spells this whole number, in the fewest bytes
pub record IntSpells (n : ℤ) (bytes : List ℕ) : Type 0 where
  pub value : twos_complement bytes ≡ n
  pub fewest : is_integer bytes ≡ true

-- the eight bits of a byte, the highest first
abbrev pub bits_of_byte : ℕ → List Bool
bits_of_byte byte =
    (byte / 128 % 2 == 1) ∷ (byte / 64 % 2 == 1) ∷ (byte / 32 % 2 == 1) ∷ (byte / 16 % 2 == 1)
    ∷ (byte / 8 % 2 == 1) ∷ (byte / 4 % 2 == 1) ∷ (byte / 2 % 2 == 1) ∷ (byte % 2 == 1) ∷ []

-- the bits of bytes, in their order
abbrev pub bits_of : List ℕ → List Bool
bits_of [] = []
bits_of (byte ∷ bytes) = bits_of_byte byte ++ bits_of bytes

-- X.690 sections 8.6.2 and 11.2: the count of unused bits, below 8, then the bits and that many zeros; without bits, the count 0 alone
pub record BitsSpell (bits : List Bool) (bytes : List ℕ) : Type 0 where
  pub unused : ℕ
  pub body : List ℕ
  pub counted : bytes ≡ unused ∷ body
  pub few : unused < 8
  pub padded : bits_of body ≡ bits ++ replicate unused false

-- ---- what is judged of an element before its content

-- how many bytes of length a first length byte announces
abbrev pub announced : ℕ → ℕ
announced first = if nat_lt 128 first && nat_lt first 133 then first - 128 else 0

-- of bytes that begin with an element: the tag
abbrev pub tag_of : List ℕ → ℕ
tag_of bytes = slice_index bytes 0

-- those that are to give the length of its content: the first behind the tag, and those that it announces
abbrev pub length_part : List ℕ → List ℕ
length_part [] = []
length_part (tag ∷ []) = []
length_part (tag ∷ first ∷ more) = first ∷ take (announced first) more

-- the length that they give: the first itself, if it is below 128, otherwise what the others spell
abbrev pub told_length : List ℕ → ℕ
told_length [] = 0
told_length (first ∷ more) = if nat_lt first 128 then first else number more

-- X.690 section 10.1: they are the one spelling of this length
abbrev pub is_length : List ℕ → Bool
is_length part = bytes_eq part (length_bytes (told_length part))

-- the length is rightly spelled
unfoldable pub has_der_length : List ℕ → Bool
has_der_length bytes = is_length (length_part bytes)

-- where the length ends, and where the content does
unfoldable pub length_end : List ℕ → ℕ
length_end bytes = 2 + announced (slice_index bytes 1)

-- where the content ends, counted as the length says
unfoldable pub content_end : List ℕ → ℕ
content_end bytes = length_end bytes + told_length (length_part bytes)

-- The tag and the length are not all there; or they are, the length is rightly spelled, and the content is not all there.
unfoldable pub is_truncated : List ℕ → Bool
is_truncated bytes = nat_lt (length bytes) (length_end bytes) || (has_der_length bytes && nat_lt (length bytes) (content_end bytes))

-- Truncated, WrongTag, BadLength, in this order
unfoldable pub head_rules : ℕ → List ℕ → List (ℕ × Bool)
head_rules tag bytes = (1, is_truncated bytes) ∷ (2, not (tag_of bytes == tag)) ∷ (3, not (has_der_length bytes)) ∷ []

-- a count of unused bits, 0 to 7, and then bytes, whose last unused bits are zero. Without bytes the count is 0.
abbrev pub is_bit_string : List ℕ → Bool
is_bit_string [] = false
is_bit_string (unused ∷ []) = unused == 0
is_bit_string (unused ∷ first ∷ more) = nat_lt unused 8 && slice_index (first ∷ more) (length more) % 2 ^ unused == 0

-- how many bits a content has that is a bit string
abbrev pub bit_count : List ℕ → ℕ
bit_count content = 8 * (length content - 1) - slice_index content 0

-- X.690 section 8.23: each byte is an ASCII character
abbrev pub is_ia5 : List ℕ → Bool
is_ia5 [] = true
is_ia5 (byte ∷ bytes) = nat_lt byte 128 && is_ia5 bytes
