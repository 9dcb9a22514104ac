-- Lengths and levels of elements in BER, and contents of INTEGERs, worked out.
use Rattle.std.specs.Prelude.{◌≡◌, ℕ, zero, suc, List, [], ◌∷◌, ◌++◌, length, Some, None, Ok, Err, refl}
use Rattle.der_lite.specs.Place.{place_of, first_of}
use Rattle.der_lite.specs.Der.{length_bytes}
use Rattle.der_lite.specs.DerReading as reading
use Rattle.der_forms.specs.Combinators.{fault_at}
use Rattle.signed_objects.specs.Attributes.{integer_rules}
use Rattle.signed_objects.specs.BerReading.{length_octets_at, head_at, body_at, element_in, all_in}

-- ---- lengths

-- X.690 section 8.1.3.4, example: L = 38
thirty_eight : length_octets_at 0 (place_of 1 (0x26 ∷ [])) ≡ Ok (Some 38, place_of 2 [])
unfolding length_octets_at
thirty_eight = refl

-- X.690 section 8.1.3.5, example: L = 201
two_hundred_and_one : length_octets_at 0 (place_of 1 (0x81 ∷ 0xc9 ∷ [])) ≡ Ok (Some 201, place_of 3 [])
unfolding length_octets_at
two_hundred_and_one = refl

-- section 8.1.3.5, note 2: more octets than the fewest
with_zeros : length_octets_at 0 (place_of 1 (0x84 ∷ 0x00 ∷ 0x00 ∷ 0x00 ∷ 0xc9 ∷ [])) ≡ Ok (Some 201, place_of 6 [])
unfolding length_octets_at
with_zeros = refl

-- section 8.1.3.6: the indefinite form
indefinite : length_octets_at 0 (place_of 1 (0x80 ∷ [])) ≡ Ok (None, place_of 2 [])
unfolding length_octets_at
indefinite = refl

-- section 8.1.3.5, c: the first octet is not 0xff
reserved : length_octets_at 0 (place_of 1 (0xff ∷ [])) ≡ Err (fault_at 39 0)
unfolding length_octets_at
reserved = refl

-- 2^32 - 1, 2^32, and 2^40
greatest : length_octets_at 0 (place_of 1 (0x85 ∷ 0x00 ∷ 0xff ∷ 0xff ∷ 0xff ∷ 0xff ∷ [])) ≡ Ok (Some 4294967295, place_of 7 [])
unfolding length_octets_at
greatest = refl

one_more : length_octets_at 0 (place_of 1 (0x85 ∷ 0x01 ∷ 0x00 ∷ 0x00 ∷ 0x00 ∷ 0x00 ∷ [])) ≡ Err (fault_at 39 0)
unfolding length_octets_at
one_more = refl

far_more : length_octets_at 0 (place_of 1 (0x86 ∷ 0x01 ∷ 0x00 ∷ 0x00 ∷ 0x00 ∷ 0x00 ∷ 0x00 ∷ [])) ≡ Err (fault_at 39 0)
unfolding length_octets_at
far_more = refl

-- ---- levels

-- this many SEQUENCEs, each but the last around the next
nested : ℕ → List ℕ
nested zero = []
nested (suc levels) = 0x30 ∷ length (nested levels) ∷ nested levels

-- this many OCTET STRINGs in pieces, each around the next, around one of no octets
pieces : ℕ → List ℕ
pieces zero = 0x04 ∷ 0x00 ∷ []
pieces (suc levels) = 0x24 ∷ 0x80 ∷ pieces levels ++ 0x00 ∷ 0x00 ∷ []

-- 16 levels are read, and 17 are not
sixteen : all_in (nested 16) ≡ Ok (nested 16)
unfolding all_in element_in head_at body_at length_octets_at length_bytes nested reading.end_at
sixteen = refl

seventeen : all_in (nested 17) ≡ Err (fault_at 43 32)
unfolding all_in element_in head_at body_at length_octets_at nested
seventeen = refl

-- the piece of no octets is one level more
sixteen_with_pieces : all_in (pieces 15) ≡ Ok (0x04 ∷ 0x00 ∷ [])
unfolding all_in element_in head_at body_at length_octets_at length_bytes pieces reading.end_at
sixteen_with_pieces = refl

seventeen_with_pieces : all_in (pieces 16) ≡ Err (fault_at 43 32)
unfolding all_in element_in head_at body_at length_octets_at pieces
seventeen_with_pieces = refl

-- ---- INTEGERs (X.690 section 8.3.2): the first nine bits are neither all 0 nor all 1

no_octet : first_of (integer_rules []) ≡ Some 4
no_octet = refl

zero_alone : first_of (integer_rules (0x00 ∷ [])) ≡ None
zero_alone = refl

needed_zero : first_of (integer_rules (0x00 ∷ 0x80 ∷ [])) ≡ None
needed_zero = refl

padded : first_of (integer_rules (0x00 ∷ 0x7f ∷ [])) ≡ Some 4
padded = refl

needed_ones : first_of (integer_rules (0xff ∷ 0x7f ∷ [])) ≡ None
needed_ones = refl

padded_by_ones : first_of (integer_rules (0xff ∷ 0x80 ∷ [])) ≡ Some 4
padded_by_ones = refl
