-- Contents of OBJECT IDENTIFIERs, worked out.
use Rattle.std.specs.Prelude.{◌≡◌, true, false, [], ◌∷◌, refl}
use Rattle.signed_objects.specs.Oids.{is_oid}

-- X.690 section 8.19.5, example: {joint-iso-itu-t 100 3}, 2.100.3
of_the_standard : is_oid (0x81 ∷ 0x34 ∷ 0x03 ∷ []) ≡ true
of_the_standard = refl

-- id-ct-routeOriginAuthz, 1.2.840.113549.1.9.16.1.24 (RFC 9582 section 3)
of_a_roa : is_oid (0x2a ∷ 0x86 ∷ 0x48 ∷ 0x86 ∷ 0xf7 ∷ 0x0d ∷ 0x01 ∷ 0x09 ∷ 0x10 ∷ 0x01 ∷ 0x18 ∷ []) ≡ true
of_a_roa = refl

-- its last octet has the top bit
unterminated : is_oid (0x2a ∷ 0x86 ∷ 0x48 ∷ 0x86 ∷ 0xf7 ∷ 0x0d ∷ 0x01 ∷ 0x09 ∷ 0x10 ∷ 0x01 ∷ 0x98 ∷ []) ≡ false
unterminated = refl

-- no subidentifier
empty : is_oid [] ≡ false
empty = refl

-- one subidentifier, in one octet: the least, the greatest, and one more
least : is_oid (0x00 ∷ []) ≡ true
least = refl

greatest : is_oid (0x7f ∷ []) ≡ true
greatest = refl

cut : is_oid (0x80 ∷ []) ≡ false
cut = refl

cut_too : is_oid (0xff ∷ []) ≡ false
cut_too = refl

-- the leading octet of a subidentifier
padded : is_oid (0x80 ∷ 0x2a ∷ 0x03 ∷ []) ≡ false
padded = refl

next_padded : is_oid (0x2a ∷ 0x80 ∷ 0x03 ∷ []) ≡ false
next_padded = refl

not_padded : is_oid (0x81 ∷ 0x00 ∷ []) ≡ true
not_padded = refl

-- 0x80 is right within a subidentifier: 2.16304, 2^14 after 80
within : is_oid (0x81 ∷ 0x80 ∷ 0x00 ∷ []) ≡ true
within = refl

behind_the_end : is_oid (0x81 ∷ 0x00 ∷ 0x80 ∷ 0x01 ∷ []) ≡ false
behind_the_end = refl
