-- The heads of elements, worked out: which rule is broken first.
use Rattle.std.specs.Prelude.{◌≡◌, ℕ, List, [], ◌∷◌, Option, Some, None, refl}
use Rattle.der_lite.specs.Place.{first_of}
use Rattle.der_lite.specs.Der.{head_rules, is_truncated, has_der_length, length_bytes, length_end, content_end}

-- What is wrong with the head of a SEQUENCE with which these bytes begin.
abbrev wrong : List ℕ → Option ℕ
wrong bytes = first_of (head_rules 48 bytes)

whole : wrong (0x30 ∷ 0x01 ∷ 7 ∷ 8 ∷ []) ≡ None
unfolding head_rules is_truncated has_der_length length_bytes length_end content_end
whole = refl

-- neither bytes nor a length byte
no_bytes : wrong [] ≡ Some 1
unfolding head_rules is_truncated has_der_length length_bytes length_end content_end
no_bytes = refl

tag_alone : wrong (0x30 ∷ []) ≡ Some 1
unfolding head_rules is_truncated has_der_length length_bytes length_end content_end
tag_alone = refl

-- length bytes that are announced and missing, of another tag too
announced_alone : wrong (0x30 ∷ 0x81 ∷ []) ≡ Some 1
unfolding head_rules is_truncated has_der_length length_bytes length_end content_end
announced_alone = refl

other_tag_cut : wrong (0x04 ∷ 0x82 ∷ 0x01 ∷ []) ≡ Some 1
unfolding head_rules is_truncated has_der_length length_bytes length_end content_end
other_tag_cut = refl

-- a content that is missing
content_cut : wrong (0x31 ∷ 0x81 ∷ 0x80 ∷ []) ≡ Some 1
unfolding head_rules is_truncated has_der_length length_bytes length_end content_end
content_cut = refl

-- A length in too many bytes is not asked for its content. The tag is judged first, and then the length.
tag_first : wrong (0x31 ∷ 0x81 ∷ 0x7f ∷ []) ≡ Some 2
unfolding head_rules is_truncated has_der_length length_bytes length_end content_end
tag_first = refl

long_form : wrong (0x30 ∷ 0x81 ∷ 0x7f ∷ []) ≡ Some 3
unfolding head_rules is_truncated has_der_length length_bytes length_end content_end
long_form = refl

leading_zero : wrong (0x30 ∷ 0x82 ∷ 0x00 ∷ 0x80 ∷ []) ≡ Some 3
unfolding head_rules is_truncated has_der_length length_bytes length_end content_end
leading_zero = refl

-- The indefinite length, and five length bytes: none is announced.
indefinite : wrong (0x30 ∷ 0x80 ∷ []) ≡ Some 3
unfolding head_rules is_truncated has_der_length length_bytes length_end content_end
indefinite = refl

five_bytes : wrong (0x30 ∷ 0x85 ∷ []) ≡ Some 3
unfolding head_rules is_truncated has_der_length length_bytes length_end content_end
five_bytes = refl

-- Where the content begins, and where it ends, of a length of one byte and of two
ends_short : (length_end (0x30 ∷ 0x7f ∷ []) ≡ 2) × (content_end (0x30 ∷ 0x7f ∷ []) ≡ 129)
unfolding length_end content_end
ends_short = (refl, refl)

ends_long : (length_end (0x30 ∷ 0x82 ∷ 0x01 ∷ 0x00 ∷ []) ≡ 4) × (content_end (0x30 ∷ 0x82 ∷ 0x01 ∷ 0x00 ∷ []) ≡ 260)
unfolding length_end content_end
ends_long = (refl, refl)
