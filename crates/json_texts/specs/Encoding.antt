-- What the first bytes of a file show that is not JSON in UTF-8. They are those of gzip (RFC 1952 section 2.3.1), a zero byte, or a byte order
-- mark, which a JSON text must not have (RFC 8259 section 8.1).
use Rattle.std.specs.Prelude.{◌≡◌, ℕ, ◌==◌, Bool, true, ◌||◌, if◌then◌else◌, List, [], ◌∷◌, Option, Some, None, codes}
use Rattle.std.specs.List.{starts_with}
use Rattle.serde_json.specs.Read.{read}

abbrev pub begins : List ℕ → List ℕ → Bool
begins bytes mark = starts_with (λ a b. a == b) bytes mark

abbrev pub is_gzip : List ℕ → Bool
is_gzip bytes = begins bytes (0x1f ∷ 0x8b ∷ [])

abbrev pub has_utf8_mark : List ℕ → Bool
has_utf8_mark bytes = begins bytes (0xef ∷ 0xbb ∷ 0xbf ∷ [])

abbrev pub has_utf16_mark : List ℕ → Bool
has_utf16_mark bytes = begins bytes (0xfe ∷ 0xff ∷ []) || begins bytes (0xff ∷ 0xfe ∷ [])

abbrev pub begins_with_zero : List ℕ → Bool
begins_with_zero bytes = begins bytes (0 ∷ [])

abbrev pub encoding_reason : List ℕ → Option (List ℕ)
encoding_reason bytes =
    if is_gzip bytes then Some (codes "it is compressed by gzip, decompress it first")
    else if has_utf8_mark bytes then Some (codes "it begins with a byte order mark, save it without one")
    else if has_utf16_mark bytes then Some (codes "it is UTF-16, save it as UTF-8 without a byte order mark")
    else if begins_with_zero bytes then Some (codes "it begins with a zero byte")
    else None

-- Bytes that begin with a zero byte are not JSON.
abbrev pub ZeroIsNoJson : Type 0
ZeroIsNoJson = (bytes : List ℕ) → begins_with_zero bytes ≡ true → read bytes ≡ None
