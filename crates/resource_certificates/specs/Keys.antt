-- Keys and algorithms (RFC 7935 sections 2 and 3, RFC 4055 section 5).
use Rattle.std.specs.Prelude.{◌≡◌, ℕ, ◌==◌, ◌&&◌, Bool, false, not, bytes_eq, List, [], ◌∷◌, length}
use Rattle.der_lite.specs.Der.{BIT_STRING, INTEGER, SEQUENCE, head_rules, is_integer}
use Rattle.der_lite.specs.Grammar.{Element, element, primitive, constructed, plain, last, member}
use Rattle.der_forms.specs.Combinators.{no_rules, told, first_part, spelling, fixed}

-- The modulus: its first bit is set, so a zero is in front of it.
abbrev pub ModulusSpells : List ℕ → List ℕ → Type 0
ModulusSpells modulus content = content ≡ 0 ∷ modulus

abbrev pub begins_with_zero : List ℕ → Bool
begins_with_zero [] = false
begins_with_zero (first ∷ more) = first == 0

abbrev pub zero_rules : ℕ → List ℕ → List (ℕ × Bool)
zero_rules number content = (number, not (begins_with_zero content)) ∷ []

-- RFC 7935 section 3: 2,048 bits, which are 256 octets after the zero, in the fewest octets.
abbrev pub size_rules : List ℕ → List (ℕ × Bool)
size_rules content = (14, not (begins_with_zero content)) ∷ (14, not (length content == 257)) ∷ []

abbrev pub modulus_rules : List ℕ → List (ℕ × Bool)
modulus_rules content = (4, not (is_integer content)) ∷ size_rules content

unfoldable pub modulus : Element (List ℕ)
modulus = element INTEGER (head_rules INTEGER) (primitive ModulusSpells modulus_rules)

-- 65537 (RFC 7935 section 3)
unfoldable pub exponent : Element (Unit {0})
exponent = fixed 14 INTEGER (1 ∷ 0 ∷ 1 ∷ [])

-- RFC 8017 section A.1.1
unfoldable pub rsa_public_key : Element (List ℕ)
rsa_public_key = element SEQUENCE (head_rules SEQUENCE) (constructed no_rules (told first_part (member modulus (λ _. last exponent))) no_rules)

-- a key: the modulus, and the bits of subjectPublicKey, of which the identifier is the SHA-1
pub record Key : Type 0 where
  pub modulus : List ℕ
  pub bits : List ℕ

-- subjectPublicKey: a bit string without unused bits, whose bytes are the key
pub record KeySpells (key : Key) (content : List ℕ) : Type 0 where
  pub whole : content ≡ 0 ∷ key.bits
  pub spelled : rsa_public_key.Spells key.modulus key.bits

unfoldable pub public_key : Element Key
public_key = element BIT_STRING (head_rules BIT_STRING) (spelling 14 KeySpells)

-- rsaEncryption, with NULL (RFC 7935 section 3.1)
abbrev pub rsa_key_algorithm : List ℕ
rsa_key_algorithm = 0x06 ∷ 0x09 ∷ 0x2a ∷ 0x86 ∷ 0x48 ∷ 0x86 ∷ 0xf7 ∷ 0x0d ∷ 0x01 ∷ 0x01 ∷ 0x01 ∷ 0x05 ∷ 0x00 ∷ []

unfoldable pub key_algorithm : Element (Unit {0})
key_algorithm = fixed 13 SEQUENCE rsa_key_algorithm

abbrev pub second_part : {A B : Type 0} → A × B → B
second_part v = v.1

-- SubjectPublicKeyInfo
unfoldable pub key_info : Element Key
key_info = element SEQUENCE (head_rules SEQUENCE) (constructed no_rules (told second_part (member key_algorithm (λ _. last public_key))) no_rules)

-- sha256WithRSAEncryption, its parameters absent or NULL (RFC 7935 section 2, RFC 4055 section 5)
abbrev pub signature_oid : List ℕ → List ℕ
signature_oid parameters = 0x06 ∷ 0x09 ∷ 0x2a ∷ 0x86 ∷ 0x48 ∷ 0x86 ∷ 0xf7 ∷ 0x0d ∷ 0x01 ∷ 0x01 ∷ 0x0b ∷ parameters

abbrev pub algorithm_rules : List ℕ → List (ℕ × Bool)
algorithm_rules content = (8, not (bytes_eq content (signature_oid (5 ∷ 0 ∷ []))) && not (bytes_eq content (signature_oid []))) ∷ []

unfoldable pub signature_algorithm : Element (List ℕ)
signature_algorithm = plain SEQUENCE algorithm_rules

-- signatureValue: a bit string without unused bits
unfoldable pub signature_value : Element (List ℕ)
signature_value = element BIT_STRING (head_rules BIT_STRING) (primitive ModulusSpells (zero_rules 19))
