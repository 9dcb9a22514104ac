-- What a signed object needs of the certificate inside it (RFC 5280 section 4.1, RFC 6487 section 4): the key and its identifier.
use Rattle.std.specs.Prelude.{◌≡◌, ℕ, ◌==◌, ◌&&◌, Bool, true, false, not, bytes_eq, if◌then◌else◌, List, [], ◌∷◌, ◌++◌, Option, Some, None, is_none, is_some}
use Rattle.std.specs.Option.{option_or}
use Rattle.der_lite.specs.Der.{BIT_STRING, INTEGER, OBJECT_IDENTIFIER, OCTET_STRING, SEQUENCE, EXPLICIT_0, head_rules, is_integer}
use Rattle.der_lite.specs.Grammar.{Element, Members, element, primitive, constructed, plain, last, member, each}
use Rattle.der_forms.specs.Combinators.{FixedSpells, fixed_rules, fixed, no_rules, needed, element_behind, anything, told, told_content, or_empty, first_part, spelling, standing}
use Rattle.signed_objects.specs.Oids.{oid_rules}
use Rattle.signed_objects.specs.Attributes.{integer_rules}

-- [3], EXPLICIT
abbrev pub EXPLICIT_3 : ℕ
EXPLICIT_3 = 163

-- ---- RFC 5280 section 4.1.2.7: the key

-- The modulus: its first bit is set, so a zero is in front of it.
abbrev pub ModulusSpells : List ℕ → List ℕ → Type 0
ModulusSpells modulus content = content ≡ 0 ∷ modulus

abbrev pub begins_with_zero : List ℕ → Bool
begins_with_zero [] = false
begins_with_zero (first ∷ more) = first == 0

abbrev pub zero_rules : List ℕ → List (ℕ × Bool)
zero_rules content = (14, not (begins_with_zero content)) ∷ []

abbrev pub modulus_rules : List ℕ → List (ℕ × Bool)
modulus_rules content = (4, not (is_integer content)) ∷ zero_rules content

unfoldable pub modulus : Element (List ℕ)
modulus = element INTEGER (head_rules INTEGER) (primitive ModulusSpells modulus_rules)

-- 65537 (RFC 7935 section 3)
unfoldable pub exponent : Element (Unit {0})
exponent = fixed 14 INTEGER (1 ∷ 0 ∷ 1 ∷ [])

-- RFC 8017 section A.1.1: RSAPublicKey, a SEQUENCE of the modulus and the exponent
unfoldable pub rsa_public_key : Element (List ℕ)
rsa_public_key = element SEQUENCE (head_rules SEQUENCE) (constructed no_rules (told first_part (member modulus (λ _. last exponent))) no_rules)

-- subjectPublicKey: a bit string without unused bits, whose bytes are the key
pub record KeySpells (key content : List ℕ) : Type 0 where
  pub bytes : List ℕ
  pub whole : content ≡ 0 ∷ bytes
  pub spelled : rsa_public_key.Spells key bytes

-- subjectPublicKey BIT STRING
unfoldable pub public_key : Element (List ℕ)
public_key = element BIT_STRING (head_rules BIT_STRING) (spelling 14 KeySpells)

-- rsaEncryption, with NULL (RFC 7935 section 3.1)
abbrev pub rsa_key_algorithm : List ℕ
rsa_key_algorithm = 0x06 ∷ 0x09 ∷ 0x2a ∷ 0x86 ∷ 0x48 ∷ 0x86 ∷ 0xf7 ∷ 0x0d ∷ 0x01 ∷ 0x01 ∷ 0x01 ∷ 0x05 ∷ 0x00 ∷ []

unfoldable pub key_algorithm : Element (Unit {0})
key_algorithm = fixed 13 SEQUENCE rsa_key_algorithm

-- the second of two
abbrev pub second_part : {A B : Type 0} → A × B → B
second_part v = v.1

-- SubjectPublicKeyInfo
unfoldable pub key_info : Element (List ℕ)
key_info = element SEQUENCE (head_rules SEQUENCE) (constructed no_rules (told second_part (member key_algorithm (λ _. last public_key))) no_rules)

-- ---- RFC 5280 section 4.2: extensions

-- id-ce-subjectKeyIdentifier, 2.5.29.14
abbrev pub subject_key_identifier : List ℕ
subject_key_identifier = 0x55 ∷ 0x1d ∷ 0x0e ∷ []

abbrev pub names_key : List ℕ → Bool
names_key id = bytes_eq id subject_key_identifier

-- an extension: its identifier, and what is kept of it
abbrev pub Extension : Type 0
Extension = List ℕ × List ℕ

-- the key's identifier, if the extension has it
abbrev pub own_identifier : Extension → Option (List ℕ)
own_identifier (id, value) = if names_key id then Some value else None

-- the key's identifier among extensions: the last, if there are more
abbrev pub identifier_in : List Extension → Option (List ℕ)
identifier_in [] = None
identifier_in (first ∷ more) = option_or (identifier_in more) (own_identifier first)

-- it came before
abbrev pub has_identifier : List Extension → Bool
has_identifier extensions = is_some (identifier_in extensions)

-- it is there once
abbrev pub id_rules : Bool → List ℕ → List (ℕ × Bool)
id_rules came id = (16, names_key id && came) ∷ []

-- an identifier, which is there once if it is that of the key's
abbrev pub extension_rules : Bool → List ℕ → List (ℕ × Bool)
extension_rules came id = oid_rules id ++ id_rules came id

-- extnID, after the extensions before it
unfoldable pub extension_id : Bool → Element (List ℕ)
extension_id came = plain OBJECT_IDENTIFIER (extension_rules came)

-- an OCTET STRING that holds the OCTET STRING of the identifier
unfoldable pub key_identifier : Element (List ℕ)
key_identifier = element OCTET_STRING (head_rules OCTET_STRING) (constructed no_rules (last (plain OCTET_STRING no_rules)) no_rules)

-- The identifier's extension is not critical (RFC 6487 section 4.8.2), and critical FALSE is left out. Others are skipped.
abbrev pub extension_value : Bool → Members (List ℕ)
extension_value true = last key_identifier
extension_value false = anything

-- Extension, after those before it
unfoldable pub extension : List Extension → Element Extension
extension before = element SEQUENCE (head_rules SEQUENCE) (constructed no_rules (member (extension_id (has_identifier before)) (λ id. extension_value (names_key id))) no_rules)

-- the key's identifier is there
abbrev pub identifier_rules : List Extension → List (ℕ × Bool)
identifier_rules extensions = (17, is_none (identifier_in extensions)) ∷ []

-- the key's identifier that extensions have
abbrev pub identifier_told : List Extension → List ℕ
identifier_told extensions = or_empty (identifier_in extensions)

unfoldable pub extension_list : Element (List ℕ)
extension_list = element SEQUENCE (head_rules SEQUENCE) (told_content identifier_told (constructed no_rules (each extension) identifier_rules))

-- extensions [3] EXPLICIT
unfoldable pub extensions : Element (List ℕ)
extensions = element_behind (needed 15 EXPLICIT_3) EXPLICIT_3 (constructed no_rules (last extension_list) no_rules)

-- ---- RFC 5280 section 4.1: Certificate

-- version 3, which is INTEGER 2
abbrev pub version_3 : List ℕ
version_3 = 2 ∷ 1 ∷ 2 ∷ []

-- version [0] EXPLICIT
unfoldable pub certificate_version : Element (Unit {0})
certificate_version = element_behind (needed 12 EXPLICIT_0) EXPLICIT_0 (primitive (FixedSpells version_3) (fixed_rules 12 version_3))

-- a SEQUENCE that is skipped
abbrev pub passed : Element (List ℕ)
passed = plain SEQUENCE no_rules

-- the modulus of a key, and the identifier of the key
pub record Key : Type 0 where
  pub modulus : List ℕ
  pub identifier : List ℕ

abbrev pub key_of_parts : List ℕ × List ℕ → Key
key_of_parts v = record { modulus = v.0; identifier = v.1 }

abbrev pub key_members : Members Key
key_members = told key_of_parts (member key_info (λ _. last extensions))

-- issuer, validity, subject
abbrev pub names_members : Members Key
names_members = told (λ v. v.1.1.1) (member passed (λ _. member passed (λ _. member passed (λ _. key_members))))

-- version, serialNumber, signature
abbrev pub tbs_members : Members Key
tbs_members = told (λ v. v.1.1.1) (member certificate_version (λ _. member (plain INTEGER integer_rules) (λ _. member passed (λ _. names_members))))

-- TBSCertificate
unfoldable pub tbs_certificate : Element Key
tbs_certificate = element SEQUENCE (head_rules SEQUENCE) (constructed no_rules tbs_members no_rules)

-- tbsCertificate, signatureAlgorithm, signatureValue: who signed it is not judged
abbrev pub certificate_members : Members Key
certificate_members = told first_part (member tbs_certificate (λ _. member passed (λ _. last (plain BIT_STRING no_rules))))

-- Certificate, and the octets of its element
unfoldable pub certificate : Element (List ℕ × Key)
certificate = standing (element SEQUENCE (head_rules SEQUENCE) (constructed no_rules certificate_members no_rules))
