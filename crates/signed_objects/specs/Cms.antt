-- CMS signed objects in DER (RFC 5652, RFC 6488 section 2), and the first fault of bytes that spell none.
use Rattle.std.specs.Prelude.{ℕ, ◌||◌, Bool, not, bytes_eq, if◌then◌else◌, List, [], ◌∷◌, ◌++◌, length}
use Rattle.der_lite.specs.Der.{INTEGER, OBJECT_IDENTIFIER, OCTET_STRING, SEQUENCE, EXPLICIT_0, head_rules}
use Rattle.der_lite.specs.Grammar.{Element, Members, element, constructed, plain, last, member}
use Rattle.der_forms.specs.Combinators.{no_rules, begins, needed, barred, element_behind, nothing, told, holding_one, with_octets, needed_octets, fixed}
use Rattle.signed_objects.specs.Oids.{object_identifier}
use Rattle.signed_objects.specs.Attributes.{SET, Said, attributes_content}
use Rattle.signed_objects.specs.Certificates.{Key, certificate}

-- ---- algorithms

-- AlgorithmIdentifier: the OBJECT IDENTIFIER, and parameters that are absent or NULL
abbrev pub is_algorithm : List ℕ → List ℕ → Bool
is_algorithm oid content =
    bytes_eq content (OBJECT_IDENTIFIER ∷ length oid ∷ oid) || bytes_eq content (OBJECT_IDENTIFIER ∷ length oid ∷ oid ++ 0x05 ∷ 0x00 ∷ [])

-- 2.16.840.1.101.3.4.2.1 (RFC 7935 section 2)
abbrev pub sha_256 : List ℕ
sha_256 = 0x60 ∷ 0x86 ∷ 0x48 ∷ 0x01 ∷ 0x65 ∷ 0x03 ∷ 0x04 ∷ 0x02 ∷ 0x01 ∷ []

-- pkcs-1, 1.2.840.113549.1.1, and one number below it
abbrev pub pkcs_1 : ℕ → List ℕ
pkcs_1 below = 0x2a ∷ 0x86 ∷ 0x48 ∷ 0x86 ∷ 0xf7 ∷ 0x0d ∷ 0x01 ∷ 0x01 ∷ below ∷ []

-- rsaEncryption, or sha256WithRSAEncryption (RFC 7935 section 2)
abbrev pub is_rsa : List ℕ → Bool
is_rsa content = is_algorithm (pkcs_1 1) content || is_algorithm (pkcs_1 11) content

abbrev pub digest_rules : List ℕ → List (ℕ × Bool)
digest_rules content = (9, not (is_algorithm sha_256 content)) ∷ []

-- DigestAlgorithmIdentifier: SHA-256
unfoldable pub digest_algorithm : Element (List ℕ)
digest_algorithm = plain SEQUENCE digest_rules

abbrev pub signature_rules : List ℕ → List (ℕ × Bool)
signature_rules content = (29, not (is_rsa content)) ∷ []

-- SignatureAlgorithmIdentifier
unfoldable pub signature_algorithm : Element (List ℕ)
signature_algorithm = plain SEQUENCE signature_rules

-- ---- RFC 5652 section 5.3: SignerInfo

-- [0], primitive, and [1]
abbrev pub IMPLICIT_0 : ℕ
IMPLICIT_0 = 128

abbrev pub EXPLICIT_1 : ℕ
EXPLICIT_1 = 161

-- sid: subjectKeyIdentifier [0]
unfoldable pub signer_identifier : Element (List ℕ)
signer_identifier = needed_octets 21 IMPLICIT_0

-- signedAttrs [0]: its octets, and the attributes
unfoldable pub signed_attributes : Element (List ℕ × Said)
signed_attributes = element_behind (needed 22 EXPLICIT_0) EXPLICIT_0 (with_octets attributes_content)

-- unsignedAttrs [1] is left out, and nothing follows it
abbrev pub unsigned_number : List ℕ → ℕ
unsigned_number bytes = if begins EXPLICIT_1 bytes then 30 else 5

-- a signer: the identifier of its key, the octets of the attributes, what they say, the signature
pub record Signer : Type 0 where
  pub identifier : List ℕ
  pub octets : List ℕ
  pub said : Said
  pub signature : List ℕ

-- signatureAlgorithm, signature
abbrev pub signature_members : Members (List ℕ)
signature_members = told (λ v. v.1.0) (member signature_algorithm (λ _. member (plain OCTET_STRING no_rules) (λ _. nothing unsigned_number)))

-- the attributes, and the signature
abbrev pub SignedParts : Type 0
SignedParts = (List ℕ × Said) × List ℕ

-- digestAlgorithm, signedAttrs, and what follows them
abbrev pub signed_members : Members SignedParts
signed_members = told (λ v. v.1) (member digest_algorithm (λ _. member signed_attributes (λ _. signature_members)))

-- a signer of its parts
abbrev pub signer_of : Unit {0} × (List ℕ × SignedParts) → Signer
signer_of v = record { identifier = v.1.0; octets = v.1.1.0.0; said = v.1.1.0.1; signature = v.1.1.1 }

-- version 3, sid, and what follows them
abbrev pub signer_members : Members Signer
signer_members = told signer_of (member (fixed 20 INTEGER (3 ∷ [])) (λ _. member signer_identifier (λ _. signed_members)))

unfoldable pub signer_info : Element Signer
signer_info = element SEQUENCE (head_rules SEQUENCE) (constructed no_rules signer_members no_rules)

-- ---- RFC 5652 section 5.1: SignedData

-- digestAlgorithms: one
unfoldable pub digest_algorithms : Element (List ℕ)
digest_algorithms = element SET (head_rules SET) (holding_one 8 digest_algorithm)

-- eContent [0] EXPLICIT OCTET STRING
unfoldable pub content : Element (List ℕ)
content = element_behind (needed 10 EXPLICIT_0) EXPLICIT_0 (constructed no_rules (last (plain OCTET_STRING no_rules)) no_rules)

-- encapContentInfo: eContentType and eContent
unfoldable pub encapsulated : Element (List ℕ × List ℕ)
encapsulated = element SEQUENCE (head_rules SEQUENCE) (constructed no_rules (member object_identifier (λ _. last content)) no_rules)

-- certificates [0]: one
unfoldable pub certificates : Element (List ℕ × Key)
certificates = element_behind (needed 11 EXPLICIT_0) EXPLICIT_0 (holding_one 11 certificate)

-- signerInfos: one. crls [1], whose place is before it, is left out.
unfoldable pub signer_infos : Element Signer
signer_infos = element_behind (barred 18 EXPLICIT_1) SET (holding_one 19 signer_info)

-- an object: the type of its content, the content, the certificate and the signer
pub record ObjectParts : Type 0 where
  pub content_type : List ℕ
  pub content : List ℕ
  pub certificate : List ℕ
  pub key : Key
  pub signer : Signer

-- certificates, signerInfos
abbrev pub SignedBy : Type 0
SignedBy = (List ℕ × Key) × Signer

abbrev pub signed_by : Members SignedBy
signed_by = member certificates (λ _. last signer_infos)

-- an object of its parts
abbrev pub object_of : Unit {0} × (List ℕ × ((List ℕ × List ℕ) × SignedBy)) → ObjectParts
object_of v = record {
  content_type = v.1.1.0.0;
  content = v.1.1.0.1;
  certificate = v.1.1.1.0.0;
  key = v.1.1.1.0.1;
  signer = v.1.1.1.1;
}

-- version 3, digestAlgorithms, encapContentInfo, and what follows them
abbrev pub signed_data_members : Members ObjectParts
signed_data_members = told object_of (member (fixed 7 INTEGER (3 ∷ [])) (λ _. member digest_algorithms (λ _. member encapsulated (λ _. signed_by))))

unfoldable pub signed_data : Element ObjectParts
signed_data = element SEQUENCE (head_rules SEQUENCE) (constructed no_rules signed_data_members no_rules)

-- ---- RFC 5652 section 3: ContentInfo

-- id-signedData, 1.2.840.113549.1.7.2
abbrev pub id_signed_data : List ℕ
id_signed_data = 0x2a ∷ 0x86 ∷ 0x48 ∷ 0x86 ∷ 0xf7 ∷ 0x0d ∷ 0x01 ∷ 0x07 ∷ 0x02 ∷ []

-- content [0] EXPLICIT
unfoldable pub wrapped_data : Element ObjectParts
wrapped_data = element EXPLICIT_0 (head_rules EXPLICIT_0) (constructed no_rules (last signed_data) no_rules)

abbrev pub second_of : Unit {0} × ObjectParts → ObjectParts
second_of v = v.1

unfoldable pub content_info : Element ObjectParts
content_info = element SEQUENCE (head_rules SEQUENCE) (constructed no_rules (told second_of (member (fixed 6 OBJECT_IDENTIFIER id_signed_data) (λ _. last wrapped_data))) no_rules)

-- one object, and the end
unfoldable pub object : Members ObjectParts
object = last content_info
