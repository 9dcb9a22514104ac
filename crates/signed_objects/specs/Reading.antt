-- Reading a signed object in DER over what the reads of a cursor give.
use Rattle.std.specs.Prelude.{ℕ, zero, suc, Bool, true, false, List, [], ◌∷◌, drop, Option, Some, None, is_some, is_none, Result}
use Rattle.der_lite.specs.Place.{Fault, place_of}
use Rattle.der_lite.specs.Der.{BIT_STRING, INTEGER, OBJECT_IDENTIFIER, OCTET_STRING, SEQUENCE, EXPLICIT_0}
use Rattle.der_lite.specs.DerReading.{content_at, element_at, integer_at, octets_at, oid_at}
use Rattle.der_lite.specs.Decoding.{Read, ReadAll, ReadContent, read_primitive, read_constructed, read_member, read_each}
use Rattle.der_lite.specs.Fields.{field_at, last_at}
use Rattle.signed_objects.specs.declared.attribute.AttributeType.{AttributeType}
use Rattle.signed_objects.specs.declared.attribute.AttributeType.TheVariants.{ContentType, MessageDigest, SigningTime, BinarySigningTime}
use Rattle.der_forms.specs.Combinators.{no_rules, needed, barred, first_part, fixed_rules}
use Rattle.der_forms.specs.CombinatorReading.{fixed_field, needed_octets_at, octets_of, found_at, opened_at, nothing_at, anything_at, told_at, told_content_at, with_octets_at, standing_at, one_of, either_at, or_fault, read_value}
use Rattle.signed_objects.specs.Oids.{oid_rules}
use Rattle.signed_objects.specs.Attributes.{SET, UTC_TIME, GENERAL_TIME, Attribute, value_of, type_in, attribute_rules, Said, said_by}
use Rattle.signed_objects.specs.Certificates.{EXPLICIT_3, zero_rules, rsa_key_algorithm, second_part, names_key, Extension, has_identifier, id_rules, identifier_rules, identifier_told, key_of_parts, version_3, Key}
use Rattle.signed_objects.specs.Cms.{digest_rules, signature_rules, IMPLICIT_0, EXPLICIT_1, unsigned_number, Signer, SignedParts, signer_of, ObjectParts, SignedBy, object_of, id_signed_data, second_of}

-- an OBJECT IDENTIFIER of any value
unfoldable pub object_identifier_at : Read (List ℕ)
object_identifier_at = content_at OBJECT_IDENTIFIER oid_rules

-- ---- attributes

-- a type that was found
abbrev pub found_type : Option AttributeType → AttributeType
found_type (Some type) = type
found_type None = ContentType

-- the type whose identifier was read
abbrev pub type_of : List ℕ → AttributeType
type_of content = found_type (type_in content)

-- the values that were found among attributes
pub record Found : Type 0 where
  pub content_type : Option (List ℕ)
  pub message_digest : Option (List ℕ)
  pub signing_time : Option (List ℕ)
  pub binary_signing_time : Option (List ℕ)

abbrev pub found_in : List Attribute → Found
found_in attributes = record {
  content_type = value_of ContentType attributes;
  message_digest = value_of MessageDigest attributes;
  signing_time = value_of SigningTime attributes;
  binary_signing_time = value_of BinarySigningTime attributes;
}

-- the value of a type among them
abbrev pub found_of : Found → AttributeType → Option (List ℕ)
found_of found ContentType = found.content_type
found_of found MessageDigest = found.message_digest
found_of found SigningTime = found.signing_time
found_of found BinarySigningTime = found.binary_signing_time

-- one value more
abbrev pub put_in : Found → AttributeType → List ℕ → Found
put_in found ContentType value = record found { content_type = Some value }
put_in found MessageDigest value = record found { message_digest = Some value }
put_in found SigningTime value = record found { signing_time = Some value }
put_in found BinarySigningTime value = record found { binary_signing_time = Some value }

-- a value of the type was found
abbrev pub is_found : Found → Option AttributeType → Bool
is_found found None = false
is_found found (Some type) = is_some (found_of found type)

-- the type is one of the four, and no value of it was found
abbrev pub found_rules : Found → List ℕ → List (ℕ × Bool)
found_rules found content = (23, is_none (type_in content)) ∷ (24, is_found found (type_in content)) ∷ []

unfoldable pub attribute_type_at : Found → Read AttributeType
attribute_type_at found p = field_at (oid_at p) p.at (found_rules found) type_of

unfoldable pub signing_time_at : Read (List ℕ)
signing_time_at = either_at UTC_TIME (octets_of UTC_TIME) (needed_octets_at 26 GENERAL_TIME)

unfoldable pub attribute_value_at : AttributeType → Read (List ℕ)
attribute_value_at ContentType = object_identifier_at
attribute_value_at MessageDigest = octets_at
attribute_value_at SigningTime = signing_time_at
attribute_value_at BinarySigningTime = integer_at

unfoldable pub attribute_values_at : AttributeType → Read (List ℕ)
attribute_values_at type p = opened_at (element_at SET p) p.at (one_of 25 (attribute_value_at type))

unfoldable pub attribute_from : Found → Read Attribute
attribute_from found p = opened_at (element_at SEQUENCE p) p.at (read_constructed no_rules (read_member (attribute_type_at found) (λ type. last_at (attribute_values_at type))) no_rules)

-- an attribute after those before it
abbrev pub attribute_at : List Attribute → Read Attribute
attribute_at before = attribute_from (found_in before)

abbrev pub attributes_at : ReadContent Said
attributes_at = told_content_at said_by (read_constructed no_rules (read_each attribute_at) attribute_rules)

-- ---- the certificate

unfoldable pub modulus_at : Read (List ℕ)
modulus_at p = field_at (integer_at p) p.at zero_rules (drop 1)

unfoldable pub exponent_at : Read (Unit {0})
exponent_at p = fixed_field (content_at INTEGER no_rules p) p.at 14 (1 ∷ 0 ∷ 1 ∷ [])

unfoldable pub rsa_public_key_at : Read (List ℕ)
rsa_public_key_at p = opened_at (element_at SEQUENCE p) p.at (read_constructed no_rules (told_at first_part (read_member modulus_at (λ _. last_at exponent_at))) no_rules)

-- a key, and the end
abbrev pub rsa_public_key_all : List ℕ → Result (List ℕ) Fault
rsa_public_key_all bytes = last_at rsa_public_key_at (place_of 0 bytes)

-- the key that bytes are
unfoldable pub key_in : List ℕ → Option (List ℕ)
key_in bytes = read_value (rsa_public_key_all bytes)

-- the key of a bit string's content
unfoldable pub key_of : List ℕ → Option (List ℕ)
key_of [] = None
key_of (zero ∷ bytes) = key_in bytes
key_of (suc n ∷ bytes) = None

unfoldable pub public_key_at : Read (List ℕ)
public_key_at p = opened_at (element_at BIT_STRING p) p.at (λ at inner. or_fault 14 at (key_of inner.rest))

unfoldable pub key_algorithm_at : Read (Unit {0})
key_algorithm_at p = fixed_field (content_at SEQUENCE no_rules p) p.at 13 rsa_key_algorithm

unfoldable pub key_info_at : Read (List ℕ)
key_info_at p = opened_at (element_at SEQUENCE p) p.at (read_constructed no_rules (told_at second_part (read_member key_algorithm_at (λ _. last_at public_key_at))) no_rules)

unfoldable pub extension_id_at : Bool → Read (List ℕ)
extension_id_at came p = field_at (object_identifier_at p) p.at (id_rules came) (λ id. id)

unfoldable pub key_identifier_at : Read (List ℕ)
key_identifier_at p = opened_at (element_at OCTET_STRING p) p.at (read_constructed no_rules (last_at octets_at) no_rules)

-- an extension's value
abbrev pub extension_value_at : Bool → ReadAll (List ℕ)
extension_value_at true p = last_at key_identifier_at p
extension_value_at false p = anything_at p

unfoldable pub extension_from : Bool → Read Extension
extension_from came p = opened_at (element_at SEQUENCE p) p.at (read_constructed no_rules (read_member (extension_id_at came) (λ id. extension_value_at (names_key id))) no_rules)

-- an extension after those before it
abbrev pub extension_at : List Extension → Read Extension
extension_at before = extension_from (has_identifier before)

unfoldable pub extension_list_at : Read (List ℕ)
extension_list_at p = opened_at (element_at SEQUENCE p) p.at (told_content_at identifier_told (read_constructed no_rules (read_each extension_at) identifier_rules))

unfoldable pub extensions_at : Read (List ℕ)
extensions_at p = opened_at (found_at (needed 15 EXPLICIT_3) EXPLICIT_3 p) p.at (read_constructed no_rules (last_at extension_list_at) no_rules)

unfoldable pub certificate_version_at : Read (Unit {0})
certificate_version_at p = opened_at (found_at (needed 12 EXPLICIT_0) EXPLICIT_0 p) p.at (read_primitive (fixed_rules 12 version_3) (λ content. tt))

-- an element that is skipped
abbrev pub passed_at : Read (List ℕ)
passed_at = content_at SEQUENCE no_rules

unfoldable pub key_members_at : ReadAll Key
key_members_at = told_at key_of_parts (read_member key_info_at (λ _. last_at extensions_at))

unfoldable pub names_members_at : ReadAll Key
names_members_at = told_at (λ v. v.1.1.1) (read_member passed_at (λ _. read_member passed_at (λ _. read_member passed_at (λ _. key_members_at))))

unfoldable pub tbs_members_at : ReadAll Key
tbs_members_at = told_at (λ v. v.1.1.1) (read_member certificate_version_at (λ _. read_member integer_at (λ _. read_member passed_at (λ _. names_members_at))))

unfoldable pub tbs_certificate_at : Read Key
tbs_certificate_at p = opened_at (element_at SEQUENCE p) p.at (read_constructed no_rules tbs_members_at no_rules)

unfoldable pub certificate_content_at : Read Key
certificate_content_at p = opened_at (element_at SEQUENCE p) p.at (read_constructed no_rules (told_at first_part (read_member tbs_certificate_at (λ _. read_member passed_at (λ _. last_at (octets_of BIT_STRING))))) no_rules)

unfoldable pub certificate_at : Read (List ℕ × Key)
certificate_at = standing_at certificate_content_at

-- ---- the signer

unfoldable pub digest_algorithm_at : Read (List ℕ)
digest_algorithm_at = content_at SEQUENCE digest_rules

unfoldable pub signature_algorithm_at : Read (List ℕ)
signature_algorithm_at = content_at SEQUENCE signature_rules

unfoldable pub signer_identifier_at : Read (List ℕ)
signer_identifier_at = needed_octets_at 21 IMPLICIT_0

unfoldable pub signed_attributes_at : Read (List ℕ × Said)
signed_attributes_at p = opened_at (found_at (needed 22 EXPLICIT_0) EXPLICIT_0 p) p.at (with_octets_at attributes_at)

unfoldable pub signature_members_at : ReadAll (List ℕ)
signature_members_at = told_at (λ v. v.1.0) (read_member signature_algorithm_at (λ _. read_member octets_at (λ _. nothing_at unsigned_number)))

unfoldable pub signed_members_at : ReadAll SignedParts
signed_members_at = told_at (λ v. v.1) (read_member digest_algorithm_at (λ _. read_member signed_attributes_at (λ _. signature_members_at)))

-- version 3
abbrev pub version_at : ℕ → Read (Unit {0})
version_at number p = fixed_field (content_at INTEGER no_rules p) p.at number (3 ∷ [])

unfoldable pub signer_info_at : Read Signer
signer_info_at p = opened_at (element_at SEQUENCE p) p.at (read_constructed no_rules (told_at signer_of (read_member (version_at 20) (λ _. read_member signer_identifier_at (λ _. signed_members_at)))) no_rules)

-- ---- the object

unfoldable pub digest_algorithms_at : Read (List ℕ)
digest_algorithms_at p = opened_at (element_at SET p) p.at (one_of 8 digest_algorithm_at)

unfoldable pub content_here : Read (List ℕ)
content_here p = opened_at (found_at (needed 10 EXPLICIT_0) EXPLICIT_0 p) p.at (read_constructed no_rules (last_at octets_at) no_rules)

unfoldable pub encapsulated_at : Read (List ℕ × List ℕ)
encapsulated_at p = opened_at (element_at SEQUENCE p) p.at (read_constructed no_rules (read_member object_identifier_at (λ _. last_at content_here)) no_rules)

unfoldable pub certificates_at : Read (List ℕ × Key)
certificates_at p = opened_at (found_at (needed 11 EXPLICIT_0) EXPLICIT_0 p) p.at (one_of 11 certificate_at)

unfoldable pub signer_infos_at : Read Signer
signer_infos_at p = opened_at (found_at (barred 18 EXPLICIT_1) SET p) p.at (one_of 19 signer_info_at)

unfoldable pub signed_by_at : ReadAll SignedBy
signed_by_at = read_member certificates_at (λ _. last_at signer_infos_at)

unfoldable pub signed_data_at : Read ObjectParts
signed_data_at p = opened_at (element_at SEQUENCE p) p.at (read_constructed no_rules (told_at object_of (read_member (version_at 7) (λ _. read_member digest_algorithms_at (λ _. read_member encapsulated_at (λ _. signed_by_at))))) no_rules)

unfoldable pub wrapped_data_at : Read ObjectParts
wrapped_data_at p = opened_at (element_at EXPLICIT_0 p) p.at (read_constructed no_rules (last_at signed_data_at) no_rules)

-- id-signedData
unfoldable pub content_type_at : Read (Unit {0})
content_type_at p = fixed_field (oid_at p) p.at 6 id_signed_data

unfoldable pub content_info_at : Read ObjectParts
content_info_at p = opened_at (element_at SEQUENCE p) p.at (read_constructed no_rules (told_at second_of (read_member content_type_at (λ _. last_at wrapped_data_at))) no_rules)

-- the object that the bytes spell, or the first fault
unfoldable pub object_all : List ℕ → Result ObjectParts Fault
object_all bytes = last_at content_info_at (place_of 0 bytes)
