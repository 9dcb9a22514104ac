-- Reading a certificate over what the reads of a cursor give.
use Rattle.std.specs.Prelude.{ℕ, zero, suc, Bool, true, false, List, [], ◌∷◌, drop, Option, Some, None, is_some, Result}
use Rattle.der_lite.specs.Place.{Fault, place_of}
use Rattle.der_lite.specs.Der.{BIT_STRING, INTEGER, OCTET_STRING, SEQUENCE, EXPLICIT_0}
use Rattle.der_lite.specs.DerReading.{content_at, element_at, integer_at, octets_at, oid_at}
use Rattle.der_lite.specs.Moments.{CivilMoment, moment_of}
use Rattle.der_lite.specs.Times.{timed_at}
use Rattle.der_lite.specs.Decoding.{Read, ReadAll, read_primitive, read_constructed, read_member, read_each}
use Rattle.der_lite.specs.Fields.{field_at, last_at, optional_at}
use Rattle.der_forms.specs.Combinators.{no_rules, needed, barred, first_part, fixed_rules}
use Rattle.der_forms.specs.CombinatorReading.{found_at, opened_at, told_at, told_content_at, standing_at, either_at, or_fault, read_value, fixed_field, all_octets}
use Rattle.resource_certificates.specs.declared.extension.ExtensionKind.{ExtensionKind}
use Rattle.resource_certificates.specs.declared.extension.ExtensionKind.TheVariants.{SubjectKey, AuthorityKey, KeyUsage, BasicConstraints, DistributionPoints}
use Rattle.resource_certificates.specs.declared.extension.ExtensionKind.TheVariants.{AuthorityInfo, SubjectInfo, Policies, IpBlocks, AsIds}
use Rattle.resource_certificates.specs.Times.{UTC_TIME, utc_rules, widened}
use Rattle.resource_certificates.specs.Names.{SET, UTF8_STRING, PRINTABLE_STRING, NamePart, is_common, part_id_rules, printable_rules, utf8_rules, Rdn, Name, name_of, name_rules}
use Rattle.resource_certificates.specs.Keys.{zero_rules, size_rules, Key, rsa_key_algorithm, second_part, algorithm_rules}
use Rattle.resource_certificates.specs.Extensions.{BOOLEAN, EXPLICIT_3, Extension, Found, found_in, kind_in, is_extended_usage, must_be_critical}
use Rattle.resource_certificates.specs.Certificates.{version_3, serial_rules, Validity, validity_rules, Tbs, Holder, Issue, tbs_of, Certificate, certificate_of}

-- ---- times

unfoldable pub utc_time_at : Read CivilMoment
utc_time_at p = field_at (content_at UTC_TIME no_rules p) p.at utc_rules (λ content. moment_of (widened content))

unfoldable pub certificate_time_at : Read CivilMoment
certificate_time_at = either_at UTC_TIME utc_time_at (timed_at no_rules)

-- ---- names

unfoldable pub part_id_at : Read Bool
part_id_at p = field_at (oid_at p) p.at part_id_rules is_common

unfoldable pub characters_at : Read (List ℕ)
characters_at = either_at PRINTABLE_STRING (content_at PRINTABLE_STRING printable_rules) (content_at UTF8_STRING utf8_rules)

unfoldable pub name_part_at : Read NamePart
name_part_at p = opened_at (element_at SEQUENCE p) p.at (read_constructed no_rules (read_member part_id_at (λ _. last_at characters_at)) no_rules)

unfoldable pub rdn_at : Read Rdn
rdn_at p = opened_at (element_at SET p) p.at (read_constructed no_rules (read_member name_part_at (λ _. optional_at name_part_at)) no_rules)

unfoldable pub name_at : Read Name
name_at p = opened_at (element_at SEQUENCE p) p.at (told_content_at name_of (read_constructed no_rules (read_member rdn_at (λ _. optional_at rdn_at)) name_rules))

-- ---- keys

unfoldable pub modulus_at : Read (List ℕ)
modulus_at p = field_at (integer_at p) p.at size_rules (drop 1)

unfoldable pub exponent_at : Read (Unit {0})
exponent_at p = fixed_field (content_at INTEGER no_rules p) p.at 14 (1 ∷ 0 ∷ 1 ∷ [])

unfoldable pub rsa_public_key_at : Read (List ℕ)
rsa_public_key_at p = opened_at (element_at SEQUENCE p) p.at (read_constructed no_rules (told_at first_part (read_member modulus_at (λ _. last_at exponent_at))) no_rules)

-- a key, and the end
abbrev pub rsa_public_key_all : List ℕ → Result (List ℕ) Fault
rsa_public_key_all bytes = last_at rsa_public_key_at (place_of 0 bytes)

-- the modulus of the key that bytes are
unfoldable pub modulus_in : List ℕ → Option (List ℕ)
modulus_in bytes = read_value (rsa_public_key_all bytes)

abbrev pub key_with : List ℕ → Option (List ℕ) → Option Key
key_with bits (Some modulus) = Some (record { modulus = modulus; bits = bits })
key_with bits None = None

-- the key of a bit string's content
unfoldable pub key_of : List ℕ → Option Key
key_of [] = None
key_of (zero ∷ bits) = key_with bits (modulus_in bits)
key_of (suc n ∷ bits) = None

unfoldable pub public_key_at : Read Key
public_key_at p = opened_at (element_at BIT_STRING p) p.at (λ at inner. or_fault 14 at (key_of inner.rest))

unfoldable pub key_algorithm_at : Read (Unit {0})
key_algorithm_at p = fixed_field (content_at SEQUENCE no_rules p) p.at 13 rsa_key_algorithm

unfoldable pub key_info_at : Read Key
key_info_at p = opened_at (element_at SEQUENCE p) p.at (read_constructed no_rules (told_at second_part (read_member key_algorithm_at (λ _. last_at public_key_at))) no_rules)

unfoldable pub signature_algorithm_at : Read (List ℕ)
signature_algorithm_at = content_at SEQUENCE algorithm_rules

unfoldable pub signature_value_at : Read (List ℕ)
signature_value_at p = field_at (content_at BIT_STRING no_rules p) p.at (zero_rules 19) (drop 1)

-- ---- extensions

-- the value that was found of a kind
abbrev pub found_of : Found → ExtensionKind → Option (List ℕ)
found_of found SubjectKey = found.subject_key
found_of found AuthorityKey = found.authority_key
found_of found KeyUsage = found.key_usage
found_of found BasicConstraints = found.basic_constraints
found_of found DistributionPoints = found.distribution_points
found_of found AuthorityInfo = found.authority_info
found_of found SubjectInfo = found.subject_info
found_of found Policies = found.policies
found_of found IpBlocks = found.ip_blocks
found_of found AsIds = found.as_ids

-- one value more
abbrev pub put_known : Found → ExtensionKind → List ℕ → Found
put_known found SubjectKey value = record found { subject_key = Some value }
put_known found AuthorityKey value = record found { authority_key = Some value }
put_known found KeyUsage value = record found { key_usage = Some value }
put_known found BasicConstraints value = record found { basic_constraints = Some value }
put_known found DistributionPoints value = record found { distribution_points = Some value }
put_known found AuthorityInfo value = record found { authority_info = Some value }
put_known found SubjectInfo value = record found { subject_info = Some value }
put_known found Policies value = record found { policies = Some value }
put_known found IpBlocks value = record found { ip_blocks = Some value }
put_known found AsIds value = record found { as_ids = Some value }

-- an unknown one changes nothing
abbrev pub put_in : Found → Option ExtensionKind → List ℕ → Found
put_in found None value = found
put_in found (Some kind) value = put_known found kind value

abbrev pub is_found : Found → Option ExtensionKind → Bool
is_found found None = false
is_found found (Some kind) = is_some (found_of found kind)

abbrev pub found_rules : Found → List ℕ → List (ℕ × Bool)
found_rules found id = (16, is_extended_usage id) ∷ (17, is_found found (kind_in id)) ∷ []

unfoldable pub extension_id_at : Found → Read (Option ExtensionKind)
extension_id_at found p = field_at (oid_at p) p.at (found_rules found) kind_in

unfoldable pub critical_at : Read (Unit {0})
critical_at p = opened_at (found_at (needed 18 BOOLEAN) BOOLEAN p) p.at (read_primitive (fixed_rules 18 (255 ∷ [])) (λ content. tt))

unfoldable pub value_alone_at : Read (List ℕ)
value_alone_at p = opened_at (found_at (barred 18 BOOLEAN) OCTET_STRING p) p.at all_octets

abbrev pub value_members_at : Bool → ReadAll (List ℕ)
value_members_at true p = told_at second_part (read_member critical_at (λ _. last_at octets_at)) p
value_members_at false p = last_at value_alone_at p

unfoldable pub extension_from : Found → Read Extension
extension_from found p = opened_at (element_at SEQUENCE p) p.at (read_constructed no_rules (read_member (extension_id_at found) (λ kind. value_members_at (must_be_critical kind))) no_rules)

-- an extension after those before it
abbrev pub extension_at : List Extension → Read Extension
extension_at before = extension_from (found_in before)

unfoldable pub extension_list_at : Read Found
extension_list_at p = opened_at (element_at SEQUENCE p) p.at (told_content_at found_in (read_constructed no_rules (read_each extension_at) no_rules))

unfoldable pub extensions_at : Read Found
extensions_at p = opened_at (found_at (needed 15 EXPLICIT_3) EXPLICIT_3 p) p.at (read_constructed no_rules (last_at extension_list_at) no_rules)

-- ---- the certificate

unfoldable pub version_at : Read (Unit {0})
version_at p = opened_at (found_at (needed 6 EXPLICIT_0) EXPLICIT_0 p) p.at (read_primitive (fixed_rules 6 version_3) (λ content. tt))

unfoldable pub serial_at : Read (List ℕ)
serial_at = content_at INTEGER serial_rules

unfoldable pub validity_at : Read Validity
validity_at p = opened_at (element_at SEQUENCE p) p.at (read_constructed no_rules (read_member certificate_time_at (λ _. last_at certificate_time_at)) validity_rules)

unfoldable pub holder_members_at : ReadAll Holder
holder_members_at = read_member name_at (λ _. read_member key_info_at (λ _. last_at extensions_at))

unfoldable pub issue_members_at : ReadAll Issue
issue_members_at = read_member name_at (λ _. read_member validity_at (λ _. holder_members_at))

unfoldable pub tbs_members_at : ReadAll Tbs
tbs_members_at = told_at tbs_of (read_member version_at (λ _. read_member serial_at (λ _. read_member signature_algorithm_at (λ _. issue_members_at))))

unfoldable pub tbs_certificate_at : Read Tbs
tbs_certificate_at p = opened_at (element_at SEQUENCE p) p.at (read_constructed no_rules tbs_members_at no_rules)

unfoldable pub signed_tbs_at : Read (List ℕ × Tbs)
signed_tbs_at = standing_at tbs_certificate_at

-- signatureAlgorithm, as it was inside
unfoldable pub same_algorithm_at : List ℕ → Read (Unit {0})
same_algorithm_at algorithm p = fixed_field (content_at SEQUENCE no_rules p) p.at 8 algorithm

unfoldable pub certificate_members_at : ReadAll Certificate
certificate_members_at = told_at certificate_of (read_member signed_tbs_at (λ t. read_member (same_algorithm_at t.1.algorithm) (λ _. last_at signature_value_at)))

unfoldable pub certificate_at : Read Certificate
certificate_at p = opened_at (element_at SEQUENCE p) p.at (read_constructed no_rules certificate_members_at no_rules)

-- the certificate that the bytes spell, or the first fault
unfoldable pub file_all : List ℕ → Result Certificate Fault
file_all bytes = last_at certificate_at (place_of 0 bytes)
