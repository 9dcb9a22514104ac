-- Reading a CRL over what the reads of a cursor give.
use Rattle.std.specs.Prelude.{ℕ, Bool, List, [], ◌∷◌, Result}
use Rattle.der_lite.specs.Place.{Fault, place_of}
use Rattle.der_lite.specs.Der.{INTEGER, SEQUENCE, EXPLICIT_0}
use Rattle.der_lite.specs.DerReading.{content_at, element_at, oid_at}
use Rattle.der_lite.specs.Decoding.{Read, ReadAll, read_constructed, read_member, read_each}
use Rattle.der_lite.specs.Fields.{field_at, last_at, optional_at}
use Rattle.der_forms.specs.Combinators.{no_rules, not_empty, needed, first_part}
use Rattle.der_forms.specs.CombinatorReading.{found_at, opened_at, told_at, told_content_at, standing_at, fixed_field, maybe_at}
use Rattle.resource_certificates.specs.Crls.{is_number_id, crl_id_rules, CrlExtension, crl_found_of, crl_pair_rules, CrlFound, CrlRest, crl_rest_of, CrlUpdates, TbsCrl, tbs_crl_of, Crl, crl_of}
use Rattle.resource_certificates.specs.Reading.{certificate_time_at, name_at, signature_algorithm_at, signature_value_at, same_algorithm_at, serial_at, value_alone_at}

unfoldable pub crl_version_at : Read (Unit {0})
crl_version_at p = fixed_field (content_at INTEGER no_rules p) p.at 30 (1 ∷ [])

unfoldable pub revoked_at : Read (List ℕ)
revoked_at p = opened_at (element_at SEQUENCE p) p.at (read_constructed no_rules (told_at first_part (read_member serial_at (λ _. last_at certificate_time_at))) no_rules)

unfoldable pub revoked_list_at : Read (List (List ℕ))
revoked_list_at p = opened_at (element_at SEQUENCE p) p.at (read_constructed no_rules (read_each (λ _. revoked_at)) no_rules)

unfoldable pub crl_id_at : Read Bool
crl_id_at p = field_at (oid_at p) p.at crl_id_rules is_number_id

unfoldable pub crl_extension_at : Read CrlExtension
crl_extension_at p = opened_at (element_at SEQUENCE p) p.at (read_constructed no_rules (read_member crl_id_at (λ _. last_at value_alone_at)) no_rules)

unfoldable pub crl_extension_list_at : Read CrlFound
crl_extension_list_at p =
    opened_at (element_at SEQUENCE p) p.at
    (told_content_at crl_found_of (read_constructed (not_empty 32) (read_member crl_extension_at (λ _. optional_at crl_extension_at)) crl_pair_rules))

unfoldable pub crl_extensions_at : Read CrlFound
crl_extensions_at p = opened_at (found_at (needed 31 EXPLICIT_0) EXPLICIT_0 p) p.at (read_constructed no_rules (last_at crl_extension_list_at) no_rules)

unfoldable pub crl_rest_at : ReadAll CrlRest
crl_rest_at = told_at crl_rest_of (maybe_at SEQUENCE revoked_list_at (λ _. last_at crl_extensions_at))

unfoldable pub crl_updates_at : ReadAll CrlUpdates
crl_updates_at = read_member certificate_time_at (λ _. read_member certificate_time_at (λ _. crl_rest_at))

unfoldable pub tbs_crl_members_at : ReadAll TbsCrl
tbs_crl_members_at = told_at tbs_crl_of (read_member crl_version_at (λ _. read_member signature_algorithm_at (λ _. read_member name_at (λ _. crl_updates_at))))

unfoldable pub tbs_crl_at : Read TbsCrl
tbs_crl_at p = opened_at (element_at SEQUENCE p) p.at (read_constructed no_rules tbs_crl_members_at no_rules)

unfoldable pub signed_crl_at : Read (List ℕ × TbsCrl)
signed_crl_at = standing_at tbs_crl_at

unfoldable pub crl_members_at : ReadAll Crl
crl_members_at = told_at crl_of (read_member signed_crl_at (λ t. read_member (same_algorithm_at t.1.algorithm) (λ _. last_at signature_value_at)))

unfoldable pub crl_at : Read Crl
crl_at p = opened_at (element_at SEQUENCE p) p.at (read_constructed no_rules crl_members_at no_rules)

-- the CRL that the bytes spell, or the first fault
unfoldable pub crl_all : List ℕ → Result Crl Fault
crl_all bytes = last_at crl_at (place_of 0 bytes)
