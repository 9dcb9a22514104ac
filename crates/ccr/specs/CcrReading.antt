-- Reading a canonical cache representation over what the reads of a cursor give.
use Rattle.std.specs.Prelude.{ℕ, List, Option, Result}
use Rattle.der_lite.specs.Place.{Fault, place_of}
use Rattle.der_lite.specs.Der.{EXPLICIT_0, OBJECT_IDENTIFIER, OCTET_STRING, SEQUENCE}
use Rattle.der_lite.specs.DerReading.{content_at, element_at}
use Rattle.der_lite.specs.Decoding.{Read, ReadAll, read_constructed, read_member, read_each, read_primitive}
use Rattle.der_lite.specs.Fields.{last_at, optional_at}
use Rattle.der_lite.specs.Times.{timed_at}
use Rattle.der_forms.specs.Combinators.{no_rules, barred, first_part, fixed_rules}
use Rattle.der_forms.specs.CombinatorReading.{found_at, opened_at, told_at, told_element_at, standing_at, fixed_field, maybe_at, octets_of}
use Rattle.prefixes.specs.Payload.{Payload}
use Rattle.ccr.specs.PayloadSetReading.{set_behind_at}
use Rattle.ccr.specs.Ccr.{id_ccr, sha256_members, hash_rules, all_payloads, second_part, third_part, Vrps, vrps_of, LastStates, States, Ccr}

unfoldable pub any_list_at : Read (List ℕ)
any_list_at = told_element_at first_part (standing_at (octets_of SEQUENCE))

unfoldable pub hash_at : List ℕ → Read (List ℕ)
hash_at octets = content_at OCTET_STRING (hash_rules octets)

unfoldable pub payloads_at : ReadAll (List Payload)
payloads_at = told_at all_payloads (read_each set_behind_at)

unfoldable pub payload_list_at : Read (List ℕ × List Payload)
payload_list_at = standing_at (λ p. opened_at (element_at SEQUENCE p) p.at (read_constructed no_rules payloads_at no_rules))

-- a state: what is in the SEQUENCE
abbrev pub inner_at : {V : Type 0} → ReadAll V → Read V
inner_at members p = opened_at (element_at SEQUENCE p) p.at (read_constructed no_rules members no_rules)

abbrev pub state_at : {V : Type 0} → ℕ → ReadAll V → Read V
state_at tag members p = opened_at (element_at tag p) p.at (read_constructed no_rules (last_at (inner_at members)) no_rules)

unfoldable pub plain_members_at : ReadAll (List ℕ)
plain_members_at = told_at second_part (read_member any_list_at (λ octets. last_at (hash_at octets)))

unfoldable pub plain_state_at : ℕ → Read (List ℕ)
plain_state_at tag = state_at tag plain_members_at

unfoldable pub manifest_members_at : ReadAll (List ℕ)
manifest_members_at = told_at third_part (read_member any_list_at (λ octets. read_member (timed_at no_rules) (λ _. last_at (hash_at octets))))

unfoldable pub manifest_state_at : Read (List ℕ)
manifest_state_at = state_at 161 manifest_members_at

unfoldable pub vrp_members_at : ReadAll Vrps
vrp_members_at = told_at vrps_of (read_member payload_list_at (λ list. last_at (hash_at list.0)))

unfoldable pub vrp_state_at : Read Vrps
vrp_state_at = state_at 162 vrp_members_at

unfoldable pub hash_algorithm_at : Read (Unit {0})
hash_algorithm_at p = opened_at (found_at (barred 22 EXPLICIT_0) SEQUENCE p) p.at (read_primitive (fixed_rules 23 sha256_members) (λ content. tt))

unfoldable pub last_states_at : ReadAll LastStates
last_states_at = maybe_at 164 (plain_state_at 164) (λ _. optional_at (plain_state_at 165))

unfoldable pub aspa_states_at : ReadAll (Option (List ℕ) × LastStates)
aspa_states_at = maybe_at 163 (plain_state_at 163) (λ _. last_states_at)

unfoldable pub vrp_states_at : ReadAll (Option Vrps × (Option (List ℕ) × LastStates))
vrp_states_at = maybe_at 162 vrp_state_at (λ _. aspa_states_at)

unfoldable pub states_at : ReadAll States
states_at = maybe_at 161 manifest_state_at (λ _. vrp_states_at)

unfoldable pub representation_members_at : ReadAll Ccr
representation_members_at = told_at second_part (read_member hash_algorithm_at (λ _. read_member (timed_at no_rules) (λ _. states_at)))

unfoldable pub representation_at : Read Ccr
representation_at = inner_at representation_members_at

unfoldable pub content_at_0 : Read Ccr
content_at_0 p = opened_at (element_at EXPLICIT_0 p) p.at (read_constructed no_rules (last_at representation_at) no_rules)

unfoldable pub info_members_at : ReadAll Ccr
info_members_at = told_at second_part (read_member (λ p. fixed_field (content_at OBJECT_IDENTIFIER no_rules p) p.at 21 id_ccr) (λ _. last_at content_at_0))

unfoldable pub content_info_at : Read Ccr
content_info_at = inner_at info_members_at

-- the representation that the bytes spell, or the first fault
unfoldable pub ccr_all : List ℕ → Result Ccr Fault
ccr_all bytes = last_at content_info_at (place_of 0 bytes)
