-- Reading a canonical cache representation is exact.
use Rattle.std.proofs.Common.{◌≡◌, ℕ, List, Option, None, Ok, Err, refl}
use Rattle.std.specs.Prelude.{Result}
use Rattle.std.specs.List.{last_or}
use Rattle.der_lite.specs.Place.{Fault, place_of}
use Rattle.der_lite.specs.Der.{IsBytes, head_rules}
use Rattle.der_lite.specs.Grammar.{Members, element, primitive, constructed, plain, last, member, optional, each}
use Rattle.der_lite.specs.Moments.{CivilMoment}
use Rattle.der_lite.specs.Times.{timed, timed_at}
use Rattle.der_lite.specs.DerReading.{content_at, element_at}
use Rattle.der_lite.specs.Decoding.{Read, ReadAll, read_constructed, read_member, read_each, read_primitive}
use Rattle.der_lite.specs.Fields.{last_at, optional_at}
use Rattle.der_lite.proofs.Exact.{ExactElement, ExactMembers, exact_constructed, exact_member, exact_each}
use Rattle.der_lite.proofs.FieldLaws.{exact_last_at, exact_optional_at}
use Rattle.der_lite.proofs.ContentReads.{exact_plain}
use Rattle.der_lite.proofs.TimeLaws.{exact_timed}
use Rattle.der_forms.specs.Combinators.{no_rules, barred, told, first_part, standing, fixed, fixed_rules, maybe, FixedSpells}
use Rattle.der_forms.specs.CombinatorReading.{told_at, maybe_at, standing_at, octets_of, opened_at, fixed_field}
use Rattle.der_forms.proofs.ExactCombinators.{exact_behind, exact_opened, exact_fixed, exact_fixed_content, exact_told, exact_told_element, exact_standing, exact_maybe, barred_follow}
use Rattle.prefixes.specs.Payload.{Payload}
use Rattle.payloads.specs.RoaValues.{RoaValue}
use Rattle.ccr.specs.PayloadSet.{as_of, set_behind}
use Rattle.ccr.specs.PayloadSetReading.{set_behind_at}
use Rattle.ccr.proofs.ExactSets.{exact_payload_set}
use Rattle.ccr.specs.Ccr as g
use Rattle.ccr.specs.CcrReading as r
use Rattle.ccr.specs.declared.fault.ReadCcrError.{ReadCcrError}
use Rattle.ccr.specs.declared.fault.ReadCcrError.TheVariants.{At, Memory}
use Rattle.ccr.specs.Faults.{GivesAllOrMemory, ReadsCcr, fault_of}

exact_any_list : ExactElement g.any_list r.any_list_at
unfolding g.any_list r.any_list_at
exact_any_list =
    exact_told_element first_part (standing (plain 48 no_rules)) (standing_at (octets_of 48)) (exact_standing (plain 48 no_rules) (octets_of 48) (exact_plain 48 no_rules))

exact_hash : (octets : List ℕ) → ExactElement (g.hash_of octets) (r.hash_at octets)
unfolding g.hash_of r.hash_at
exact_hash octets = exact_plain 4 (g.hash_rules octets)

-- ---- payload sets

exact_payload_list : ExactElement g.payload_list r.payload_list_at
unfolding g.payload_list r.payload_list_at r.payloads_at
exact_payload_list =
    let sets = each set_behind in
    let read = read_each set_behind_at in
    let members = told {A = List RoaValue} g.all_payloads sets in
    let content = constructed no_rules members no_rules in
    let read_content = read_constructed no_rules (told_at g.all_payloads read) no_rules in
    exact_standing (element 48 (head_rules 48) content) (λ p. opened_at (element_at 48 p) p.at read_content)
    (exact_opened 48 content read_content
    (exact_constructed no_rules members (told_at g.all_payloads read) no_rules
    (exact_told g.all_payloads sets read (exact_each set_behind set_behind_at (λ before. exact_payload_set (as_of (last_or None before)))))))

-- ---- states

exact_inner : {V : Type 0} (members : Members V) (read : ReadAll V) → ExactMembers members read → ExactElement (element 48 (head_rules 48) (constructed no_rules members no_rules)) (r.inner_at read)
exact_inner members read x = exact_opened 48 (constructed no_rules members no_rules) (read_constructed no_rules read no_rules) (exact_constructed no_rules members read no_rules x)

exact_state : {V : Type 0} (tag : ℕ) (members : Members V) (read : ReadAll V) → ExactMembers members read → ExactElement (g.state tag members) (r.state_at tag read)
exact_state tag members read x =
    let inner = element 48 (head_rules 48) (constructed no_rules members no_rules) in
    exact_opened tag (constructed no_rules (last inner) no_rules) (read_constructed no_rules (last_at (r.inner_at read)) no_rules)
    (exact_constructed no_rules (last inner) (last_at (r.inner_at read)) no_rules (exact_last_at inner (r.inner_at read) (exact_inner members read x)))

exact_plain_state : (tag : ℕ) → ExactElement (g.plain_state tag) (r.plain_state_at tag)
unfolding g.plain_state r.plain_state_at r.plain_members_at
exact_plain_state tag =
    let others : List ℕ → Members (List ℕ) = λ octets. last (g.hash_of octets) in
    let rest : List ℕ → ReadAll (List ℕ) = λ octets. last_at (r.hash_at octets) in
    exact_state tag (told {A = List ℕ × List ℕ} g.second_part (member g.any_list others)) (told_at g.second_part (read_member r.any_list_at rest))
    (exact_told {A = List ℕ × List ℕ} g.second_part (member g.any_list others) (read_member r.any_list_at rest)
    (exact_member g.any_list r.any_list_at exact_any_list others rest (λ octets. exact_last_at (g.hash_of octets) (r.hash_at octets) (exact_hash octets))))

exact_manifest_state : ExactElement g.manifest_state r.manifest_state_at
unfolding g.manifest_state r.manifest_state_at r.manifest_members_at
exact_manifest_state =
    let behind : List ℕ → CivilMoment → Members (List ℕ) = λ octets _. last (g.hash_of octets) in
    let behind_at : List ℕ → CivilMoment → ReadAll (List ℕ) = λ octets _. last_at (r.hash_at octets) in
    let others : List ℕ → Members (CivilMoment × List ℕ) = λ octets. member (timed no_rules) (behind octets) in
    let rest : List ℕ → ReadAll (CivilMoment × List ℕ) = λ octets. read_member (timed_at no_rules) (behind_at octets) in
    exact_state 161 (told {A = List ℕ × (CivilMoment × List ℕ)} g.third_part (member g.any_list others)) (told_at g.third_part (read_member r.any_list_at rest))
    (exact_told {A = List ℕ × (CivilMoment × List ℕ)} g.third_part (member g.any_list others) (read_member r.any_list_at rest)
    (exact_member g.any_list r.any_list_at exact_any_list others rest
    (λ octets. exact_member (timed no_rules) (timed_at no_rules) (exact_timed no_rules) (behind octets) (behind_at octets) (λ _. exact_last_at (g.hash_of octets) (r.hash_at octets) (exact_hash octets)))))

exact_vrp_state : ExactElement g.vrp_state r.vrp_state_at
unfolding g.vrp_state r.vrp_state_at r.vrp_members_at
exact_vrp_state =
    let others : List ℕ × List Payload → Members (List ℕ) = λ list. last (g.hash_of list.0) in
    let rest : List ℕ × List Payload → ReadAll (List ℕ) = λ list. last_at (r.hash_at list.0) in
    exact_state 162 (told {A = (List ℕ × List Payload) × List ℕ} g.vrps_of (member g.payload_list others)) (told_at g.vrps_of (read_member r.payload_list_at rest))
    (exact_told {A = (List ℕ × List Payload) × List ℕ} g.vrps_of (member g.payload_list others) (read_member r.payload_list_at rest)
    (exact_member g.payload_list r.payload_list_at exact_payload_list others rest (λ list. exact_last_at (g.hash_of list.0) (r.hash_at list.0) (exact_hash list.0))))

-- ---- the whole

exact_hash_algorithm : ExactElement g.hash_algorithm r.hash_algorithm_at
unfolding g.hash_algorithm r.hash_algorithm_at
exact_hash_algorithm =
    let wanted = g.sha256_members in
    exact_behind (barred 22 160) 48 (primitive (FixedSpells wanted) (fixed_rules 23 wanted)) (read_primitive (fixed_rules 23 wanted) (λ content. tt)) (barred_follow 22 160 48 refl) (exact_fixed_content 23 wanted)

exact_last_states : ExactMembers g.last_states r.last_states_at
unfolding g.last_states r.last_states_at
exact_last_states =
    exact_maybe 164 (g.plain_state 164) (r.plain_state_at 164) (exact_plain_state 164) (λ _. optional (g.plain_state 165)) (λ _. optional_at (r.plain_state_at 165))
    (λ _. exact_optional_at (g.plain_state 165) (r.plain_state_at 165) (exact_plain_state 165))

exact_states : ExactMembers g.states r.states_at
unfolding g.states r.states_at r.vrp_states_at r.aspa_states_at
exact_states =
    let third : Members (Option (List ℕ) × g.LastStates) = maybe 163 (g.plain_state 163) (λ _. g.last_states) in
    let third_at : ReadAll (Option (List ℕ) × g.LastStates) = maybe_at 163 (r.plain_state_at 163) (λ _. r.last_states_at) in
    let second : Members (Option g.Vrps × (Option (List ℕ) × g.LastStates)) = maybe 162 g.vrp_state (λ _. third) in
    let second_at : ReadAll (Option g.Vrps × (Option (List ℕ) × g.LastStates)) = maybe_at 162 r.vrp_state_at (λ _. third_at) in
    exact_maybe 161 g.manifest_state r.manifest_state_at exact_manifest_state (λ _. second) (λ _. second_at)
    (λ _. exact_maybe 162 g.vrp_state r.vrp_state_at exact_vrp_state (λ _. third) (λ _. third_at)
    (λ _. exact_maybe 163 (g.plain_state 163) (r.plain_state_at 163) (exact_plain_state 163) (λ _. g.last_states) (λ _. r.last_states_at) (λ _. exact_last_states)))

exact_representation : ExactElement g.representation r.representation_at
unfolding g.representation r.representation_at r.representation_members_at
exact_representation =
    let behind : Members g.Ccr = member (timed no_rules) (λ _. g.states) in
    let behind_at : ReadAll g.Ccr = read_member (timed_at no_rules) (λ _. r.states_at) in
    exact_inner (told {A = Unit {0} × g.Ccr} g.second_part (member g.hash_algorithm (λ _. behind))) (told_at g.second_part (read_member r.hash_algorithm_at (λ _. behind_at)))
    (exact_told {A = Unit {0} × g.Ccr} g.second_part (member g.hash_algorithm (λ _. behind)) (read_member r.hash_algorithm_at (λ _. behind_at))
    (exact_member g.hash_algorithm r.hash_algorithm_at exact_hash_algorithm (λ _. behind) (λ _. behind_at)
    (λ _. exact_member (timed no_rules) (timed_at no_rules) (exact_timed no_rules) (λ _. g.states) (λ _. r.states_at) (λ _. exact_states))))

exact_content : ExactElement g.content r.content_at_0
unfolding g.content r.content_at_0
exact_content =
    exact_opened 160 (constructed no_rules (last g.representation) no_rules) (read_constructed no_rules (last_at r.representation_at) no_rules)
    (exact_constructed no_rules (last g.representation) (last_at r.representation_at) no_rules (exact_last_at g.representation r.representation_at exact_representation))

exact_content_info : ExactElement g.content_info r.content_info_at
unfolding g.content_info r.content_info_at r.info_members_at
exact_content_info =
    let oid_at : Read (Unit {0}) = λ p. fixed_field (content_at 6 no_rules p) p.at 21 g.id_ccr in
    exact_inner (told {A = Unit {0} × g.Ccr} g.second_part (member (fixed 21 6 g.id_ccr) (λ _. last g.content))) (told_at g.second_part (read_member oid_at (λ _. last_at r.content_at_0)))
    (exact_told {A = Unit {0} × g.Ccr} g.second_part (member (fixed 21 6 g.id_ccr) (λ _. last g.content)) (read_member oid_at (λ _. last_at r.content_at_0))
    (exact_member (fixed 21 6 g.id_ccr) oid_at (exact_fixed 21 6 g.id_ccr) (λ _. last g.content) (λ _. last_at r.content_at_0) (λ _. exact_last_at g.content r.content_at_0 exact_content)))

pub exact_ccr : ExactMembers (last g.content_info) (last_at r.content_info_at)
exact_ccr = exact_last_at g.content_info r.content_info_at exact_content_info

pub ccr_read : (bytes : List ℕ) (v : g.Ccr) → IsBytes bytes → r.ccr_all bytes ≡ Ok v → g.CcrSpells v bytes
unfolding r.ccr_all g.CcrSpells
ccr_read bytes v are e = exact_ccr.takes (place_of 0 bytes) v are e

pub ccr_fault : (bytes : List ℕ) (f : Fault) → IsBytes bytes → r.ccr_all bytes ≡ Err f → g.CcrFaultAt bytes f
unfolding r.ccr_all g.CcrFaultAt
ccr_fault bytes f are e = exact_ccr.faults (place_of 0 bytes) f are e

pub reads_file : {X : Type 0} (view : X → g.Ccr) (result : Result X ReadCcrError) (bytes : List ℕ) → IsBytes bytes → GivesAllOrMemory view result (r.ccr_all bytes) → ReadsCcr view result bytes
reads_file view (Ok x) bytes are e = ccr_read bytes (view x) are e
reads_file view (Err (At f)) bytes are e = ccr_fault bytes (fault_of f) are e
reads_file view (Err Memory) bytes are e = tt
