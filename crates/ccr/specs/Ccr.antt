-- The canonical cache representation (draft-ietf-sidrops-rpki-ccr), and the first fault of bytes that are none.
use Rattle.std.specs.Prelude.{◌==◌, ◌&&◌, ℕ, nat_le, Bool, false, not, bytes_eq, List, [], ◌∷◌, Option}
use Rattle.std.specs.List.{flat_map}
use Rattle.sha2.specs.Sha256.{sha256}
use Rattle.der_lite.specs.Place.{Fault, place_of}
use Rattle.der_lite.specs.Der.{EXPLICIT_0, OBJECT_IDENTIFIER, OCTET_STRING, SEQUENCE, head_rules}
use Rattle.der_lite.specs.Grammar.{Element, Members, element, primitive, constructed, plain, last, member, optional, each}
use Rattle.der_lite.specs.Moments.{CivilMoment}
use Rattle.der_lite.specs.Times.{timed}
use Rattle.der_forms.specs.Combinators.{no_rules, barred, element_behind, told, told_element, standing, fixed, maybe, first_part, FixedSpells, fixed_rules}
use Rattle.prefixes.specs.Payload.{Payload}
use Rattle.payloads.specs.RoaValues.{RoaValue, payloads_of}
use Rattle.ccr.specs.PayloadSet.{set_behind}

-- id-ct-rpkiCanonicalCacheRepresentation, 1.2.840.113549.1.9.16.1.54
abbrev pub id_ccr : List ℕ
id_ccr = 42 ∷ 134 ∷ 72 ∷ 134 ∷ 247 ∷ 13 ∷ 1 ∷ 9 ∷ 16 ∷ 1 ∷ 54 ∷ []

-- id-sha256, 2.16.840.1.101.3.4.2.1
abbrev pub id_sha256 : List ℕ
id_sha256 = 96 ∷ 134 ∷ 72 ∷ 1 ∷ 101 ∷ 3 ∷ 4 ∷ 2 ∷ 1 ∷ []

-- the members of its AlgorithmIdentifier: the OBJECT IDENTIFIER, and no parameters
abbrev pub sha256_members : List ℕ
sha256_members = 6 ∷ 9 ∷ id_sha256

-- It begins with the tag of a SEQUENCE, and a length of two bytes or more (X.690 section 8.1.3.5).
abbrev pub begins_as_ccr : List ℕ → Bool
begins_as_ccr (tag ∷ length ∷ bytes) = tag == SEQUENCE && nat_le 128 length
begins_as_ccr bytes = false

-- ---- lists and their hashes

-- a list that is not looked into: its octets, with tag and length
unfoldable pub any_list : Element (List ℕ)
any_list = told_element first_part (standing (plain SEQUENCE no_rules))

-- hash OCTET STRING: the SHA-256 of these octets
abbrev pub hash_rules : List ℕ → List ℕ → List (ℕ × Bool)
hash_rules octets content = (24, not (bytes_eq content (sha256 octets))) ∷ []

unfoldable pub hash_of : List ℕ → Element (List ℕ)
hash_of octets = plain OCTET_STRING (hash_rules octets)

-- all payloads of sets
abbrev pub all_payloads : List RoaValue → List Payload
all_payloads sets = flat_map payloads_of sets

-- rps SEQUENCE OF ROAPayloadSet, and its octets
unfoldable pub payload_list : Element (List ℕ × List Payload)
payload_list = standing (element SEQUENCE (head_rules SEQUENCE) (constructed no_rules (told {A = List RoaValue} all_payloads (each set_behind)) no_rules))

-- ---- states: an explicitly tagged SEQUENCE of a list, perhaps more, and the hash of the list

abbrev pub state : {V : Type 0} → ℕ → Members V → Element V
state tag members = element tag (head_rules tag) (constructed no_rules (last (element SEQUENCE (head_rules SEQUENCE) (constructed no_rules members no_rules))) no_rules)

-- of two or three members, what is kept
abbrev pub second_part : {A B : Type 0} → A × B → B
second_part v = v.1

-- ASPAs [3], trust anchors [4] and router keys [5]: the hash
unfoldable pub plain_state : ℕ → Element (List ℕ)
plain_state tag = state tag (told {A = List ℕ × List ℕ} second_part (member any_list (λ octets. last (hash_of octets))))

-- manifests [1]: the hash; mostRecentUpdate comes before it
abbrev pub third_part : List ℕ × (CivilMoment × List ℕ) → List ℕ
third_part v = v.1.1

unfoldable pub manifest_state : Element (List ℕ)
manifest_state = state 161 (told {A = List ℕ × (CivilMoment × List ℕ)} third_part (member any_list (λ octets. member (timed no_rules) (λ _. last (hash_of octets)))))

-- the payloads and the hash of their list
abbrev pub Vrps : Type 0
Vrps = List Payload × List ℕ

abbrev pub vrps_of : (List ℕ × List Payload) × List ℕ → Vrps
vrps_of v = (v.0.1, v.1)

-- ROA payloads [2]
unfoldable pub vrp_state : Element Vrps
vrp_state = state 162 (told {A = (List ℕ × List Payload) × List ℕ} vrps_of (member payload_list (λ list. last (hash_of list.0))))

-- ---- the whole

-- hashAlg: that of SHA-256 without parameters. A version in its place is none that is known: version 0 is left out.
unfoldable pub hash_algorithm : Element (Unit {0})
hash_algorithm = element_behind (barred 22 EXPLICIT_0) SEQUENCE (primitive (FixedSpells sha256_members) (fixed_rules 23 sha256_members))

-- the states, each of which may be left out
abbrev pub LastStates : Type 0
LastStates = Option (List ℕ) × Option (List ℕ)

abbrev pub States : Type 0
States = Option (List ℕ) × (Option Vrps × (Option (List ℕ) × LastStates))

unfoldable pub last_states : Members LastStates
last_states = maybe 164 (plain_state 164) (λ _. optional (plain_state 165))

abbrev pub vrp_states : Members (Option Vrps × (Option (List ℕ) × LastStates))
vrp_states = maybe 162 vrp_state (λ _. maybe 163 (plain_state 163) (λ _. last_states))

unfoldable pub states : Members States
states = maybe 161 manifest_state (λ _. vrp_states)

-- when it was produced, and the states
abbrev pub Ccr : Type 0
Ccr = CivilMoment × States

unfoldable pub representation : Element Ccr
representation = element SEQUENCE (head_rules SEQUENCE) (constructed no_rules (told {A = Unit {0} × Ccr} second_part (member hash_algorithm (λ _. member (timed no_rules) (λ _. states)))) no_rules)

-- content [0] EXPLICIT
unfoldable pub content : Element Ccr
content = element EXPLICIT_0 (head_rules EXPLICIT_0) (constructed no_rules (last representation) no_rules)

-- ContentInfo
unfoldable pub content_info : Element Ccr
content_info = element SEQUENCE (head_rules SEQUENCE) (constructed no_rules (told {A = Unit {0} × Ccr} second_part (member (fixed 21 OBJECT_IDENTIFIER id_ccr) (λ _. last content))) no_rules)

-- The bytes are this representation, and nothing is behind it.
unfoldable pub CcrSpells : Ccr → List ℕ → Type 0
CcrSpells = (last content_info).Spells

-- What is at the offset fails with this number, and all that is judged before it holds.
unfoldable pub CcrFaultAt : List ℕ → Fault → Type 0
CcrFaultAt bytes fault = (last content_info).FaultAt (place_of 0 bytes) fault
