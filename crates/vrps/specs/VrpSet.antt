-- Sets of validated ROA payloads: finite sets in the order of payloads.
use Rattle.std.specs.Prelude.{◌≡◌, ℕ, ◌≤◌, Bool, not, List, [], ◌∷◌, length}
use Rattle.std.specs.List.{All}
use Rattle.std.specs.List.Sorted.{IsStrictlySortedBy}
use Rattle.std.specs.FinMap as map
use Rattle.std.specs.FinMap.{FinMap}
use Rattle.prefixes.specs.Payload.{Payload, IsPayload, vrp_cmp}

abbrev pub VrpSet : Type 0
VrpSet = FinMap vrp_cmp (Unit {0})

abbrev pub empty : VrpSet
empty = map.empty

abbrev pub has : VrpSet → Payload → Bool
has s v = map.contains_key s v

-- each member once, in ascending order
abbrev pub listing : VrpSet → List Payload
listing s = map.keys s

-- how many members
abbrev pub size : VrpSet → ℕ
size s = map.len s

abbrev pub with_member : VrpSet → Payload → VrpSet
with_member s v = map.insert s v tt

-- the members of s, and those of a list
abbrev pub with_all : VrpSet → List Payload → VrpSet
with_all s [] = s
with_all s (v ∷ vs) = with_member (with_all s vs) v

-- The set of a list. A record that is listed twice counts once.
abbrev pub set_of : List Payload → VrpSet
set_of vs = with_all empty vs

-- the members of s, and those of t
abbrev pub union : VrpSet → VrpSet → VrpSet
union s t = with_all s (listing t)

-- the members of s that are none of t
abbrev pub without : VrpSet → VrpSet → VrpSet
without s t = map.retain_keys s (λ v. not (has t v))

-- A set that a cache can publish: its members are payloads, and they are not over the limit.
pub record IsVrpSet (s : VrpSet) : Type 0 where
  pub payloads : All IsPayload (listing s)
  pub within_limit : size s ≤ 16777215

-- The members of such a set, listed as it lists them
pub record IsListing (vs : List Payload) : Type 0 where
  pub ascends : IsStrictlySortedBy vrp_cmp vs
  pub payloads : All IsPayload vs
  pub within_limit : length vs ≤ 16777215

-- A set that is listed and read again is the same set.
abbrev pub ListedAgain : Type 0
ListedAgain = (s : VrpSet) → set_of (listing s) ≡ s

-- Two sets with the same members are one.
abbrev pub SameMembers : Type 0
SameMembers = (s t : VrpSet) → ((v : Payload) → has s v ≡ has t v) → s ≡ t
