-- The state of a route (RFC 6811 section 2).
use Rattle.std.specs.Prelude.{◌≡◌, ◌↔◌, IsTrue, ℕ, Bool, false, not, ◌&&◌, ◌==◌, nat_le, List, [], Option, Some, None, codes, filter, if◌then◌else◌}
use Rattle.std.specs.List.{list_any}
use Rattle.std.specs.List.Sorted.{IsStrictlySortedBy}
use Rattle.prefixes.specs.Payload.{Payload, block_of, covers, vrp_cmp}
use Rattle.prefixes.specs.declared.route.Route.{Route}
use Rattle.vrps.specs.declared.origin.OriginState.{OriginState}
use Rattle.vrps.specs.declared.origin.OriginState.TheVariants.{Valid, Invalid, NotFound}
use Rattle.vrps.specs.VrpSet.{VrpSet, has, listing, set_of}

-- "Covered": the payload's prefix covers the route's.
abbrev pub covers_route : Route → Payload → Bool
covers_route r v = covers v.prefix r.prefix

-- The AS is the route's origin, and not 0. A route with the origin NONE has no such AS.
abbrev pub is_origin : Option ℕ → ℕ → Bool
is_origin None asn = false
is_origin (Some n) asn = n == asn && not (asn == 0)

-- "Matched": it covers the route, the route's length is at most the maximum, and the origin is the payload's AS.
abbrev pub matches : Route → Payload → Bool
matches r v = covers_route r v && (nat_le (block_of r.prefix).len v.max_len && is_origin r.origin v.asn)

-- the members that cover the route, in ascending order
abbrev pub covering : VrpSet → Route → List Payload
covering s r = filter (covers_route r) (listing s)

-- Valid if some member matches, Invalid if some covers and none matches, NotFound if none covers.
abbrev pub state_among : List Payload → Route → OriginState
state_among vs r =
    if list_any (matches r) vs then Valid
    else if list_any (covers_route r) vs then Invalid
    else NotFound

abbrev pub state : VrpSet → Route → OriginState
state s r = state_among (listing s) r

-- the word for a state
abbrev pub state_text : OriginState → List ℕ
state_text Valid = codes "valid"
state_text Invalid = codes "invalid"
state_text NotFound = codes "not-found"

-- some member covers the route, or matches it
abbrev pub IsCovered : VrpSet → Route → Type 0
IsCovered s r = (v : Payload) × IsTrue (has s v) × IsTrue (covers_route r v)

abbrev pub IsMatched : VrpSet → Route → Type 0
IsMatched s r = (v : Payload) × IsTrue (has s v) × IsTrue (matches r v)

-- The same states, said of members
abbrev pub HasState : VrpSet → Route → OriginState → Type 0
HasState s r Valid = IsMatched s r
HasState s r Invalid = IsCovered s r × ¬ (IsMatched s r)
HasState s r NotFound = ¬ (IsCovered s r)

-- The state of a route is that which members give it.
abbrev pub StateByMembers : Type 0
StateByMembers = (s : VrpSet) (r : Route) → HasState s r (state s r)

-- A route has one state.
abbrev pub OneState : Type 0
OneState = (s : VrpSet) (r : Route) (one other : OriginState) → HasState s r one → HasState s r other → one ≡ other

-- The members that cover are listed, in ascending order, and nothing else.
pub record ListsCovering (s : VrpSet) (r : Route) : Type 0 where
  pub ascends : IsStrictlySortedBy vrp_cmp (covering s r)
  pub members : (v : Payload) → has (set_of (covering s r)) v ≡ (has s v && covers_route r v)

abbrev pub CoveringMembers : Type 0
CoveringMembers = (s : VrpSet) (r : Route) → ListsCovering s r

-- The members that cover decide the state.
pub record CoveringDecides (s : VrpSet) (r : Route) : Type 0 where
  pub valid : (state s r ≡ Valid) ↔ IsTrue (list_any (matches r) (covering s r))
  pub not_found : (state s r ≡ NotFound) ↔ (covering s r ≡ [])

abbrev pub StateByCovering : Type 0
StateByCovering = (s : VrpSet) (r : Route) → CoveringDecides s r
