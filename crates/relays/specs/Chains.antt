-- Chains of relays: each relay is a router of one world and the cache of the next (RFC 8210 section 10).
use Rattle.std.specs.Prelude.{◌≡◌, ◌⊎◌, ℕ, List, [], ◌∷◌, length, Option, Some, None, IsSome, ⊤}
use Rattle.std.specs.List.{AllByRecursion}
use Rattle.vrps.specs.Instance.{Instance, NumberedSet, versions}
use Rattle.vrps.specs.Stores.{newest}
use Rattle.vrps.specs.VrpSet.{VrpSet, empty}
use Rattle.rtr_ends.specs.Transcript.{Committed, kept}
use Rattle.rtr_world.specs.CaughtUp.{HoldsNow}
use Rattle.rtr_world.specs.Claims.{Always, IsNamed}
use Rattle.rtr_world.specs.History.{Entry, LeadsFrom, Outcome, Reached, after, side_at}
use Rattle.rtr_world.specs.VersionPlaces.{IsNotAfter, VersionPlace, version_place_of}
use Rattle.rtr_world.specs.World.{Event, Publish, Side, World, instances}

-- The set is one of these.
abbrev pub IsOneOf : VrpSet → List VrpSet → Type 0
IsOneOf set [] = ⊥
IsOneOf set (one ∷ sets) = (set ≡ one) ⊎ IsOneOf set sets

-- It was published in one of these instances of a cache.
abbrev pub WasPublished : List Instance → VrpSet → Type 0
WasPublished [] set = ⊥
WasPublished (i ∷ all) set = IsOneOf set i.sets ⊎ WasPublished all set

-- The table is empty if no session is held. Otherwise it is such a set.
abbrev pub HoldsSuch : (VrpSet → Type 0) → Option Committed → VrpSet → Type 0
HoldsSuch Such None table = table ≡ empty
HoldsSuch Such (Some held) table = Such table

-- What a router of a world holds was published by the cache of that world.
abbrev pub EachIsPublished : Type 0
EachIsPublished = Always (λ w s. HoldsSuch (WasPublished (instances w)) (kept s.items).version s.router.table)

-- At some moment of the world's history the router of this number held a version, and this was its table.
pub record WasHeld (w : World) (r : ℕ) (set : VrpSet) : Type 0 where
  pub moment : World
  pub reached : Reached moment
  pub since : List Entry
  pub leads : LeadsFrom moment since w
  pub side : Side
  pub found : side_at r moment.sides ≡ Some side
  pub version : IsSome (kept side.items).version
  pub table : side.router.table ≡ set

-- A relay: the number of its router in the world before it. What it makes of a set that it fetched, such as local exceptions (RFC 8416). And
-- the world of which it is the cache.
pub record Relay : Type 0 where
  pub router : ℕ
  pub make : VrpSet → VrpSet
  pub world : World
  pub reached : Reached world

-- What a relay promises: each set that it published is made of one that its router held at some moment.
abbrev pub Relays : World → Relay → Type 0
Relays before relay = (set : VrpSet) → WasPublished (instances relay.world) set → (held : VrpSet) × WasHeld before relay.router held × (set ≡ relay.make held)

-- What is published in the relay's world, if anything, is made of a set that its router held.
abbrev pub IsRelayed : World → Relay → Event → Type 0
IsRelayed before relay (Publish set) = (held : VrpSet) × WasHeld before relay.router held × (set ≡ relay.make held)
IsRelayed before relay event = ⊤

-- A relay that publishes no other set keeps its promise, whatever happens in the world before it.
abbrev pub EachKeepsRelaying : Type 0
EachKeepsRelaying =
    (before later : World) (since : List Entry) (relay : Relay) (event : Event) (outcome : Outcome) (reached : Reached (after event outcome relay.world)) → Relays before relay → LeadsFrom before since later →
    IsRelayed later relay event → Relays later (record relay { world = after event outcome relay.world; reached = reached })

-- A chain of relays after a world, the next one first
abbrev pub IsChain : World → List Relay → Type 0
IsChain before [] = ⊤
IsChain before (relay ∷ relays) = Relays before relay × IsChain relay.world relays

abbrev pub last_world : World → List Relay → World
last_world w [] = w
last_world w (relay ∷ relays) = last_world relay.world relays

-- what the relays make of a set, one after the other
abbrev pub made_by : List Relay → VrpSet → VrpSet
made_by [] set = set
made_by (relay ∷ relays) set = made_by relays (relay.make set)

-- The table is what the relays make of such a set.
abbrev pub IsMadeOf : (VrpSet → Type 0) → List Relay → VrpSet → Type 0
IsMadeOf Such relays table = (set : VrpSet) × Such set × (table ≡ made_by relays set)

-- The theorem of chains. A router of the last world holds what its own cache published under the version, the session and the serial of what
-- was committed last. And that is what the relays made of a set that the first cache published.
pub record HoldsByChain (first : World) (relays : List Relay) (s : Side) : Type 0 where
  pub named_so : IsNamed (instances (last_world first relays)) (kept s.items).version s.router.table
  pub from_first : HoldsSuch (IsMadeOf (WasPublished (instances first)) relays) (kept s.items).version s.router.table

abbrev pub EachFromFirst : Type 0
EachFromFirst =
    (first : World) (relays : List Relay) → Reached first → IsChain first relays → AllByRecursion (HoldsByChain first relays) (last_world first relays).sides

-- the set of the newest version, if there is one
abbrev pub set_now : Option NumberedSet → Option VrpSet
set_now None = None
set_now (Some version) = Some version.set

-- It is the set of the newest version of the cache.
abbrev pub IsNewest : World → VrpSet → Type 0
IsNewest w set = set_now (newest (versions w.present)) ≡ Some set

-- A relay's router has caught up with the cache before it, and what it holds is published.
pub record HasRelayed (w : World) (relay : Relay) : Type 0 where
  pub caught_up : HoldsNow relay.router w
  pub done : (s : Side) → side_at relay.router w.sides ≡ Some s → IsNewest relay.world (relay.make s.router.table)

-- Each relay of a chain has.
abbrev pub HaveRelayed : World → List Relay → Type 0
HaveRelayed w [] = ⊤
HaveRelayed w (relay ∷ relays) = HasRelayed w relay × HaveRelayed relay.world relays

-- The cache's newest version is this set, and so is the table of this router, if it has caught up.
pub record IsCurrent (set : VrpSet) (r : ℕ) (w : World) : Type 0 where
  pub newest_is : IsNewest w set
  pub table_is : HoldsNow r w → (s : Side) → side_at r w.sides ≡ Some s → s.router.table ≡ set

-- Catching up over a chain ends at the first cache's newest set, as the relays make it.
abbrev pub EachIsCurrent : Type 0
EachIsCurrent =
    (w : World) (relays : List Relay) (set : VrpSet) (r : ℕ) → IsNewest w set → HaveRelayed w relays → IsCurrent (made_by relays set) r (last_world w relays)

-- the place of the version that was held, among all that the cache had published by then
abbrev pub held_place : {w : World} {r : ℕ} {set : VrpSet} → WasHeld w r set → Option VersionPlace
held_place h = version_place_of (instances h.moment) (kept h.side.items).version

-- No way back at a relay: what its router held later was not published before what it held earlier.
abbrev pub RelaysInOrder : Type 0
RelaysInOrder = (w : World) (r : ℕ) (set older : VrpSet) (now : WasHeld w r set) (before : WasHeld now.moment r older) → IsNotAfter (held_place before) (held_place now)

-- This set has this many before it among those of one instance, the newest first.
abbrev pub IsNth : ℕ → VrpSet → List VrpSet → Type 0
IsNth n set [] = ⊥
IsNth n set (one ∷ older) = ((n ≡ length older) × (set ≡ one)) ⊎ IsNth n set older

-- This set is at this place among all that a cache published.
abbrev pub IsAt : VersionPlace → VrpSet → List Instance → Type 0
IsAt place set [] = ⊥
IsAt place set (i ∷ older) = ((place.instance ≡ length older) × IsNth place.position set i.sets) ⊎ IsAt place set older

-- The cache published the first of these sets at no later place than the second.
pub record PublishedInTurn (w : World) (old new : VrpSet) : Type 0 where
  pub earlier : VersionPlace
  pub later : VersionPlace
  pub old_at : IsAt earlier old (instances w)
  pub new_at : IsAt later new (instances w)
  pub in_turn : IsNotAfter (Some earlier) (Some later)

-- The router held the first of these sets in a version that was not published after the version in which it held the second.
pub record HeldInTurn (w : World) (r : ℕ) (old new : VrpSet) : Type 0 where
  pub first : WasHeld w r old
  pub second : WasHeld w r new
  pub in_turn : IsNotAfter (held_place first) (held_place second)

-- A relay that publishes in turn: two sets that it published in turn are made of two that its router held in turn.
abbrev pub RelaysInTurn : World → Relay → Type 0
RelaysInTurn before relay =
    (old new : VrpSet) → PublishedInTurn relay.world old new →
    (a : VrpSet) × (b : VrpSet) × HeldInTurn before relay.router a b × (old ≡ relay.make a) × (new ≡ relay.make b)

abbrev pub IsChainInTurn : World → List Relay → Type 0
IsChainInTurn before [] = ⊤
IsChainInTurn before (relay ∷ relays) = RelaysInTurn before relay × IsChainInTurn relay.world relays

-- No way back along a chain of such relays. What a router of the last world held, and what it held before, are made of sets that the first
-- cache published in turn.
abbrev pub ChainInOrder : Type 0
ChainInOrder =
    (first : World) (relays : List Relay) (r : ℕ) (old new : VrpSet) → IsChainInTurn first relays →
    (now : WasHeld (last_world first relays) r new) → WasHeld now.moment r old →
    (a : VrpSet) × (b : VrpSet) × PublishedInTurn first a b × (old ≡ made_by relays a) × (new ≡ made_by relays b)
