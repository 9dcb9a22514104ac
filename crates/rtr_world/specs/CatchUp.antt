-- Catching up: what a router holds once a connection is made and bytes are moved (RFC 8210 sections 5 and 8).
use Rattle.std.specs.Prelude.{◌≡◌, ◌⊎◌, ℕ, ◌≤◌, ◌^◌, List, [], ◌∷◌, ◌++◌, Option, Some, None, IsSome, ⊤}
use Rattle.std.specs.List.{AllByRecursion}
use Rattle.vrps.specs.Instance.{Instance, NumberedSet, versions}
use Rattle.vrps.specs.VrpSet.{VrpSet, empty}
use Rattle.rtr_pdu.specs.declared.version.Version.{Version}
use Rattle.rtr_ends.specs.Answer.{session_in}
use Rattle.rtr_ends.specs.LinkRules.{Router}
use Rattle.rtr_ends.specs.RouterLink.{Link, Closed, Idle, Asked, Ended}
use Rattle.rtr_ends.specs.Transcript.{AskReset, Committed, of_version}
use Rattle.rtr_world.specs.Claims.{Always}
use Rattle.rtr_world.specs.World.{Side, World, instances, SideEvent, Connect, RouterSends, CacheGets, CacheSends, RouterGets, Cut, Event, On, cache_gets, cache_sends, connects, router_gets, router_sends, settle}
use Rattle.rtr_world.specs.History.{Done, Entry, Made, Leads, after, conn_due, side_at}

-- the events of which catching up is made
abbrev pub IsMove : SideEvent → Type 0
IsMove Connect = ⊤
IsMove (RouterSends most) = ⊤
IsMove (CacheGets most) = ⊤
IsMove (CacheSends most) = ⊤
IsMove (RouterGets most) = ⊤
IsMove (Cut left) = ⊤
IsMove event = ⊥

abbrev pub IsMoveOf : ℕ → Event → Type 0
IsMoveOf r (On one event) = (one ≡ r) × IsMove event
IsMoveOf r event = ⊥

abbrev pub AreMoves : ℕ → List Entry → Type 0
AreMoves r entries = AllByRecursion (λ e. IsMoveOf r e.event) entries

-- What is held is the newest of these published sets, of this version of the protocol and this session. If there is none, no session of
-- this version is held, and if none is held at all the table is empty.
abbrev pub HoldsNewest : Version → ℕ → List NumberedSet → Option Committed → VrpSet → Type 0
HoldsNewest version session [] held table = (of_version version held ≡ None) × (held ≡ None → table ≡ empty)
HoldsNewest version session (now ∷ older) None table = ⊥
HoldsNewest version session (now ∷ older) (Some held) table =
    (held.version ≡ version) × (held.session ≡ session) × (held.serial ≡ now.serial) × (table ≡ now.set)

-- The connection is of the version that the router speaks, and was made at this instance as it is. If the link is idle, the router holds
-- its newest version.
abbrev pub IsFresh : Instance → Option Instance → Router → Link → Type 0
IsFresh i home r Closed = ⊤
IsFresh i home r (Ended end) = ⊤
IsFresh i home r Idle = (r.spoken ≡ r.speaks) × (home ≡ Some i) × HoldsNewest r.spoken (session_in r.spoken i) (versions i) r.version r.table
IsFresh i home r link = (r.spoken ≡ r.speaks) × (home ≡ Some i)

-- So it is after a router connected and then nothing happened but moves of its own, whatever they were, and wherever memory ran out.
abbrev pub IdleIsCurrent : Type 0
IdleIsCurrent =
    (made : Made) (before moves : List Entry) (r : ℕ) (wanting : Option ℕ) (w : World) (s : Side) →
    Leads made (before ++ record { event = On r Connect; outcome = Done wanting } ∷ moves) w → AreMoves r moves → side_at r w.sides ≡ Some s →
    IsFresh w.present s.home s.router s.router.link

-- A round: at most this many bytes go each step of the way from the router to the cache and back. Memory may run out at a PDU at either
-- end.
abbrev pub sent_up : World → ℕ → Side → Side
sent_up w most s = settle (instances w) (router_sends most s)

abbrev pub read_up : World → ℕ → Option ℕ → Side → Side
read_up w most at_cache s = settle (instances w) (cache_gets w most at_cache (sent_up w most s))

abbrev pub sent_down : World → ℕ → Option ℕ → Side → Side
sent_down w most at_cache s = settle (instances w) (cache_sends w most (read_up w most at_cache s))

abbrev pub round : World → ℕ → Option ℕ → Option ℕ → Side → Side
round w most at_cache at_router s = settle (instances w) (router_gets w most at_router (sent_down w most at_cache s))

-- These are as many bytes as there can be: a question or an answer has at most 2^25 PDUs of at most 2^12 bytes.
abbrev pub IsAll : ℕ → Type 0
IsAll most = 2 ^ 37 ≤ most

-- The connection is open, and nothing is on its way in either direction, nor to be pulled at either end.
pub record IsQuiet (s : Side) : Type 0 where
  pub is_open : IsSome s.conn
  pub out : s.router.out ≡ []
  pub up : s.up ≡ []
  pub due : conn_due s.conn ≡ []
  pub down : s.down ≡ []

-- Nothing moves now: the link is closed, or it is idle and all is quiet.
abbrev pub RestsSo : Side → Link → Type 0
RestsSo s Closed = ⊤
RestsSo s Idle = IsQuiet s
RestsSo s link = ⊥

abbrev pub Rests : Side → Type 0
Rests s = RestsSo s s.router.link

abbrev pub RestsNext : World → Side → Type 0
RestsNext w s = (most : ℕ) (at_cache at_router : Option ℕ) → IsAll most → Rests (round w most at_cache at_router s)

-- After a whole round nothing moves, or the router asks for all, after a Cache Reset, and then it is after the next.
abbrev pub RestsSoon : World → Side → Type 0
RestsSoon w s =
    (most : ℕ) (at_cache at_router : Option ℕ) → IsAll most →
    Rests (round w most at_cache at_router s)
    ⊎ (((round w most at_cache at_router s).router.link ≡ Asked AskReset) × RestsNext w (round w most at_cache at_router s))

-- So it is of every router that connects.
abbrev pub RoundsEnd : Type 0
RoundsEnd = Always (λ w s. RestsSoon w (settle (instances w) (connects w s)))

-- If memory does not run out at either end the link is idle after a whole round;
abbrev pub IdleNext : World → Side → Type 0
IdleNext w s = (most : ℕ) → IsAll most → (round w most None None s).router.link ≡ Idle

-- or the router asks for all, after a Cache Reset, and then it is idle after the next round. Or it held a session when it connected, had to
-- drop it, and is closed; then it is idle after one round on a new connection.
abbrev pub IdleAfter : World → Option Committed → Side → Type 0
IdleAfter w held s =
    (s.router.link ≡ Idle)
    ⊎ (((s.router.link ≡ Asked AskReset) × IdleNext w s)
    ⊎ (IsSome held × (s.router.link ≡ Closed) × (s.router.version ≡ None) × IdleNext w (settle (instances w) (connects w s))))

abbrev pub IdleSoon : World → Option Committed → Side → Type 0
IdleSoon w held s = (most : ℕ) → IsAll most → IdleAfter w held (round w most None None s)

abbrev pub EachCatchesUp : Type 0
EachCatchesUp = Always (λ w s. IdleSoon w s.router.version (settle (instances w) (connects w s)))

-- The router's side after an event of it that goes through, and the four events that make a round
abbrev pub stepped : ℕ → SideEvent → Option ℕ → World → World
stepped r event wanting w = after (On r event) (Done wanting) w

abbrev pub rounded : ℕ → ℕ → Option ℕ → Option ℕ → World → World
rounded r most at_cache at_router w =
    stepped r (RouterGets most) at_router (stepped r (CacheSends most) None (stepped r (CacheGets most) at_cache (stepped r (RouterSends most) None w)))

pub record AreRouterMoves (r : ℕ) (w : World) (s : Side) : Type 0 where
  pub connected : (wanting : Option ℕ) → side_at r (stepped r Connect wanting w).sides ≡ Some (settle (instances w) (connects w s))
  pub round_is : (most : ℕ) (at_cache at_router : Option ℕ) → side_at r (rounded r most at_cache at_router w).sides ≡ Some (round w most at_cache at_router s)

abbrev pub RoundsAreSteps : Type 0
RoundsAreSteps = (r : ℕ) (w : World) (s : Side) → side_at r w.sides ≡ Some s → AreRouterMoves r w s
