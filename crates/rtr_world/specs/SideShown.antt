-- What a world of the program has of its model.
use Rattle.std.specs.Prelude.{◌≡◌, ◌⊎◌, ℕ, ◌-◌, ◌≤◌, ◌^◌, ◌==◌, Bool, true, false, List, [], length, min, Option, Some, None, IsSome, IfSome, Result, Ok, Err, slice_get, if◌then◌else◌, ⊤}
use Rattle.std.specs.declared.alloc.AllocError.{AllocError}
use Rattle.vrps.specs.Instance.{Instance}
use Rattle.vrps.specs.Serial.{serial_at}
use Rattle.vrps.specs.Steps.{HoldsSteps, Steps}
use Rattle.vrps.specs.declared.serial.Serial.{Serial}
use Rattle.rtr_pdu.specs.Unit.{MAX_UNIT_LEN}
use Rattle.rtr_pdu.specs.declared.version.Version.TheVariants.{V1}
use Rattle.rtr_ends.specs.Answer.{session_in}
use Rattle.rtr_ends.specs.Cache.{Conn}
use Rattle.rtr_ends.specs.CacheState.{CacheState, ShowsCache}
use Rattle.rtr_ends.specs.LinkRules.{new_router}
use Rattle.rtr_ends.specs.RouterShown.{IsShown}
use Rattle.rtr_ends.specs.Transcript.{Committed}
use Rattle.rtr_ends.specs.declared.cache.Cache.{Cache}
use Rattle.rtr_ends.specs.declared.cache.Conn.{Conn as Number}
use Rattle.rtr_ends.specs.declared.sessions.Sessions.{Sessions}
use Rattle.rtr_world.specs.World.{World, Side, SideEvent, Connect, RouterSends, CacheSends, instances, timing, cut, settle, side_step, side_part, side_refused, sends_from}
use Rattle.rtr_world.specs.History.{is_used, moved_at, most_of, readings_at}
use Rattle.rtr_world.specs.declared.side.Side as values

-- the cache of a world, with these connections
abbrev pub state_of : World → (ℕ → Option Conn) → CacheState
state_of w at = record { keep = w.keep; timing = timing; cache = w.present; at = at }

-- The serial that was current when a connection to this instance was made, or the first one if nothing was published then. Since then fewer
-- than 2^31 versions were published, or as many as there can be.
pub record IsSince (i home : Instance) (made : Option Serial) : Type 0 where
  pub serial : made ≡ Some (record { 0 = serial_at i.start (length home.sets - 1) })
  pub behind : length home.sets ≤ length i.sets
  pub near : length i.sets - (length home.sets - 1) ≤ 2 ^ 31

abbrev pub MadeWhere : Bool → Instance → Instance → Option Serial → Type 0
MadeWhere true i home made = IsSince i home made
MadeWhere false i home made = made ≡ None

abbrev pub MadeAt : Instance → Option Instance → Option Serial → Type 0
MadeAt i None made = made ≡ None
MadeAt i (Some home) made = MadeWhere (i.session == home.session) i home made

-- it was made to an instance of the cache
abbrev pub MadeTo : List Instance → Option Instance → Type 0
MadeTo all home = IfSome home (λ i. is_used V1 all i.session ≡ true)

-- the connection of a side, under its number at the cache
abbrev pub ConnIs : (ℕ → Option Conn) → Option Number → Option Conn → Type 0
ConnIs at None None = ⊤
ConnIs at (Some n) (Some o) = at n.0 ≡ Some o
ConnIs at None (Some o) = ⊥
ConnIs at (Some n) None = ⊥

pub record ShowsSide (w : World) (at : ℕ → Option Conn) (s : Side) (v : values.Side) : Type 0 where
  pub router : IsShown s.router v.router
  pub conn : ConnIs at v.conn s.conn
  pub up : v.up ≡ s.up
  pub down : v.down ≡ s.down
  pub made : MadeAt w.present s.home v.made
  pub made_to : MadeTo (instances w) s.home

-- a side and the cache
pub record ShowsBoth (w : World) (at : ℕ → Option Conn) (s : Side) (cache : Cache Steps) (v : values.Side) : Type 0 where
  pub serves : ShowsCache HoldsSteps (state_of w at) cache
  pub side : ShowsSide w at s v

-- this is the number of the connection
abbrev pub Has : Option Number → ℕ → Type 0
Has None n = ⊥
Has (Some number) n = number.0 ≡ n

-- What was shown of a side with this connection goes over into this. Its connection is the same, or a new one, and those of other sides are
-- as they were. Whatever else is open at the cache was so before, and is not this side's.
pub record Moves (w : World) (at : ℕ → Option Conn) (old : Option Number) (s : Side) (cache : Cache Steps) (v : values.Side) : Type 0 where
  pub now : ℕ → Option Conn
  pub shows : ShowsBoth w now s cache v
  pub others : (n : ℕ) → IsSome (at n) → ¬ (Has old n) → now n ≡ at n
  pub own : (n : ℕ) → Has v.conn n → Has old n ⊎ (at n ≡ None)
  pub only : (n : ℕ) → IsSome (now n) → Has v.conn n ⊎ ((Has old n → ⊥) × (now n ≡ at n))

-- A call: each side that the value shows becomes this one.
abbrev pub Goes : (World → Side → Side) → Cache Steps → values.Side → Cache Steps → values.Side → Type 0
Goes f cache old later new = (w : World) (at : ℕ → Option Conn) (s : Side) → ShowsBoth w at s cache old → Moves w at old.conn (f w s) later new

-- A call that leaves the cache alone
pub record AloneAt (w : World) (at : ℕ → Option Conn) (s : Side) (old new : values.Side) : Type 0 where
  pub shows : ShowsSide w at s new
  pub conn : new.conn ≡ old.conn

abbrev pub Alone : (World → Side → Side) → values.Side → values.Side → Type 0
Alone f old new = (w : World) (at : ℕ → Option Conn) (s : Side) → ShowsSide w at s old → AloneAt w at (f w s) old new

-- The events at which memory may run out at last
abbrev pub MayFail : SideEvent → Side → Type 0
MayFail Connect s = ⊤
MayFail (RouterSends most) s = ¬ (s.router.out ≡ [])
MayFail (CacheSends most) s = ¬ (s.conn ≡ None)
MayFail event s = ⊥

-- An event goes through; memory runs out at this PDU of it, if at any.
pub record Passes (w : World) (at : ℕ → Option Conn) (event : SideEvent) (s : Side) (Now : Side → Type 0) : Type 0 where
  pub wanting : Option ℕ
  pub wanted : IfSome wanting (λ unit. slice_get (readings_at w event (most_of event) (Some s)) unit ≡ Some true)
  pub now : Now (side_step w event wanting s)

-- It fails because memory ran out after this many bytes, and the cut is still to come.
pub record FailsForMemory (w : World) (at : ℕ → Option Conn) (event : SideEvent) (s : Side) (Now : Side → Type 0) : Type 0 where
  pub bytes : ℕ
  pub fewer : bytes ≤ moved_at w event None (Some s)
  pub may : MayFail event s
  pub part : Side
  pub cut_is : cut 0 part ≡ cut 0 (side_part w event bytes None s)
  pub now : Now part

abbrev pub BeginsEvent : World → (ℕ → Option Conn) → SideEvent → Side → (Side → Type 0) → Result ⊤ AllocError → Type 0
BeginsEvent w at event s Now (Ok done) = Passes w at event s Now
BeginsEvent w at event s Now (Err error) = FailsForMemory w at event s Now

-- After the clean-up
pub record Refused (w : World) (event : SideEvent) (s : Side) (Now : Side → Type 0) : Type 0 where
  pub bytes : ℕ
  pub fewer : bytes ≤ moved_at w event None (Some s)
  pub may : MayFail event s
  pub now : Now (settle (instances w) (side_refused w event bytes None s))

abbrev pub Happens : World → (ℕ → Option Conn) → SideEvent → Side → (Side → Type 0) → Result ⊤ AllocError → Type 0
Happens w at event s Now (Ok done) = Passes w at event s (λ t. Now (settle (instances w) t))
Happens w at event s Now (Err error) = Refused w event s Now

-- A part of the bytes due is sent, or memory runs out.
abbrev pub SendsSome : World → (ℕ → Option Conn) → ℕ → Side → Conn → (Side → Type 0) → Result ℕ AllocError → Type 0
SendsSome w at most s o Now (Ok count) = (count ≡ min (min most MAX_UNIT_LEN) (length o.state.due)) × Now (sends_from w.keep count s (Some o))
SendsSome w at most s o Now (Err error) = (part : Side) × (cut 0 part ≡ cut 0 s) × Now part

-- a side of which nothing is known
pub record IsNewSide (v : values.Side) : Type 0 where
  pub router : IsShown new_router v.router
  pub conn : v.conn ≡ None
  pub up : v.up ≡ []
  pub down : v.down ≡ []
  pub made : v.made ≡ None

-- these are the sessions of an instance
pub record HasSessions (i : Instance) (s : Sessions) : Type 0 where
  pub v1 : s.v1 ≡ i.session
  pub v0 : s.v0 ≡ i.session0

-- the serial that a router holds of this instance
abbrev pub held_of : Instance → Option Committed → Option ℕ
held_of i None = None
held_of i (Some held) = if session_in held.version i == held.session then Some held.serial else None
