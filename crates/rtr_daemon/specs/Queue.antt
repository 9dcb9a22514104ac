-- The queue of clients, and their turns.
use Rattle.std.specs.Prelude.{◌≡◌, ◌<◌, ◌≤◌, ◌||◌, ℕ, Bool, ⊤, Contains, IsSome, List, [], ◌∷◌, ◌++◌, Option, None, Some, option_map}
use Rattle.vrps.specs.Instance.{Instance}
use Rattle.vrps.specs.declared.store.Published.{Published}
use Rattle.vrps.specs.declared.store.Published.TheVariants.{New, Unchanged}
use Rattle.rtr_server.specs.declared.server.Client.{Client}
use Rattle.rtr_server.specs.declared.stream.Call.{Call}
use Rattle.rtr_server.specs.declared.turn.Turn.{Turn}
use Rattle.rtr_server.specs.declared.turn.Turn.TheVariants.{Busy, Gone}
use Rattle.rtr_daemon.specs.Turns.{HasTurn}
use Rattle.rtr_server.specs.declared.turn.Parted.{Parted}
use Rattle.rtr_server.specs.declared.turn.Slot.{Slot}
use Rattle.rtr_server.specs.Clients.{slot_at}
use Rattle.rtr_daemon.specs.Known.{OtherClients, SameClients, client_at, known_at}
use Rattle.rtr_daemon.specs.Overdue.{outcome_of, turned}
use Rattle.rtr_daemon.specs.Parting.{has_agreed}
use Rattle.rtr_daemon.specs.declared.client_entry.ClientEntry.{ClientEntry}
use Rattle.rtr_daemon.specs.declared.client_table.ClientTable.{ClientTable}
use Rattle.rtr_daemon.specs.declared.daemon.Daemon.{Daemon}

-- The queue is unchanged, or tokens were added at its end.
abbrev pub QueuesBehind : List ℕ → ClientTable → Type 0
QueuesBehind queue table = (more : List ℕ) × (table.queue.items ≡ queue ++ more)

-- The client of a poll token is in the queue.
abbrev pub IsQueued : ClientTable → ℕ → Type 0
IsQueued table token = IsSome (client_at table token) → Contains table.queue.items token

-- Each client is in the queue.
abbrev pub AreQueued : ClientTable → Type 0
AreQueued table = (token : ℕ) → IsQueued table token

-- All clients are queued, after those that were.
pub record WakesAll (old new : ClientTable) : Type 0 where
  pub clients : SameClients old new
  pub queue : QueuesBehind old.queue.items new
  pub each : AreQueued new

-- If a version is new, all clients are woken. Otherwise they and the queue are unchanged.
abbrev pub WakesIfNew : Published → ClientTable → ClientTable → Type 0
WakesIfNew (New serial) old new = WakesAll old new
WakesIfNew Unchanged old new = new ≡ old

-- The first token of a client that is not below this one
abbrev pub IsFirstFrom : ClientTable → ℕ → Option ℕ → Type 0
IsFirstFrom table least None = (token : ℕ) → least ≤ token → client_at table token ≡ None
IsFirstFrom table least (Some first) = (least ≤ first) × ((token : ℕ) → least ≤ token → token < first → client_at table token ≡ None)

-- a client under its token
abbrev pub under : ℕ → Option Client → Option (ℕ × Client)
under token client = option_map (λ c. (token, c)) client

-- The first token leaves the queue, and its client is the next one. No client is changed.
abbrev pub TakesNext : List ℕ → Option (ℕ × Client) → ClientTable → ClientTable → Type 0
TakesNext [] next old new = (next ≡ None) × (new.queue.items ≡ []) × SameClients old new
TakesNext (token ∷ tokens) next old new = (next ≡ under token (client_at old token)) × (new.queue.items ≡ tokens) × SameClients old new

-- After a turn at a time that the clock answered it is noted what the turn came to, by what was counted of the client.
abbrev pub IsNotedAfter : {T : Type 0} → (ℕ → Type 0) → Turn → Option (Slot T) → Option ClientEntry → Option ClientEntry → Type 0
IsNotedAfter ticks turn None before after = after ≡ before
IsNotedAfter ticks turn (Some slot) before after = (now : ℕ) × ticks now × (after ≡ option_map (turned now (outcome_of turn slot)) before)

-- After its turn a client is known as long as it has not gone, and what the turn came to is noted. If it made all calls that it may, it is in the
-- queue again.
abbrev pub IsKeptAfter : {T : Type 0} → (ℕ → Type 0) → Option Turn → ℕ → Option (Slot T) → ClientTable → ClientTable → Type 0
IsKeptAfter ticks None token slot old new = known_at new token ≡ known_at old token
IsKeptAfter ticks (Some (Gone how)) token slot old new = known_at new token ≡ None
IsKeptAfter ticks (Some Busy) token slot old new = IsNotedAfter ticks Busy slot (known_at old token) (known_at new token) × IsQueued new token
IsKeptAfter ticks (Some turn) token slot old new = IsNotedAfter ticks turn slot (known_at old token) (known_at new token)

-- If a known client has gone, it is noted whether it had agreed on a version.
abbrev pub PartsAfter : Option Turn → Option ClientEntry → Option Parted → Bool → Bool → Type 0
PartsAfter (Some (Gone how)) None parted was is = ⊤
PartsAfter (Some (Gone how)) (Some entry) parted was is = is ≡ (was || has_agreed parted)
PartsAfter turn known parted was is = is ≡ was

-- The client of a token had a turn of at most 8 calls. If there is none, the server is unchanged.
abbrev pub TurnOf : {S T : Type 0} → (ℕ → Type 0) → (ℕ → Instance → S → Type 0) → (T → Option (List ℕ)) → (T → Option (List ℕ)) → (T → Option (List Call)) → Option Client → ℕ → Daemon S T → Daemon S T → Type 0
TurnOf ticks holds remaining contents answers None token old new =
    (client_at new.clients token ≡ None) × (new.service.server ≡ old.service.server) × (new.has_parted ≡ old.has_parted)
TurnOf ticks holds remaining contents answers (Some client) token old new =
    (had : HasTurn holds remaining contents answers 8 client.0.0 old.service.server new.service.server)
    × IsKeptAfter ticks had.turn token (slot_at new.service.server.slots.items client.0.0) old.clients new.clients
    × PartsAfter had.turn (known_at old.clients token) new.service.server.parted old.has_parted new.has_parted

-- The front of the queue has left it. What came was queued behind the others.
abbrev pub LeavesFront : ℕ → ClientTable → ClientTable → Type 0
LeavesFront token old new = (others : List ℕ) × (more : List ℕ) × (old.queue.items ≡ token ∷ others) × (new.queue.items ≡ others ++ more)

-- The client of a token at the front of the queue had its turn. All others are unchanged.
pub record ServesOne {S T : Type 0} (ticks : ℕ → Type 0) (holds : ℕ → Instance → S → Type 0) (remaining contents : T → Option (List ℕ)) (answers : T → Option (List Call)) (token : ℕ) (old new : Daemon S T) : Type 0 where
  pub turn : TurnOf ticks holds remaining contents answers (client_at old.clients token) token old new
  pub others : OtherClients token old.clients new.clients
  pub queue : LeavesFront token old.clients new.clients

-- The client at the front of the queue had its turn, if there is one.
abbrev pub ServesNext : {S T : Type 0} → (ℕ → Type 0) → (ℕ → Instance → S → Type 0) → (T → Option (List ℕ)) → (T → Option (List ℕ)) → (T → Option (List Call)) → List ℕ → Daemon S T → Daemon S T → Type 0
ServesNext ticks holds remaining contents answers [] old new = SameClients old.clients new.clients × (new.service.server ≡ old.service.server) × (new.has_parted ≡ old.has_parted)
ServesNext ticks holds remaining contents answers (token ∷ tokens) old new = ServesOne ticks holds remaining contents answers token old new

-- The client of each of these tokens had its turn, in this order. If one has gone that had agreed on a version, that is noted.
abbrev pub ServesEach : {S T : Type 0} → (ℕ → Type 0) → (ℕ → Instance → S → Type 0) → (T → Option (List ℕ)) → (T → Option (List ℕ)) → (T → Option (List Call)) → List ℕ → Daemon S T → Daemon S T → Type 0
ServesEach ticks holds remaining contents answers [] old new = new ≡ old
ServesEach {S} {T} ticks holds remaining contents answers (token ∷ tokens) old new =
    (between : Daemon S T) × ServesOne ticks holds remaining contents answers token old between × ServesEach ticks holds remaining contents answers tokens between new
