-- The turns of clients.
use Rattle.std.specs.Prelude.{ℕ, List, Option}
use Rattle.vrps.specs.Instance.{Instance}
use Rattle.rtr_server.specs.Clients.{KeepsOthers, Serves, slot_at}
use Rattle.rtr_server.specs.declared.server.Server.{Server}
use Rattle.rtr_server.specs.declared.stream.Call.{Call}
use Rattle.rtr_server.specs.declared.turn.Turn.{Turn}

-- how a client of a number was served: from its slot and the cache before to those after
abbrev pub ServesClient : {S T : Type 0} → (ℕ → Instance → S → Type 0) → (T → Option (List ℕ)) → (T → Option (List ℕ)) → (T → Option (List Call)) → ℕ → ℕ → Option Turn → Server S T → Server S T → Type 0
ServesClient holds remaining contents answers budget c turn old new =
    Serves holds remaining contents answers budget c (slot_at old.slots.items c) old.cache turn (slot_at new.slots.items c) new.cache new.parted

-- The client of a number had one turn, of at most this many calls of its stream. All other clients are unchanged. If there is no such client,
-- there was no turn.
pub record HasTurn {S T : Type 0} (holds : ℕ → Instance → S → Type 0) (remaining contents : T → Option (List ℕ)) (answers : T → Option (List Call)) (budget c : ℕ) (old new : Server S T) : Type 0 where
  pub turn : Option Turn
  pub serves : ServesClient holds remaining contents answers budget c turn old new
  pub others : KeepsOthers c old.slots.items new.slots.items
