-- What becomes ready, and who is queued for it.
use Rattle.std.specs.Prelude.{◌≡◌, ◌⊎◌, ℕ, Contains, List, [], ◌∷◌, length, None, Some}
use Rattle.rtr_daemon.specs.Known.{SameClients}
use Rattle.rtr_daemon.specs.Queue.{IsQueued, QueuesBehind}
use Rattle.rtr_daemon.specs.SocketCalls.{SocketCalls}
use Rattle.rtr_daemon.specs.declared.client_table.ClientTable.{ClientTable}
use Rattle.rtr_daemon.specs.Accepting.{noted}
use Rattle.rtr_daemon.specs.declared.accepting.Listener.{Listener}
use Rattle.rtr_daemon.specs.declared.environment.Ready.{Ready}
use Rattle.rtr_daemon.specs.declared.environment.Ready.TheVariants.{Connection}

-- From a state to another one these were ready, by one answer of the sockets after the other.
abbrev pub TellsEach : {W : Type 0} → SocketCalls W → W → List Ready → W → Type 0
TellsEach calls before [] after = after ≡ before
TellsEach {W} calls before (next ∷ others) after = (between : W) × calls.tells before (Some next) between × TellsEach calls between others after

-- These are all that was ready, or as much as is read in one turn.
abbrev pub TellsAll : {W : Type 0} → SocketCalls W → W → List Ready → W → Type 0
TellsAll {W} calls before told after = (last : W) × TellsEach calls before told last × (calls.tells last None after ⊎ ((after ≡ last) × (length told ≡ 65536)))

-- listeners after all that was ready
abbrev pub all_noted : List Ready → List Listener → List Listener
all_noted [] listeners = listeners
all_noted (next ∷ told) listeners = all_noted told (noted next listeners)

-- Clients that became ready are queued, after those that were. No client is changed.
pub record QueuesReady (told : List Ready) (old new : ClientTable) : Type 0 where
  pub woken : (token : ℕ) → Contains told (Connection token) → IsQueued new token
  pub clients : SameClients old new
  pub queue : QueuesBehind old.queue.items new

-- The sockets were asked for what is ready: clients that are ready were queued, and listeners noted.
abbrev pub TakesReady : {W : Type 0} → SocketCalls W → W → ClientTable → List Listener → ClientTable → List Listener → W → Type 0
TakesReady calls before old listeners new heard after = (told : List Ready) × TellsAll calls before told after × QueuesReady told old new × (heard ≡ all_noted told listeners)
