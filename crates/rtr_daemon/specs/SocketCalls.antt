-- What the sockets answered.
use Rattle.std.specs.Prelude.{ℕ, ⊤, List, Option, None, Some, Result, Ok, Err, Vec}
use Rattle.rtr_daemon.specs.declared.environment.AcceptResult.{AcceptResult}
use Rattle.rtr_daemon.specs.declared.environment.AcceptResult.TheVariants as result
use Rattle.rtr_daemon.specs.declared.environment.Ready.{Ready}

-- What an accept came to: a connection of this poll token, none pending, none this time, or a failure
pub data AcceptOutcome : Type 0 where
  Came : (token : ℕ) → AcceptOutcome
  NonePending : AcceptOutcome
  TryAgain : AcceptOutcome
  Fails : AcceptOutcome

abbrev pub accepted_as : {L : Type 0} → AcceptResult L → AcceptOutcome
accepted_as (result.Connection stream token address local) = Came token
accepted_as result.WouldBlock = NonePending
accepted_as result.Again = TryAgain
accepted_as result.NoRoom = Fails
accepted_as (result.Failed error) = Fails

-- the system's tables of connections, if they could be read
abbrev pub shown_by : {E A : Type 0} → Result (Vec ℕ A) E → Option (List ℕ)
shown_by (Ok table) = Some table.items
shown_by (Err error) = None

-- The calls of the sockets, each from a state to the next one. A wait of at most this many milliseconds ended, or failed. This was the next of what
-- was ready, or nothing more was. An accept of a listener came to this. The system's tables of connections are these, or cannot be read.
pub record SocketCalls (W : Type 0) : Type 1 where
  pub waits : W → ℕ → W → Type 0
  pub wait_fails : W → ℕ → W → Type 0
  pub tells : W → Option Ready → W → Type 0
  pub accepts : W → ℕ → AcceptOutcome → W → Type 0
  pub shows : W → Option (List ℕ) → W → Type 0

-- Nothing is known of them.
abbrev pub any_calls : {W : Type 0} → SocketCalls W
any_calls {W} = record { waits = λ before millis after. ⊤; wait_fails = λ before millis after. ⊤; tells = λ before next after. ⊤; accepts = λ before listener came after. ⊤; shows = λ before tables after. ⊤ }

-- A wait failed.
abbrev pub WaitFails : {W : Type 0} → SocketCalls W → Type 0
WaitFails {W} calls = (before : W) × (millis : ℕ) × (after : W) × calls.wait_fails before millis after
