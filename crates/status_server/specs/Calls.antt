-- The calls of the stream of one connection, and the bytes that they move.
use Rattle.std.specs.Prelude.{◌≡◌, ◌⊎◌, ℕ, zero, suc, ◌<◌, ◌≤◌, Bool, false, nat_lt, List, ◌++◌, length, take, Option}
use Rattle.std.specs.Io.KnownBytes.{Appends, Consumes}
use Rattle.http_server.specs.Connection.{history}
use Rattle.http_server.specs.History.{new_history}
use Rattle.status_server.specs.declared.http_connection.HttpConnection.{HttpConnection}
use Rattle.status_server.specs.declared.http_connection.Moved.{Moved}
use Rattle.status_server.specs.declared.http_connection.Moved.TheVariants.{Ends, Sent}

-- a connection over this stream, of which nothing was read, and to which nothing was written
pub record IsFirst {T : Type 0} (stream : T) (v : HttpConnection T) : Type 0 where
  pub stream_is : v.stream ≡ stream
  pub history_is : history v.connection ≡ new_history

-- A read of the stream: these bytes were received. None were if it failed.
pub record Reads {T : Type 0} (remaining : T → Option (List ℕ)) (v w : HttpConnection T) : Type 0 where
  pub more : List ℕ
  pub consumed : Consumes (remaining v.stream) (remaining w.stream) more
  pub received : (history w.connection).received ≡ (history v.connection).received ++ more
  pub sent : (history w.connection).sent ≡ (history v.connection).sent

-- A write to the stream: this many of the pending bytes were sent. None were if it failed.
pub record Writes {T : Type 0} (contents : T → Option (List ℕ)) (v w : HttpConnection T) : Type 0 where
  pub count : ℕ
  pub appended : Appends (contents v.stream) (contents w.stream) (take count (history v.connection).pending)
  pub received : (history w.connection).received ≡ (history v.connection).received
  pub sent : (history w.connection).sent ≡ (history v.connection).sent ++ take count (history v.connection).pending

-- One call of the stream of a connection: pending bytes are written first. Or none, if the connection neither writes nor reads.
abbrev pub MakesCall : {T : Type 0} → (T → Option (List ℕ)) → (T → Option (List ℕ)) → HttpConnection T → HttpConnection T → Type 0
MakesCall remaining contents v w =
    ((0 < length (history v.connection).pending) × Writes contents v w)
    ⊎ (((length (history v.connection).pending ≡ 0) × Reads remaining v w) ⊎ (w ≡ v))

-- this many calls, one after the other
abbrev pub Calls : {T : Type 0} → (T → Option (List ℕ)) → (T → Option (List ℕ)) → ℕ → HttpConnection T → HttpConnection T → Type 0
Calls remaining contents zero v w = w ≡ v
Calls {T} remaining contents (suc n) v w = (u : HttpConnection T) × Calls remaining contents n v u × MakesCall remaining contents u w

-- at most this many calls
abbrev pub MakesCalls : {T : Type 0} → (T → Option (List ℕ)) → (T → Option (List ℕ)) → ℕ → HttpConnection T → HttpConnection T → Type 0
MakesCalls remaining contents budget v w = (n : ℕ) × (n ≤ budget) × Calls remaining contents n v w

-- how many bytes were written to the stream
abbrev pub sent_of : {T : Type 0} → HttpConnection T → ℕ
sent_of v = length (history v.connection).sent

-- whether a byte was written in between
abbrev pub has_sent : {T : Type 0} → HttpConnection T → HttpConnection T → Bool
has_sent v w = nat_lt (sent_of v) (sent_of w)

-- whether a call wrote a byte
abbrev pub TellsSent : Moved → Bool → Type 0
TellsSent (Sent n) sent = nat_lt 0 n ≡ sent
TellsSent (Ends progress) sent = sent ≡ false
