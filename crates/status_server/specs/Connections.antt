-- The HTTP connections, each with its stream: the poll token, when it was admitted, when a byte was last sent on it, in milliseconds of a
-- monotonic clock, and how its last turn ended.
use Rattle.std.specs.Prelude.{◌≡◌, ◌⊎◌, ◌<◌, ◌≤◌, ℕ, zero, suc, ◌+◌, ⊤, Bool, false, true, cond, not, ◌||◌, ◌&&◌, ◌==◌, nat_lt, List, [], ◌∷◌, ◌++◌, filter, length, map, slice_get, take, drop, Option, None, Some, if◌then◌else◌, All}
use Rattle.std.specs.List.{list_any}
use Rattle.http.specs.Request.{head_of}
use Rattle.http.specs.declared.request.Parts.{Parts}
use Rattle.http_server.specs.Connection.{history}
use Rattle.http_server.specs.Exchange.{Call}
use Rattle.http_server.specs.declared.response.Response.{Response}
use Rattle.status_server.specs.Calls.{IsFirst, MakesCalls, has_sent}
use Rattle.status_server.specs.Progress.{is_busy, is_closed}
use Rattle.status_server.specs.declared.http_connection.HttpConnection.{HttpConnection}
use Rattle.status_server.specs.declared.http_connection.HttpProgress.TheVariants.{Busy}
use Rattle.status_server.specs.declared.http_connections.Entry.{Entry}

-- some connection has the token
abbrev pub has_token : {T : Type 0} → ℕ → List (Entry T) → Bool
has_token token vs = list_any (λ v. v.token == token) vs

-- A connection times out if no byte was sent on it for 30 seconds since it was admitted, or 10 minutes after it was admitted. So a visitor
-- has 30 seconds in all for a request, however it comes.
abbrev pub is_in_time : {T : Type 0} → ℕ → Entry T → Bool
is_in_time now v = nat_lt now (v.last_sent + 30000) && nat_lt now (v.came + 600000)

-- No byte is pending on a connection: it waits for a request, of which not all has come.
abbrev pub is_waiting : {T : Type 0} → Entry T → Bool
is_waiting v = length (history v.connection.connection).pending == 0

-- Of the first n connections, this is the one that has waited longest for its request; or none of them waits.
abbrev pub HasWaitedLongest : {T : Type 0} → ℕ → List (Entry T) → Option ℕ → Type 0
HasWaitedLongest {T} n vs None = (k : ℕ) (w : Entry T) → k < n → slice_get vs k ≡ Some w → is_waiting w ≡ false
HasWaitedLongest {T} n vs (Some i) =
    (v : Entry T) × (slice_get vs i ≡ Some v) × (is_waiting v ≡ true)
    × ((k : ℕ) (w : Entry T) → k < n → slice_get vs k ≡ Some w → is_waiting w ≡ true → v.last_sent ≤ w.last_sent)

-- Room is made for one more: nothing changes if there is room, or if no connection waits. Otherwise the one goes that has waited longest, whose
-- stream this is.
abbrev pub MakesRoom : {T : Type 0} → Option T → List (Entry T) → List (Entry T) → Type 0
MakesRoom None vs ws = (ws ≡ vs) × ((length vs < 64) ⊎ HasWaitedLongest (length vs) vs None)
MakesRoom {T} (Some stream) vs ws =
    (64 ≤ length vs)
    × ((i : ℕ) × (v : Entry T) × HasWaitedLongest (length vs) vs (Some i) × (slice_get vs i ≡ Some v) × (stream ≡ v.connection.stream) × (ws ≡ take i vs ++ drop (i + 1) vs))

abbrev pub in_time : {T : Type 0} → ℕ → List (Entry T) → List (Entry T)
in_time now vs = filter (is_in_time now) vs

abbrev pub has_busy : {T : Type 0} → List (Entry T) → Bool
has_busy vs = list_any (λ v. is_busy v.progress) vs

-- A connection of this token becomes busy, and is otherwise as it was. One of another token is unchanged.
abbrev pub woken : {T : Type 0} → ℕ → Entry T → Entry T
woken token v = if v.token == token then record v { progress = Busy } else v

abbrev pub wake : {T : Type 0} → ℕ → List (Entry T) → List (Entry T)
wake token vs = map (woken token) vs

-- Two lists in which each connection and the one in its place are related
abbrev pub Each : {T : Type 0} → (Entry T → Entry T → Type 0) → List (Entry T) → List (Entry T) → Type 0
Each r [] [] = ⊤
Each r [] (w ∷ ws) = ⊥
Each r (v ∷ vs) [] = ⊥
Each r (v ∷ vs) (w ∷ ws) = r v w × Each r vs ws

-- The requests that a connection has read since are answered, each so, in order.
pub record Answered {T : Type 0} (answers : Parts → Response → Type 0) (v w : HttpConnection T) : Type 0 where
  pub calls : List Call
  pub more : (history w.connection).calls ≡ (history v.connection).calls ++ calls
  pub each : All (λ c. answers (head_of c.0) c.1) calls

-- A busy connection had a turn at this time, of at most this many calls of its own stream. It keeps its token and its admission. If a byte was
-- sent, this is the time of its last one.
pub record Turned {T : Type 0} (remaining contents : T → Option (List ℕ)) (answers : Parts → Response → Type 0) (now budget : ℕ) (v w : Entry T) : Type 0 where
  pub token : w.token ≡ v.token
  pub came : w.came ≡ v.came
  pub last_sent : w.last_sent ≡ (if has_sent v.connection w.connection then now else v.last_sent)
  pub calls : MakesCalls remaining contents budget v.connection w.connection
  pub answered : Answered answers v.connection w.connection

-- A connection that is busy has a turn. Another is unchanged.
abbrev pub IsServed : {T : Type 0} → (T → Option (List ℕ)) → (T → Option (List ℕ)) → (Parts → Response → Type 0) → ℕ → ℕ → Entry T → Entry T → Type 0
IsServed remaining contents answers now budget v w =
    (is_busy v.progress ≡ true → Turned remaining contents answers now budget v w) × (is_busy v.progress ≡ false → w ≡ v)

-- A connection is unchanged, or it is busy, and otherwise as it was.
abbrev pub IsWoken : {T : Type 0} → Entry T → Entry T → Type 0
IsWoken v w = (w ≡ v) ⊎ (w ≡ record v { progress = Busy })

abbrev pub unclosed : {T : Type 0} → List (Entry T) → List (Entry T)
unclosed vs = filter (λ v. not (is_closed v.progress)) vs

-- At this time busy connections are served, with at most this many calls of each stream. Those that are closed then are removed.
pub record Serves {T : Type 0} (remaining contents : T → Option (List ℕ)) (answers : Parts → Response → Type 0) (now budget : ℕ) (vs ws : List (Entry T)) : Type 0 where
  pub served : List (Entry T)
  pub each : Each (IsServed remaining contents answers now budget) vs served
  pub rest : ws ≡ unclosed served

-- This stream is admitted under this token at this time: nothing was read or written, and it is served next.
pub record IsNew {T : Type 0} (token now : ℕ) (stream : T) (v : Entry T) : Type 0 where
  pub token_is : v.token ≡ token
  pub came : v.came ≡ now
  pub last_sent : v.last_sent ≡ now
  pub progress : v.progress ≡ Busy
  pub connection : IsFirst stream v.connection

-- This stream is admitted, as the last of the connections.
pub record Admits {T : Type 0} (token now : ℕ) (stream : T) (vs ws : List (Entry T)) : Type 0 where
  pub added : Entry T
  pub is_new : IsNew token now stream added
  pub list : ws ≡ vs ++ added ∷ []

-- One more was accepted at this time, for which room was made. If it was not admitted, its stream was closed.
pub record AcceptsOne {T : Type 0} (now : ℕ) (vs ws : List (Entry T)) : Type 0 where
  pub gone : Option T
  pub room : List (Entry T)
  pub made : MakesRoom gone vs room
  pub admitted : (ws ≡ room) ⊎ ((token : ℕ) × (stream : T) × Admits token now stream room ws)

-- This many were accepted at this time, one after the other.
abbrev pub AcceptsMany : {T : Type 0} → ℕ → ℕ → List (Entry T) → List (Entry T) → Type 0
AcceptsMany zero now vs ws = ws ≡ vs
AcceptsMany {T} (suc n) now vs ws = (us : List (Entry T)) × AcceptsMany n now vs us × AcceptsOne now us ws

-- Connections were accepted at this time.
abbrev pub Accepts : {T : Type 0} → ℕ → List (Entry T) → List (Entry T) → Type 0
Accepts now vs ws = (n : ℕ) × AcceptsMany n now vs ws

-- A turn at this time: some connections are woken, others admitted, the busy ones are served, and those that timed out are removed.
pub record Turns {T : Type 0} (remaining contents : T → Option (List ℕ)) (answers : Parts → Response → Type 0) (now budget : ℕ) (vs ws : List (Entry T)) : Type 0 where
  pub woken_ones : List (Entry T)
  pub wakes : Each IsWoken vs woken_ones
  pub accepted : List (Entry T)
  pub accepts : Accepts now woken_ones accepted
  pub rest : List (Entry T)
  pub serves : Serves remaining contents answers now budget accepted rest
  pub list : ws ≡ in_time now rest

-- How long the next turn may wait, in milliseconds: not at all if a connection is busy, and a second if one is open or may be pending.
abbrev pub wait_for : Bool → Bool → Bool → ℕ
wait_for busy pending none = cond busy 0 (cond (pending || not none) 1000 18446744073709551615)

abbrev pub wait_of : {T : Type 0} → List (Entry T) → Bool → ℕ
wait_of vs pending = wait_for (has_busy vs) pending (length vs == 0)
