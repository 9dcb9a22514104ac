-- A connection at the cache as a machine, byte by byte (RFC 8210 sections 5, 8 and 12).
use Rattle.std.specs.Prelude.{◌≡◌, ℕ, zero, suc, ◌-◌, Bool, true, false, not, ◌&&◌, ◌||◌, List, [], ◌∷◌, ◌++◌, length, take, min, Option, Some, None, if◌then◌else◌, ⊤}
use Rattle.std.specs.List.{AllByRecursion}
use Rattle.vrps.specs.Instance.{Instance, IsInstance}
use Rattle.vrps.specs.Store.{published}
use Rattle.vrps.specs.VrpSet.{VrpSet, IsVrpSet}
use Rattle.rtr_pdu.specs.Version.{header_version, version_in}
use Rattle.rtr_pdu.specs.declared.version.Version.{Version}
use Rattle.rtr_pdu.specs.Judging.{Judgement, Begins, Whole, Faulty, judge}
use Rattle.rtr_pdu.specs.Payloads.{AreBytes}
use Rattle.rtr_ends.specs.Connection.{Connection, ConnMoment, Read, Wanting, Fault, Notify, Pull, IsHistory, opened, conn_after, after_all, is_published, pulled, replies, spoken_in, takes_memory}
use Rattle.rtr_ends.specs.Feeding.{FedPiece, feed, IsTaken}
use Rattle.rtr_ends.specs.Timing.{Intervals}

-- The connection between two moments, and what has arrived of a PDU
pub record Conn : Type 0 where
  pub state : Connection
  pub held : List ℕ

abbrev pub new_conn : Instance → Conn
new_conn i = record { state = opened i; held = [] }

abbrev pub is_none : List ℕ → Bool
is_none [] = true
is_none (b ∷ bytes) = false

-- Nothing is consumed if bytes are due or the connection has ended.
abbrev pub conn_stops : Conn → Bool
conn_stops o = o.state.ended || not (is_none o.state.due)

-- The moment that the last of these bytes of a version brings. Running out of memory has an effect only if the answer allocates memory.
abbrev pub conn_moment_of : Instance → Bool → Version → List ℕ → Judgement → Option ConnMoment
conn_moment_of i memory version bytes Begins = None
conn_moment_of i memory version bytes (Whole u) =
    Some (if takes_memory version i u && not memory then Wanting version i u bytes else Read version i u bytes)
conn_moment_of i memory version bytes (Faulty fault) = Some (Fault version fault bytes)

abbrev pub with_moment : ℕ → Intervals → List ℕ → Conn → Option ConnMoment → Conn
with_moment keep t bytes o None = record o { held = bytes }
with_moment keep t bytes o (Some m) = record { state = conn_after keep t o.state m; held = [] }

-- At which PDU that comes, counted from 0, memory runs out
abbrev pub finds_memory : Option ℕ → Bool
finds_memory (Some zero) = false
finds_memory wanting = true

abbrev pub counted : Judgement → Option ℕ → Option ℕ
counted (Whole u) (Some (suc units)) = Some units
counted (Whole u) wanting = None
counted judgement wanting = wanting

-- A connection that consumes a piece, with the moments of it so far
pub record Taking : Type 0 where
  pub conn : Conn
  pub moments : List ConnMoment
  pub wanting : Option ℕ

abbrev pub and_moment : List ConnMoment → Option ConnMoment → List ConnMoment
and_moment moments None = moments
and_moment moments (Some m) = moments ++ m ∷ []

abbrev pub conn_judged : ℕ → Intervals → Instance → Taking → Version → List ℕ → Judgement → Taking
conn_judged keep t i m version bytes judgement =
    let came = conn_moment_of i (finds_memory m.wanting) version bytes judgement in
    record { conn = with_moment keep t bytes m.conn came; moments = and_moment m.moments came; wanting = counted judgement m.wanting }

-- the version of these bytes at the front of what comes, if they follow
abbrev pub version_at : Conn → List ℕ → Version
version_at o bytes = version_in o.state.version (o.held ++ bytes)

-- The next byte. It is judged by the version of the connection, or of the first header.
unfoldable pub conn_byte : ℕ → Intervals → Instance → Taking → ℕ → Taking
conn_byte keep t i m b =
    conn_judged keep t i m (version_at m.conn (b ∷ [])) (m.conn.held ++ b ∷ []) (judge (version_at m.conn (b ∷ [])) false (m.conn.held ++ b ∷ []))

-- A piece is received; memory runs out at this PDU of it, if at any.
unfoldable pub conn_takes : ℕ → Intervals → Instance → Option ℕ → List ℕ → Conn → FedPiece Taking
conn_takes keep t i wanting piece o =
    feed (λ m. conn_stops m.conn) (conn_byte keep t i) (record { conn = o; moments = []; wanting = wanting }) piece

-- The router can be notified if the connection continues, nothing is due, and something is published.
abbrev pub can_notify : Instance → Conn → Bool
can_notify i o = is_published i && not (conn_stops o)

-- The version in which is sent on it if nothing is asked
abbrev pub speaks_in : Conn → Version
speaks_in o = spoken_in (header_version o.state.version o.held)

unfoldable pub conn_notified : ℕ → Intervals → Instance → Conn → Conn
conn_notified keep t i o = if can_notify i o then record o { state = conn_after keep t o.state (Notify (speaks_in o) i o.held) } else o

-- At most this many of the bytes due are pulled.
abbrev pub pulled_count : ℕ → Conn → ℕ
pulled_count most o = min most (length o.state.due)

unfoldable pub conn_pulled : ℕ → Intervals → ℕ → Conn → Conn
conn_pulled keep t most o = record o { state = conn_after keep t o.state (Pull (pulled_count most o)) }

-- What is called on a connection: a set is published; a piece is received; bytes are pulled; the router is notified.
pub data ConnCall : Type 0 where
  Publishes : (set : VrpSet) → ConnCall
  Takes : (wanting : Option ℕ) → (piece : List ℕ) → ConnCall
  Gives : (most : ℕ) → ConnCall
  Notifies : ConnCall

-- A cache that serves one connection, with the moments of that, the bytes that came by them or are held, and those pulled
pub record Serving : Type 0 where
  pub cache : Instance
  pub conn : Conn
  pub moments : List ConnMoment
  pub came : List ℕ
  pub given : List ℕ

abbrev pub with_taken : List ℕ → Serving → FedPiece Taking → Serving
with_taken piece s f = record s {
  conn = f.machine.conn;
  moments = s.moments ++ f.machine.moments;
  came = s.came ++ take (length piece - length f.rest) piece;
}

abbrev pub serve : ℕ → Intervals → ConnCall → Serving → Serving
serve keep t (Publishes set) s = record s { cache = published set s.cache }
serve keep t (Takes wanting piece) s = with_taken piece s (conn_takes keep t s.cache wanting piece s.conn)
serve keep t (Gives most) s = record s {
  conn = conn_pulled keep t most s.conn;
  moments = s.moments ++ Pull (pulled_count most s.conn) ∷ [];
  given = s.given ++ take most s.conn.state.due;
}
serve keep t Notifies s = record s {
  conn = conn_notified keep t s.cache s.conn;
  moments = if can_notify s.cache s.conn then s.moments ++ Notify (speaks_in s.conn) s.cache s.conn.held ∷ [] else s.moments;
}

-- after these calls, the last first, on a connection that was opened at this instance
abbrev pub serving : ℕ → Intervals → Instance → List ConnCall → Serving
serving keep t i [] = record { cache = i; conn = new_conn i; moments = []; came = []; given = [] }
serving keep t i (call ∷ calls) = serve keep t call (serving keep t i calls)

-- what is published can be, and what is received are bytes
abbrev pub IsConnCall : ConnCall → Type 0
IsConnCall (Publishes set) = IsVrpSet set
IsConnCall (Takes wanting piece) = AreBytes piece
IsConnCall (Gives most) = ⊤
IsConnCall Notifies = ⊤

-- What a connection consumes of a piece, whatever it is
abbrev pub ConnTakes : Type 0
ConnTakes =
    (keep : ℕ) (t : Intervals) (i : Instance) (wanting : Option ℕ) (piece : List ℕ) (o : Conn) →
    (taken : List ℕ)
    × IsTaken (λ m. conn_stops m.conn) (conn_byte keep t i) (record { conn = o; moments = []; wanting = wanting }) piece taken (conn_takes keep t i wanting piece o)

-- It stops only at the end of a PDU, or if a fault shows.
abbrev pub ConnStops : Type 0
ConnStops =
    (keep : ℕ) (t : Intervals) (i : Instance) (m : Taking) (b : ℕ) → judge (version_at m.conn (b ∷ [])) false (m.conn.held ++ b ∷ []) ≡ Begins →
    conn_stops (conn_byte keep t i m b).conn ≡ conn_stops m.conn

-- What happened on a connection is its history. What came by it is what was consumed, what was pulled is what was given, and the connection
-- is as they leave it.
pub record IsServed (keep : ℕ) (t : Intervals) (i : Instance) (s : Serving) : Type 0 where
  pub history : IsHistory keep t (opened i) s.moments s.came
  pub state : s.conn.state ≡ after_all keep t (opened i) s.moments
  pub given : s.given ≡ pulled keep t (opened i) s.moments
  pub replies : s.given ++ s.conn.state.due ≡ replies keep t s.moments

abbrev pub ServesHistory : Type 0
ServesHistory =
    (keep : ℕ) (t : Intervals) (i : Instance) (calls : List ConnCall) → IsInstance i → AllByRecursion IsConnCall calls →
    IsServed keep t i (serving keep t i calls)
