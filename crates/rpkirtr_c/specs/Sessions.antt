-- The calls of a router's handle.
use Rattle.std.specs.Prelude.{◌≡◌, ◌⊎◌, ℕ, ℤ, Option, Some, None, Result, Ok, Err, ⊤, List, length, take, drop, ◌++◌, min}
use Rattle.prefixes.specs.declared.route.Route.{Route}
use Rattle.rtr_ends.specs.LinkRules as rules
use Rattle.rtr_ends.specs.Router.{RouterCall, called}
use Rattle.rtr_ends.specs.Router as model
use Rattle.rtr_ends.specs.RouterShown.{Calls, IsShown, LeadsOn, ReceivesSo}
use Rattle.rtr_ends.specs.Wake.{WakesAt}
use Rattle.vrps.specs.Origin.{covering, state}
use Rattle.vrps.specs.VrpSet.{VrpSet}
use Rattle.vrps.specs.declared.origin.OriginState.TheVariants.{NotFound}
use Rattle.rtr_server.specs.declared.turn.Traffic.{Traffic}
use Rattle.rpkirtr_c.specs.Answers.{number}
use Rattle.rpkirtr_c.specs.Carried.{and_came}
use Rattle.rpkirtr_c.specs.Links.{moment_of, version_of}
use Rattle.rpkirtr_c.specs.Spelled.{IsCopied, SpellsRoute, state_number}
use Rattle.rpkirtr_c.specs.declared.call_status.CallStatus.{CallStatus}
use Rattle.rpkirtr_c.specs.declared.values.CRecord.{CRecord}
use Rattle.rtr_ends.specs.declared.link.AskFault.{AskFault}
use Rattle.rtr_ends.specs.declared.link.AskFault.TheVariants.{NotConnected}
use Rattle.rtr_ends.specs.declared.link.AskFault.TheVariants.{Busy as AskBusy}
use Rattle.rtr_pdu.specs.declared.version.Version.{Version}
use Rattle.rpkirtr_c.specs.declared.session.Session.{Session}
use Rattle.rpkirtr_c.specs.declared.call_status.CallStatus.TheVariants.{Done, BadRoute, BadVersion, Busy, NoMemory, NotLinked}
use Rattle.rpkirtr_c.specs.declared.values.CRoute.{CRoute}

-- The router makes this call, and its latest connection has carried this then. The accepted records stay.
pub record Carries (call : RouterCall) (traffic : Traffic) (s t : Session) : Type 0 where
  pub rest : t ≡ record s { router = t.router; traffic = traffic }
  pub calls : Calls (λ r. (called call r).router) s.router t.router
  pub leads : LeadsOn call s.router t.router

-- The router makes this call, which carries nothing.
abbrev pub Makes : RouterCall → Session → Session → Type 0
Makes call s t = Carries call s.traffic s t

-- This is so of whatever router the value is.
abbrev pub Shows : Session → (rules.Router → Type 0) → Type 0
Shows s P = (r : rules.Router) → IsShown r s.router → P r

-- From this moment on a tick does more than advance the clock: never, if it is that of what never happens.
abbrev pub Wakes : ℕ → Session → Type 0
Wakes at s = (wake : Option ℕ) × (at ≡ moment_of wake) × Shows s (λ r. WakesAt wake r)

-- A route is judged over a set: its state is written. What is no route has none, and is answered so.
abbrev pub IsJudged : CRoute → VrpSet → ℤ → ℤ → Type 0
IsJudged q set answer told =
    ((r : Route) × SpellsRoute q r × (answer ≡ number Done) × (told ≡ state_number (state set r)))
    ⊎ (((r : Route) → ¬ (SpellsRoute q r)) × (answer ≡ number BadRoute) × (told ≡ state_number NotFound))

-- The router receives these bytes, and consumes this many of them: its connection has carried these too. The accepted records stay.
pub record Receives (now : ℕ) (bytes : List ℕ) (count : ℕ) (s t : Session) : Type 0 where
  pub rest : t ≡ record s { router = t.router; traffic = and_came (take count bytes) s.traffic }
  pub shown : ReceivesSo now bytes count s.router t.router
  pub leads : (wanting : Option ℕ) × LeadsOn (model.Receives now wanting bytes) s.router t.router

-- The bytes that are due fill the room, as far as it fits. The rest of the room stays.
abbrev pub IsPulled : List ℕ → List ℕ → List ℕ → ℕ → Type 0
IsPulled out old new count = (count ≡ min (length old) (length out)) × (new ≡ take (length old) out ++ drop (length out) old)

-- The router speaks the version of a number, if there is one. If there is none, nothing changes, and the answer says so.
abbrev pub IsSpokenOf : Option Version → ℤ → Session → Session → Type 0
IsSpokenOf None answer s t = (answer ≡ number BadVersion) × (t ≡ s)
IsSpokenOf (Some version) answer s t = (answer ≡ number Done) × Makes (model.Speaks version) s t

abbrev pub IsSpoken : ℕ → ℤ → Session → Session → Type 0
IsSpoken version answer s t = IsSpokenOf (version_of version) answer s t

-- the answer to a call that asks a question
abbrev pub ask_answer : Result ⊤ AskFault → CallStatus
ask_answer (Ok asked) = Done
ask_answer (Err AskBusy) = Busy
ask_answer (Err NotConnected) = NotLinked

-- The records of a set that cover a route are copied, as far as they fit, and counted. What is no route has none, and is answered so.
-- If memory ran out for those of a route, nothing is written.
abbrev pub AreCovering : CRoute → VrpSet → ℤ → List CRecord → List CRecord → ℕ → Type 0
AreCovering q set answer old new count =
    ((r : Route) × SpellsRoute q r × (answer ≡ number Done) × (count ≡ length (covering set r)) × IsCopied (covering set r) old new (min (length old) count))
    ⊎ ((((r : Route) → ¬ (SpellsRoute q r)) × (answer ≡ number BadRoute) × (new ≡ old) × (count ≡ 0))
    ⊎ ((r : Route) × SpellsRoute q r × (answer ≡ number NoMemory) × (new ≡ old) × (count ≡ 0)))
