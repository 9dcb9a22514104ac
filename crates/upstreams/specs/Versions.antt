-- The version of an upstream's connections: when its cache asks for version 0, and when version 1 is tried again (RFC 8210 section 7).
use Rattle.std.specs.Prelude.{ℕ, ◌==◌, Bool, false, ◌&&◌, ◌||◌, nat_lt, List, [], ◌∷◌, Option, Some, None, is_some, suc, if◌then◌else◌}
use Rattle.rtr_pdu.specs.Code.{UNSUPPORTED_VERSION}
use Rattle.rtr_pdu.specs.declared.version.Version.{Version}
use Rattle.rtr_pdu.specs.declared.version.Version.TheVariants.{V0, V1}
use Rattle.rtr_ends.specs.Consumed.{came, consumed}
use Rattle.rtr_ends.specs.Router.{RouterCall, Connects, Receives, played}
use Rattle.rtr_ends.specs.RouterLaws.{connected_version}
use Rattle.rtr_ends.specs.RouterLink.{Link, Ended}
use Rattle.rtr_ends.specs.Transcript.{is_same, kept, of_version, sum_of}
use Rattle.rtr_ends.specs.declared.link.End.TheVariants.{Told}
use Rattle.upstreams.specs.declared.opening.Opening.{Opening}
use Rattle.upstreams.specs.declared.versions.Fallback.{Fallback}

-- The version of the first PDU that is no Serial Notify, once its type has come, after the bytes that are left of a Serial Notify. A router ignores these,
-- whatever their version.
abbrev pub version_after : List ℕ → ℕ → Option ℕ
version_after [] left = None
version_after (b ∷ bytes) (suc left) = version_after bytes left
version_after (version ∷ []) left = None
version_after (version ∷ kind ∷ bytes) left = if kind == 0 then version_after bytes 10 else Some version

abbrev pub first_version : List ℕ → Option ℕ
first_version bytes = version_after bytes 0

abbrev pub is_zero : Option ℕ → Bool
is_zero None = false
is_zero (Some version) = version == 0

-- The cache sent Error Report 4, Unsupported Protocol Version.
abbrev pub is_refusal : Link → Bool
is_refusal (Ended (Told code)) = code == UNSUPPORTED_VERSION
is_refusal link = false

abbrev pub has_refused : List RouterCall → Bool
has_refused [] = false
has_refused (Connects now ∷ calls) = false
has_refused (Receives now wanting piece ∷ calls) = is_refusal (played (Receives now wanting piece ∷ calls)).router.link || has_refused calls
has_refused (call ∷ calls) = has_refused calls

-- On the latest connection, which was of version 1, the cache asked for version 0. Its response was of version 0, or its Error Report of whatever
-- code; or it sent Error Report 4. A cache that opens in a later version does not ask for it.
abbrev pub asks_for_version_0 : List RouterCall → Bool
asks_for_version_0 calls = is_same V1 (connected_version calls) && (is_zero (first_version (came calls)) || has_refused calls)

-- A connection of version 0 that the cache asked for was followed by data of version 0, and no day has passed since the cache asked.
abbrev pub keeps_version_0 : (now : ℕ) → Option ℕ → List RouterCall → Bool
keeps_version_0 now None calls = false
keeps_version_0 now (Some since) calls = is_same V0 (connected_version calls) && (nat_lt now (sum_of since 86400) && is_some (of_version V0 (kept (played calls).items).version))

-- The version of a connection that is made now: version 0 if that was chosen, if the cache asks for it, or as long as it is kept
abbrev pub is_of_version_0 : (now : ℕ) → Fallback → List RouterCall → Bool
is_of_version_0 now f calls = is_same V0 f.chosen || (asks_for_version_0 calls || keeps_version_0 now f.since calls)

abbrev pub version_at : (now : ℕ) → Fallback → List RouterCall → Version
version_at now f calls = if is_of_version_0 now f calls then V0 else V1

-- since when the cache has asked for version 0, if it is spoken for that
abbrev pub fallback_at : (now : ℕ) → Fallback → List RouterCall → Fallback
fallback_at now f calls = record f { since = if asks_for_version_0 calls then Some now else if keeps_version_0 now f.since calls then f.since else None }

-- The first version of a connection, byte by byte
abbrev pub unopened : Opening
unopened = record { version = None; begun = None; left = 0 }

abbrev pub typed : (version kind : ℕ) → Opening → Opening
typed version kind o = if kind == 0 then record o { begun = None; left = 10 } else record o { version = Some version }

abbrev pub with_begun : Option ℕ → ℕ → Opening → Opening
with_begun None b o = record o { begun = Some b }
with_begun (Some version) b o = typed version b o

abbrev pub with_left : ℕ → ℕ → Opening → Opening
with_left (suc left) b o = record o { left = left }
with_left left b o = with_begun o.begun b o

abbrev pub opened_by : Opening → ℕ → Opening
opened_by o b = if is_some o.version then o else with_left o.left b o

abbrev pub opened_on : Opening → List ℕ → Opening
opened_on o [] = o
opened_on o (b ∷ bytes) = opened_on (opened_by o b) bytes

-- what came on the latest connection, call by call
abbrev pub opening_of : List RouterCall → Opening
opening_of [] = unopened
opening_of (Connects now ∷ calls) = unopened
opening_of (Receives now wanting piece ∷ calls) = opened_on (opening_of calls) (consumed (Receives now wanting piece) (played calls).router)
opening_of (call ∷ calls) = opening_of calls
