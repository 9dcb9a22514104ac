-- What is noted of the calls on a router (RFC 8210 sections 5.1, 6 and 8): when its cache was heard last, and asked last. Whether its session changed.
use Rattle.std.specs.Prelude.{ℕ, ◌==◌, Bool, true, false, not, ◌&&◌, ◌||◌, List, [], ◌∷◌, is_some, if◌then◌else◌}
use Rattle.rtr_pdu.specs.Code.{CORRUPT_DATA}
use Rattle.rtr_pdu.specs.declared.version.Version.{Version}
use Rattle.rtr_pdu.specs.declared.version.Version.TheVariants.{V1}
use Rattle.rtr_ends.specs.Cache.{is_none}
use Rattle.rtr_ends.specs.FetchStream.{is_asking}
use Rattle.rtr_ends.specs.LinkRules as rules
use Rattle.rtr_ends.specs.Router.{RouterCall, AsksNow, Connects, Receives, Ticks, played}
use Rattle.rtr_ends.specs.RouterLaws.{connected_version}
use Rattle.rtr_ends.specs.RouterLink.{Link, Ended, is_idle}
use Rattle.rtr_ends.specs.Transcript.{is_same}
use Rattle.rtr_ends.specs.declared.link.End.TheVariants.{Reported, Told}
use Rattle.upstreams.specs.Versions.{has_refused, is_refusal, is_zero, opening_of, unopened}
use Rattle.upstreams.specs.declared.notes.Notes.{Notes}

abbrev pub after : List RouterCall → rules.Router
after calls = (played calls).router

abbrev pub has_ended : Link → Bool
has_ended (Ended end) = true
has_ended link = false

-- The link ended with code 0, Corrupt Data, sent or received (RFC 8210 section 12).
abbrev pub is_corrupt : Link → Bool
is_corrupt (Ended (Reported code)) = code == CORRUPT_DATA
is_corrupt (Ended (Told code)) = code == CORRUPT_DATA
is_corrupt link = false

-- A query was put that is still to be sent.
abbrev pub has_put : rules.Router → Bool
has_put r = is_asking r.link && not (is_none r.out)

-- Since when nothing was heard of the cache: the last time at which the connection was made, or the router received bytes of it. The clock of
-- an idle link counts too, as no question is outstanding then.
abbrev pub heard_at : List RouterCall → ℕ
heard_at [] = 0
heard_at (Connects now ∷ calls) = now
heard_at (Receives now wanting piece ∷ calls) = now
heard_at (Ticks now ∷ calls) = if is_idle (after calls).link then now else heard_at calls
heard_at (call ∷ calls) = heard_at calls

-- When the latest query was put. It was put as the connection was made, as the timer of an idle link ran out, or earlier. Or it was at a Serial
-- Notify or a Cache Reset (RFC 8210 sections 5.2, 5.9 and 8).
abbrev pub asked_at : List RouterCall → ℕ
asked_at [] = 0
asked_at (Connects now ∷ calls) = now
asked_at (Receives now wanting piece ∷ calls) = if has_put (after (Receives now wanting piece ∷ calls)) then now else asked_at calls
asked_at (Ticks now ∷ calls) = if is_idle (after calls).link && is_asking (after (Ticks now ∷ calls)).link then now else asked_at calls
asked_at (AsksNow ∷ Ticks now ∷ calls) = now
asked_at (call ∷ calls) = asked_at calls

-- The session changed (RFC 8210 section 5.1). What came ended the link with Corrupt Data, and the router dropped the data that it had.
abbrev pub drops_data : Bool → rules.Router → Bool
drops_data held r = held && (not (is_some r.version) && is_corrupt r.link)

-- It changed on the latest connection.
abbrev pub has_flushed : List RouterCall → Bool
has_flushed [] = false
has_flushed (Connects now ∷ calls) = false
has_flushed (Receives now wanting piece ∷ calls) = drops_data (is_some (after calls).version) (after (Receives now wanting piece ∷ calls)) || has_flushed calls
has_flushed (call ∷ calls) = has_flushed calls

-- all that is noted
abbrev pub noted : List RouterCall → Notes
noted calls = record { heard_at = heard_at calls; asked_at = asked_at calls; flushed = has_flushed calls; opening = opening_of calls; refused = has_refused calls; spoken = connected_version calls }

-- What a call changes of it: a connection is made, bytes are received, the clock is advanced, a query is put.
abbrev pub noted_at_connection : ℕ → Version → Notes
noted_at_connection now version = record { heard_at = now; asked_at = now; flushed = false; opening = unopened; refused = false; spoken = version }

abbrev pub received_notes : ℕ → Bool → rules.Router → Notes → Notes
received_notes now held r n = record n { heard_at = now; asked_at = if has_put r then now else n.asked_at; flushed = drops_data held r || n.flushed; refused = is_refusal r.link || n.refused }

abbrev pub ticked_notes : ℕ → Bool → rules.Router → Notes → Notes
ticked_notes now idle r n = record n { heard_at = if idle then now else n.heard_at; asked_at = if idle && is_asking r.link then now else n.asked_at }

-- As it is noted, the cache asked for version 0.
abbrev pub has_asked_for_version_0 : Notes → Bool
has_asked_for_version_0 n = is_same V1 n.spoken && (is_zero n.opening.version || n.refused)

abbrev pub asked_again : ℕ → Notes → Notes
asked_again now n = record n { asked_at = now }
