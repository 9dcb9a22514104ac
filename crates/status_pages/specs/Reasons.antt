-- Why a cache is not well. One list decides what its page, its health, its metrics and its log say.
use Rattle.std.specs.Prelude.{ℕ, ◌+◌, ◌-◌, ◌*◌, ◌/◌, min, Bool, true, false, not, ◌&&◌, ◌||◌, ◌==◌, nat_le, nat_lt, List, [], ◌∷◌, codes, Option, None, Some}
use Rattle.std.specs.List.{list_any}
use Rattle.status_pages.specs.declared.reasons.Reason.{Reason}
use Rattle.status_pages.specs.declared.reasons.Reason.TheVariants as reason
use Rattle.status_pages.specs.declared.status.AnchorStatus.{AnchorStatus}
use Rattle.status_pages.specs.declared.status.FileStatus.{FileStatus}
use Rattle.status_pages.specs.declared.status.SlowCall.{SlowCall}
use Rattle.status_pages.specs.declared.status.Status.{Status}
use Rattle.status_pages.specs.declared.status.TurnedAway.{TurnedAway}
use Rattle.status_pages.specs.declared.status.VrpPeak.{VrpPeak}

abbrev pub is_some : {A : Type 0} → Option A → Bool
is_some None = false
is_some (Some a) = true

-- a source that is known to give no VRP
abbrev pub gives_none : Option ℕ → Bool
gives_none None = false
gives_none (Some vrps) = vrps == 0

-- entries of a source have expired, and it gives no VRP
abbrev pub has_all_expired : FileStatus → Bool
has_all_expired f = nat_lt 0 f.expired && gives_none f.vrps

-- for how many seconds a source may be refused: an hour, or the maximum age if that is less
abbrev pub refusal_limit : Option ℕ → ℕ
refusal_limit None = 3600
refusal_limit (Some age) = min age 3600

-- a source has been refused for longer than this many seconds
abbrev pub is_long_refused : ℕ → ℕ → Option ℕ → Bool
is_long_refused now limit None = false
is_long_refused now limit (Some since) = nat_lt limit (now - since)

-- A single call on a file lasted longer than five seconds, within the last hour.
abbrev pub is_slow : ℕ → Option SlowCall → Bool
is_slow now None = false
is_slow now (Some call) = nat_lt 5000 call.milliseconds && nat_le (now - call.at) 3600

-- A trust anchor has fewer than half of the most VRPs within the last 24 hours, from 1,000 on.
abbrev pub is_under_half : ℕ → Option VrpPeak → Bool
is_under_half vrps None = false
is_under_half vrps (Some peak) = nat_le 1000 peak.vrps && nat_lt (2 * vrps) peak.vrps

abbrev pub has_shrunk : AnchorStatus → Bool
has_shrunk a = is_under_half a.vrps a.peak

-- A source is the reason, with this maximum age: its data are too old, or it is refused, or one of its trust anchors shrank, or a call on it was slow.
abbrev pub is_blamed : ℕ → Option ℕ → Reason → FileStatus → Bool
is_blamed now max_age reason.Old f = f.is_old || has_all_expired f
is_blamed now max_age reason.RefusedLong f = is_long_refused now (refusal_limit max_age) f.refused_at
is_blamed now max_age reason.Refused f = is_some f.refusal
is_blamed now max_age reason.Shrank f = list_any has_shrunk f.anchors.items
is_blamed now max_age reason.SlowPoll f = is_slow now f.slow
is_blamed now max_age other f = false

-- Fewer VRPs are served than four fifths of the most within the last 24 hours, from 1,000 on.
abbrev pub is_shrunk : ℕ → Option VrpPeak → Bool
is_shrunk vrps None = false
is_shrunk vrps (Some peak) = nat_le 1000 peak.vrps && nat_lt vrps (peak.vrps - peak.vrps / 5)

-- A router was turned away within the last ten minutes.
abbrev pub is_recent : ℕ → Option TurnedAway → Bool
is_recent now None = false
is_recent now (Some away) = nat_le (now - away.last) 600

-- how many VRPs are served, in 64 bits
abbrev pub served_vrps : Status → ℕ
served_vrps s = min (s.ipv4 + s.ipv6) 18446744073709551615

-- A reason holds of the cache as a whole, sources aside. Before the first version it is no reason that no VRP is served.
abbrev pub holds_for_all : Status → Reason → Bool
holds_for_all s reason.NoVrps = is_some s.serial && (s.given == 0 || served_vrps s == 0)
holds_for_all s reason.Publication = is_some s.publication_failure
holds_for_all s reason.NoVersion = not (is_some s.serial)
holds_for_all s reason.Shrank = is_shrunk (served_vrps s) s.peak
holds_for_all s reason.TurnedAway = is_recent s.now s.turned_away
holds_for_all s reason.Clock = nat_lt 0 s.clock_behind
holds_for_all s other = false

-- A reason holds: of the cache as a whole, or of a source.
abbrev pub has_reason : Status → Reason → Bool
has_reason s r = holds_for_all s r || list_any (is_blamed s.now s.max_age r) s.files.items

-- all reasons, in the order in which they are listed
abbrev pub all_reasons : List Reason
all_reasons =
    reason.NoVrps ∷ reason.Publication ∷ reason.Old ∷ reason.RefusedLong ∷ reason.NoVersion ∷ reason.Refused ∷ reason.Shrank ∷ reason.TurnedAway
    ∷ reason.SlowPoll ∷ reason.Clock ∷ []

-- those at which an operator is woken
abbrev pub grave_reasons : List Reason
grave_reasons = reason.NoVrps ∷ reason.Publication ∷ reason.Old ∷ reason.RefusedLong ∷ reason.NoVersion ∷ []

-- those at which routers are better sent to another cache: data that are old but good keep a cache in
abbrev pub unready_reasons : List Reason
unready_reasons = reason.NoVrps ∷ reason.Publication ∷ reason.NoVersion ∷ []

abbrev pub has_any : Status → List Reason → Bool
has_any s reasons = list_any (has_reason s) reasons

abbrev pub is_well : Status → Bool
is_well s = not (has_any s all_reasons)

abbrev pub is_healthy : Status → Bool
is_healthy s = not (has_any s grave_reasons)

abbrev pub is_ready : Status → Bool
is_ready s = not (has_any s unready_reasons)

-- the word of a reason in metrics and in the log
abbrev pub reason_word : Reason → List ℕ
reason_word reason.NoVrps = codes "no_vrps"
reason_word reason.Publication = codes "publication"
reason_word reason.Old = codes "old"
reason_word reason.RefusedLong = codes "refused_long"
reason_word reason.NoVersion = codes "no_version"
reason_word reason.Refused = codes "refused"
reason_word reason.Shrank = codes "shrank"
reason_word reason.TurnedAway = codes "turned_away"
reason_word reason.SlowPoll = codes "slow_poll"
reason_word reason.Clock = codes "clock"
