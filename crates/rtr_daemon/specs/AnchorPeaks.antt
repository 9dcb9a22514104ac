-- What the trust anchors of an export had within the last 24 hours.
use Rattle.std.specs.Prelude.{ℕ, Bool, not, ◌&&◌, nat_le, List, Option, None, string_bytes}
use Rattle.std.specs.List.{filter, fold}
use Rattle.std.specs.Str.{bytes_eq}
use Rattle.status_pages.specs.declared.status.VrpPeak.{VrpPeak}
use Rattle.rtr_daemon.specs.Peaks.{greater, is_within_a_day}
use Rattle.rtr_daemon.specs.declared.anchor_peaks.AnchorPeak.{AnchorPeak}

-- A peak is kept beside a later one of a trust anchor: it ended at most 24 hours before, and it is of another trust anchor or higher.
abbrev pub is_kept : List ℕ → VrpPeak → AnchorPeak → Bool
is_kept name later a =
    is_within_a_day later.until a.peak && not (bytes_eq (string_bytes a.name) name && nat_le a.peak.vrps later.vrps)

-- the most that a trust anchor had in a load that ended within the 24 hours before a second
abbrev pub most_of : List ℕ → ℕ → List AnchorPeak → Option VrpPeak
most_of name now ended =
    fold (λ most a. greater most a.peak) None (filter (λ a. bytes_eq (string_bytes a.name) name && is_within_a_day now a.peak) ended)
