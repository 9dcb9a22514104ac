-- When a router next has something to do (RFC 8210 section 6).
use Rattle.std.specs.Prelude.{◌≡◌, ◌↔◌, ◌<◌, ◌^◌, nat_lt, ℕ, Bool, false, not, [], ◌∷◌, Option, Some, None}
use Rattle.rtr_ends.specs.LinkRules.{Router}
use Rattle.rtr_ends.specs.Router.{ticks_at}
use Rattle.rtr_ends.specs.Transcript.{At, later}

-- A tick at this moment changes nothing but the clock, and nothing is asked.
abbrev pub IsQuietAt : ℕ → Router → Type 0
IsQuietAt now r = ticks_at now r ≡ record { router = record r { now = later r.now now }; items = At now ∷ [] }

-- At this moment another, if there is one, is reached.
abbrev pub is_reached : Option ℕ → ℕ → Bool
is_reached None now = false
is_reached (Some moment) now = not (nat_lt now moment)

-- Moments are u64. A tick changes nothing but the clock if and only if the clock does not reach this moment by it.
abbrev pub WakesAt : Option ℕ → Router → Type 0
WakesAt wake r = (now : ℕ) → now < 2 ^ 64 → IsQuietAt now r ↔ (is_reached wake (later r.now now) ≡ false)
