-- How old the data of an export are. Times are seconds since 1970.
use Rattle.std.specs.Prelude.{◌≡◌, ℕ, ◌-◌, ◌||◌, ℤ, pos, int_le, unsigned_abs, min, nat_le, nat_lt, if◌then◌else◌, All, Bool, List, map, Option, Some, None, slice_get, ⊤}
use Rattle.std.specs.List.{list_any}
use Rattle.sources.specs.Served.{built_at, expired_of}
use Rattle.sources.specs.declared.sources.Sources.{Sources}
use Rattle.rtr_daemon.specs.declared.environment.Stamp.{Stamp}
use Rattle.rtr_daemon.specs.declared.watched_file.WatchedExport.{WatchedExport}

-- a modification time, or the time of the load if it is not between 1970 and that
abbrev pub modified_by : ℤ → ℕ → ℕ
modified_by modified loaded = if int_le (pos 0) modified then min (unsigned_abs modified) loaded else loaded

-- when the content of a file was made, as far as the file shows: the stamp with which it was loaded last, and when that was
abbrev pub file_time : Option Stamp → Option ℕ → Option ℕ
file_time stamp None = None
file_time None (Some loaded) = Some loaded
file_time (Some stamp) (Some loaded) = Some (modified_by stamp.modified.0 loaded)

-- When data were made: at their own time, or as the file shows if they have none, or one that is more than an hour ahead.
abbrev pub made_at : ℕ → Option ℕ → Option ℕ → Option ℕ
made_at now None file = file
made_at now (Some built) file = if nat_le (built - 3600) now then Some built else file

-- when the data of an export were made
abbrev pub data_time : ℕ → Sources → WatchedExport → Option ℕ
data_time now sources export = made_at now (built_at (slice_get sources.lists.items export.number)) (file_time export.file.loaded export.file.loaded_at)

-- An export is old if its data were made more than this number of seconds before.
abbrev pub is_older : ℕ → ℕ → Option ℕ → Bool → Bool
is_older most now None before = before
is_older most now (Some made) before = nat_lt most (now - made)

-- an export whose age was judged
abbrev pub aged : ℕ → ℕ → Sources → WatchedExport → WatchedExport
aged most now sources export = record export { is_old = is_older most now (data_time now sources export) export.is_old }

-- an export of which it was noted how many of its records have expired since it was loaded
abbrev pub with_expired : ℕ → Sources → WatchedExport → WatchedExport
with_expired now sources export = record export { expired_since = expired_of now (slice_get sources.lists.items export.number) }

-- What decides how old an export is: its number, and the stamp and the second of its last load. And whether it was found to be old.
pub record Aging : Type 0 where
  pub number : ℕ
  pub loaded : Option Stamp
  pub loaded_at : Option ℕ
  pub is_old : Bool

abbrev pub aging_of : WatchedExport → Aging
aging_of export = record { number = export.number; loaded = export.file.loaded; loaded_at = export.file.loaded_at; is_old = export.is_old }

abbrev pub ages_of : List WatchedExport → List Aging
ages_of exports = map aging_of exports

-- It was found to be old exactly if it is, as far as it is known when its data were made.
abbrev pub IsAged : ℕ → ℕ → Option ℕ → Bool → Type 0
IsAged most now None is_old = ⊤
IsAged most now (Some made) is_old = is_old ≡ nat_lt most (now - made)

abbrev pub IsJudged : ℕ → ℕ → Sources → Aging → Type 0
IsJudged most now sources a = IsAged most now (made_at now (built_at (slice_get sources.lists.items a.number)) (file_time a.loaded a.loaded_at)) a.is_old

-- If there is a maximum age, the age of each export was judged at a second that the clock answered.
abbrev pub AreJudged : (ℕ → Type 0) → Option ℕ → Sources → List Aging → Type 0
AreJudged clock None sources ages = ⊤
AreJudged clock (Some most) sources ages = (now : ℕ) × clock now × All (IsJudged most now sources) ages

-- and the daemon knows that an export is old, if one is or was.
abbrev pub IsOldAfter : Option ℕ → Bool → List Aging → Bool → Type 0
IsOldAfter None before ages after = after ≡ before
IsOldAfter (Some most) before ages after = after ≡ (before || list_any (λ a. a.is_old) ages)
