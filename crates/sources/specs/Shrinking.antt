-- When the content of a file is refused, as it is far shorter than what its file has given so far.
use Rattle.std.specs.Prelude.{◌≡◌, ◌<◌, ◌*◌, ◌-◌, ◌&&◌, ℕ, nat_le, nat_lt, slice_set, length, Bool, true, false, List, Option, Some, None, Result, Ok, Err}
use Rattle.std.specs.List.{slice_get}
use Rattle.sources.specs.Served.{IsLoaded, IsRefused, SameSettings, expired_of, records_of}
use Rattle.sources.specs.declared.fault.TakeFault.{TakeFault}
use Rattle.sources.specs.declared.fault.TakeFault.TheVariants.{Shrank}
use Rattle.sources.specs.declared.listed.Listed.{Listed}
use Rattle.sources.specs.declared.sources.Sources.{Sources}

-- how many payloads of a file count at a moment
abbrev pub left_of : ℕ → Option Listed → ℕ
left_of now l = records_of l - expired_of now l

-- There were 1,000 or more, and more than this percentage of them is gone.
abbrev pub is_too_short : ℕ → ℕ → ℕ → Bool
is_too_short percent had has = nat_le 1000 had && nat_lt (has * 100) (had * (100 - percent))

-- The guard has this percentage, and refuses it. Without a percentage there is no guard.
abbrev pub is_guarded : Option ℕ → ℕ → ℕ → Bool
is_guarded None had has = false
is_guarded (Some percent) had has = is_too_short percent had has

-- The content of a file is read, and of what counts at this moment it has too little.
pub record IsShrunk (max_age : Option ℕ) (percent : ℕ) (bytes : List ℕ) (now i : ℕ) (lists : List Listed) (had has : ℕ) : Type 0 where
  pub there : i < length lists
  pub read : Listed
  pub expired : ℕ
  pub is : IsLoaded max_age bytes now expired read
  pub had_is : had ≡ left_of now (slice_get lists i)
  pub has_is : has ≡ left_of now (Some read)
  pub short : is_too_short percent had has ≡ true

-- Why the content of a file is refused: there is no such file, it is not read, or it is too short.
abbrev pub IsRefusedWithin : Option ℕ → Option ℕ → List ℕ → ℕ → ℕ → List Listed → TakeFault → Type 0
IsRefusedWithin max_age guard bytes now i lists (Shrank percent had has) = (guard ≡ Some percent) × IsShrunk max_age percent bytes now i lists had has
IsRefusedWithin max_age guard bytes now i lists fault = IsRefused max_age bytes now i lists fault

-- The content of a file is replaced as a whole, by one that the guard does not refuse. Or nothing changes.
abbrev pub TakesWithin : Option ℕ → Option ℕ → List ℕ → ℕ → ℕ → Result ℕ TakeFault → List Listed → List Listed → Type 0
TakesWithin max_age guard bytes now i (Ok expired) old new =
    (i < length old) × ((l : Listed) × IsLoaded max_age bytes now expired l × (is_guarded guard (left_of now (slice_get old i)) (left_of now (Some l)) ≡ false) × (new ≡ slice_set old i l))
TakesWithin max_age guard bytes now i (Err fault) old new = IsRefusedWithin max_age guard bytes now i old fault × (new ≡ old)

-- What the sources keep of the content of a file
abbrev pub ExportTakenWithin : Option ℕ → List ℕ → ℕ → ℕ → Result ℕ TakeFault → Sources → Sources → Type 0
ExportTakenWithin guard bytes now i result old new =
    TakesWithin old.max_age guard bytes now i result old.lists.items new.lists.items × (new.exceptions ≡ old.exceptions) × (new.repository ≡ old.repository) × SameSettings old new
