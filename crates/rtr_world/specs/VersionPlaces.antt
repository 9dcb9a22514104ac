-- The places of versions among all that a cache ever published.
use Rattle.std.specs.Prelude.{◌≡◌, ◌⊎◌, ℕ, ◌<◌, ◌≤◌, ◌==◌, List, [], ◌∷◌, length, Option, Some, None, if◌then◌else◌, ⊤}
use Rattle.std.specs.Option.{option_map}
use Rattle.vrps.specs.Instance.{Instance, NumberedSet, versions}
use Rattle.rtr_ends.specs.Answer.{session_in}
use Rattle.rtr_ends.specs.Transcript.{Committed}

-- how many instances came before, and how many versions of this one
pub record VersionPlace : Type 0 where
  pub instance : ℕ
  pub position : ℕ

-- the place of the newest version of this serial, the newest first
abbrev pub position_of : ℕ → List NumberedSet → Option ℕ
position_of serial [] = None
position_of serial (version ∷ older) = if version.serial == serial then Some (length older) else position_of serial older

-- the place of what `named` names
abbrev pub place_named : (Instance → ℕ) → List Instance → ℕ → ℕ → Option VersionPlace
place_named session_of [] session serial = None
place_named session_of (i ∷ older) session serial =
    if session_of i == session
    then option_map (λ position. record { instance = length older; position = position }) (position_of serial (versions i))
    else place_named session_of older session serial

abbrev pub version_place_of : List Instance → Option Committed → Option VersionPlace
version_place_of instances None = None
version_place_of instances (Some held) = place_named (session_in held.version) instances held.session held.serial

-- both are places, and the first is the second or was published before it
abbrev pub IsNotAfter : Option VersionPlace → Option VersionPlace → Type 0
IsNotAfter (Some a) (Some b) = (a.instance < b.instance) ⊎ ((a.instance ≡ b.instance) × (a.position ≤ b.position))
IsNotAfter a b = ⊥

-- Each is a place, and none was published before one that was committed earlier. The last comes first.
abbrev pub NeverBack : List (Option VersionPlace) → Type 0
NeverBack [] = ⊤
NeverBack (last ∷ []) = IsNotAfter last last
NeverBack (last ∷ before ∷ earlier) = IsNotAfter before last × NeverBack (before ∷ earlier)
