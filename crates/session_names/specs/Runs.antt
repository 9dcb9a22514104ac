-- The runs of a daemon, and the serials of their versions (RFC 1982; RFC 8210 section 5.1). Times are seconds since 1970.
use Rattle.std.specs.Prelude.{◌≡◌, ℕ, ◌+◌, ◌^◌, ◌<◌, ◌≤◌, nat_lt, Bool, true, List, [], ◌∷◌, length, Option, None, Some, All, ⊤}
use Rattle.vrps.specs.Serial.{serial_at, is_before}
use Rattle.session_names.specs.Names.{first_serial}

-- A version may be published in a later second than the one before.
abbrev pub may_publish : Option ℕ → ℕ → Bool
may_publish None now = true
may_publish (Some last) now = nat_lt last now

-- Each version was published when it might be: the times ascend strictly.
abbrev pub ArePaced : Option ℕ → List ℕ → Type 0
ArePaced last [] = ⊤
ArePaced last (now ∷ later) = (may_publish last now ≡ true) × ArePaced (Some now) later

-- when a daemon started, and when it published its versions
pub record Run : Type 0 where
  pub start : ℕ
  pub moments : List ℕ

-- The first version was published at the start or later,
pub record IsRun (run : Run) : Type 0 where
  pub paced : ArePaced None run.moments
  pub begun : All (λ now. run.start ≤ now) run.moments

-- or in a later second than the start.
abbrev pub WaitsASecond : Run → Type 0
WaitsASecond run = ArePaced (Some run.start) run.moments

-- the serial of a version of a run, counted from 0
abbrev pub serial_in : Run → ℕ → ℕ
serial_in run i = serial_at (first_serial run.start) i

-- By RFC 1982 each serial of the second run is later than each of the first.
abbrev pub AllSerialsLater : Run → Run → Type 0
AllSerialsLater first second =
    (i j : ℕ) → i < length first.moments → j < length second.moments → is_before (serial_in first i) (serial_in second j) ≡ true

-- Both runs lie within 2^31 seconds.
abbrev pub WithinHalf : Run → Run → Type 0
WithinHalf first second = All (λ now. now < first.start + 2 ^ 31) second.moments

-- A restart empties no router. This holds if the second run started in a later second than each version of the first.
abbrev pub RestartIsLater : Type 0
RestartIsLater =
    (first second : Run) → IsRun first → IsRun second → All (λ now. now < second.start) first.moments → WithinHalf first second
    → AllSerialsLater first second

-- If each run waits a second with its first version, it also holds if the second started in the second of the first run's last version.
abbrev pub RestartAtOnceIsLater : Type 0
RestartAtOnceIsLater =
    (first second : Run) → WaitsASecond first → WaitsASecond second → All (λ now. now ≤ second.start) first.moments → WithinHalf first second
    → AllSerialsLater first second
