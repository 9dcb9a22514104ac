-- What an offer to a publication point changes.
use Rattle.std.specs.Prelude.{◌≡◌, ◌⊎◌, ◌<◌, ℕ, List, [], ◌∷◌, IfSome, map, ⊤, Result, Err}
use Rattle.std.specs.String.{string_bytes}
use Rattle.der_lite.specs.Moments.{CivilMoment}
use Rattle.der_lite.specs.Seconds.{seconds_of}
use Rattle.event_log.specs.Clock.{last_second}
use Rattle.points.specs.Answers.{BecomesAt, told_by}
use Rattle.points.specs.InUse.{accepted_at}
use Rattle.points.specs.Offers.{Judged}
use Rattle.points.specs.declared.fault.Offered.{Offered}
use Rattle.points.specs.declared.fault.PointFault.{PointFault}
use Rattle.points.specs.declared.fault.PointFault.TheVariants.{Memory}
use Rattle.points.specs.declared.file.FileIn.{FileIn}
use Rattle.payload_commands.specs.Directories.{Supplies}
use Rattle.payload_commands.specs.declared.directories.Directory.{Directory}
use Rattle.sources.specs.Served.{SameSettings}
use Rattle.sources.specs.declared.sources.Sources.{Sources}
use Rattle.rtr_daemon.specs.DiskAnswers.{DirectoryFails, DiskAnswers}
use Rattle.rtr_daemon.specs.declared.point_polling.WatchedPoint.{WatchedPoint}
use Rattle.rtr_daemon.specs.declared.refusal.Refusal.{Refusal}
use Rattle.rtr_daemon.specs.declared.refusal.Refusal.TheVariants.{Clock, Point}

-- What a directory has was offered to the publication point of its name, at a time in seconds since 1970, and judged (RFC 9286 section 6). Then that
-- point holds what was accepted; all else is unchanged.
pub record IsOffered (directory : Directory) (now : ℕ) (old new : Sources) : Type 0 where
  pub files : List FileIn
  pub supplied : Supplies directory files
  pub at : CivilMoment
  pub second : seconds_of at ≡ now
  pub answer : Result Offered PointFault
  pub judged : IfSome (told_by answer) (Judged (accepted_at old.repository directory.name.now) directory.manifest.items files at)
  pub becomes : BecomesAt answer directory.name.now old.repository new.repository directory.manifest.items files
  pub lists : new.lists ≡ old.lists
  pub exceptions : new.exceptions ≡ old.exceptions
  pub settings : SameSettings old new

-- Why nothing could be offered: the time is after the year 9999, or memory ran out.
abbrev pub HasNoOffer : ℕ → Result Offered Refusal → Type 0
HasNoOffer now (Err Clock) = last_second < now
HasNoOffer now (Err (Point Memory)) = ⊤
HasNoOffer now result = ⊥

-- An offer was judged, or there was none for a reason.
abbrev pub OffersTo : Directory → ℕ → Result Offered Refusal → Sources → Sources → Type 0
OffersTo directory now result old new = IsOffered directory now old new ⊎ (HasNoOffer now result × (new ≡ old))

-- the path of each publication point
abbrev pub points_of : List WatchedPoint → List (List ℕ)
points_of points = map (λ point. string_bytes point.path) points

-- The directory at a path was offered at this time, or it cannot be read, and nothing has changed.
abbrev pub OffersPoint : {W : Type 0} → DiskAnswers W → List ℕ → ℕ → Sources → Sources → Type 0
OffersPoint answers path now old new = (DirectoryFails answers path × (new ≡ old)) ⊎ ((directory : Directory) × answers.directories path directory × (result : Result Offered Refusal) × OffersTo directory now result old new)

-- Each directory was offered in its turn, at a second that the clock answered.
abbrev pub OffersEach : {W : Type 0} → DiskAnswers W → (ℕ → Type 0) → List WatchedPoint → Sources → Sources → Type 0
OffersEach answers clock [] old new = new ≡ old
OffersEach answers clock (point ∷ points) old new = (now : ℕ) × (between : Sources) × clock now × OffersPoint answers (string_bytes point.path) now old between × OffersEach answers clock points between new
