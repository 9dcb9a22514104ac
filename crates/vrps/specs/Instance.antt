-- What a cache publishes under one session (RFC 8210 sections 2 and 5.1).
use Rattle.std.specs.Prelude.{◌≢◌, ℕ, ◌<◌, ◌^◌, ◌==◌, List, [], ◌∷◌, length, find, Option, option_and_then, ⊤}
use Rattle.std.specs.Option.{option_map}
use Rattle.std.specs.List.{AllByRecursion}
use Rattle.vrps.specs.VrpSet.{VrpSet, IsVrpSet}
use Rattle.vrps.specs.Serial.{serial_at}

-- An instance of a cache: its sessions in versions 1 and 0 of the protocol, the serial of its first version, and the sets that it
-- published, the newest first
pub record Instance : Type 0 where
  pub session : ℕ
  pub session0 : ℕ
  pub start : ℕ
  pub sets : List VrpSet

-- a published set with its serial
pub record NumberedSet : Type 0 where
  pub serial : ℕ
  pub set : VrpSet

-- Each version under its serial, the newest first. The oldest set has position 0.
abbrev pub versions_from : ℕ → List VrpSet → List NumberedSet
versions_from start [] = []
versions_from start (set ∷ older) = record { serial = serial_at start (length older); set = set } ∷ versions_from start older

abbrev pub versions : Instance → List NumberedSet
versions i = versions_from i.start i.sets

-- No set equals the one published before it.
abbrev pub AreNews : List VrpSet → Type 0
AreNews [] = ⊤
AreNews (set ∷ []) = ⊤
AreNews (set ∷ before ∷ older) = (set ≢ before) × AreNews (before ∷ older)

pub record IsInstance (i : Instance) : Type 0 where
  pub session : i.session < 2 ^ 16
  pub session0 : i.session0 < 2 ^ 16
  pub start : i.start < 2 ^ 32
  pub sets : AllByRecursion IsVrpSet i.sets
  pub news : AreNews i.sets

-- the newest of these versions that has this serial
abbrev pub with_serial : ℕ → List NumberedSet → Option NumberedSet
with_serial serial vs = find (λ v. v.serial == serial) vs

-- What was published under a session and a serial: the newest such set of the instance that has that session in a version of the
-- protocol, as `session_of` says. The newest instance comes first.
abbrev pub named : (Instance → ℕ) → List Instance → ℕ → ℕ → Option VrpSet
named session_of instances session serial =
    option_and_then (λ i. option_map (λ v. v.set) (with_serial serial (versions i))) (find (λ i. session_of i == session) instances)
