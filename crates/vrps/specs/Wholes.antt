-- What a log of whole sets has.
use Rattle.std.specs.Prelude.{◌≡◌, ℕ, suc, ◌+◌, ◌%◌, ◌<◌, ◌^◌, List, length, take}
use Rattle.vrps.specs.Instance.{Instance}
use Rattle.vrps.specs.Serial.{serial_at}
use Rattle.vrps.specs.VrpSet.{VrpSet}

-- Of an instance a log has the session, the serial of the next version, and the newest sets: the current one and the keep before it.
pub record HoldsSets (keep : ℕ) (i : Instance) (session next : ℕ) (sets : List VrpSet) : Type 0 where
  pub session_is : session ≡ i.session
  pub start : i.start < 2 ^ 32
  pub next_is : next ≡ serial_at i.start (length i.sets)
  pub sets_are : sets ≡ take (suc keep) i.sets

-- The version of a serial is as far behind the one before the next as their serials say.
pub record IsBehind (next serial behind : ℕ) : Type 0 where
  pub serial_fits : serial < 2 ^ 32
  pub fits : behind < 2 ^ 32
  pub is : next ≡ (serial + behind + 1) % 2 ^ 32
