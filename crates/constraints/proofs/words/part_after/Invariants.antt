use Rattle.std.proofs.Common.{◌≡◌, ◌≤◌, ℕ, Bool, List, length}
use Rattle.constraints.specs.Words.{from}
use Rattle.constraints.specs.Stops.{stops}
use Rattle.constraints.proofs.words.part_after.Given as goal

-- what is left decides
pub record IsLeft (p : ℕ → Bool) (rest bytes : List ℕ) : Type 0 where
  pub value : from p bytes ≡ from p rest
  pub shorter : length rest ≤ length bytes

abbrev pub invariant-loop-rest : goal.invariant-loop-rest
invariant-loop-rest l = IsLeft (stops l.stop) l.rest l.fn.bytes

-- less is left
abbrev pub decreases-loop-rest : goal.decreases-loop-rest
decreases-loop-rest l = length l.rest
