use Rattle.std.proofs.Common.{ℕ, ◌+◌, ◌≤◌, List, length}
use Rattle.std.specs.Str.Lines.{lines}
use Rattle.constraints.specs.declared.constraint.Constraint.{Constraint}
use Rattle.constraints.proofs.FileLaws.{Read}
use Rattle.constraints.proofs.file.read_entries.Given as goal

-- what is left decides
pub record IsLeft (bytes rest : List ℕ) (entries : List Constraint) (number : ℕ) : Type 0 where
  pub read : Read (lines bytes) entries number (lines rest)
  pub counted : number + length rest ≤ length bytes + 1

abbrev pub invariant-loop-line : goal.invariant-loop-line
invariant-loop-line l = IsLeft l.fn.bytes l.rest l.entries.items l.number

-- less is left
abbrev pub decreases-loop-line : goal.decreases-loop-line
decreases-loop-line l = length l.rest
