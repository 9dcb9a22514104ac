-- What holds of the definitions of constraints.
use Rattle.std.specs.Prelude.{◌≡◌, ◌≢◌, ℕ, Bool, List, Result, Err}
use Rattle.resources.specs.declared.kind.ResourceKind.{ResourceKind}
use Rattle.constraints.specs.declared.constraint.Constraint.{Constraint}
use Rattle.constraints.specs.declared.fault.ConstraintsError.{ConstraintsError}
use Rattle.constraints.specs.declared.fault.ConstraintsError.TheVariants.{Memory}
use Rattle.constraints.specs.declared.refusal.ConstraintRefusal.{ConstraintRefusal}
use Rattle.constraints.specs.Files.{ReadsFile}
use Rattle.constraints.specs.Judging.{Sets, Judges}

-- A file says one thing: entries, or one first fault.
abbrev pub OneReading : Type 0
OneReading = (bytes : List ℕ) (r s : Result (List Constraint) ConstraintsError) → r ≢ Err Memory → s ≢ Err Memory → ReadsFile bytes r → ReadsFile bytes s → r ≡ s

-- Entries judge in one way.
abbrev pub OneVerdict : Type 0
OneVerdict = (passes : ResourceKind → Bool) (sets : Sets) (entries : List Constraint) (r s : Result (Unit {0}) ConstraintRefusal) → Judges passes sets entries r → Judges passes sets entries s → r ≡ s
