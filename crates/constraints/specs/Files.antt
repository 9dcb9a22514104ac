-- What a file of constraints says.
use Rattle.std.specs.Prelude.{◌≡◌, ◌⊎◌, ℕ, ◌+◌, List, [], ◌∷◌, ◌++◌, Option, Some, None, Result, Ok, Err}
use Rattle.std.specs.Str.Lines.{lines}
use Rattle.constraints.specs.declared.fault.ConstraintFaultKind.{ConstraintFaultKind}
use Rattle.constraints.specs.declared.fault.ConstraintsError.{ConstraintsError}
use Rattle.constraints.specs.declared.fault.ConstraintsError.TheVariants.{At, Memory}
use Rattle.constraints.specs.declared.constraint.Constraint.{Constraint}
use Rattle.constraints.specs.declared.entry.Entry.{Entry}
use Rattle.constraints.specs.Entries.{ReadsLine}

-- an entry, with its line, before others
abbrev pub listed : ℕ → Option Entry → List Constraint → List Constraint
listed line None more = more
listed line (Some e) more = record { line = line; action = e.action; kind = e.numbers.kind; range = e.numbers.range } ∷ more

-- an entry before what follows it, or the fault of that
abbrev pub before : ℕ → Option Entry → Result (List Constraint) ConstraintsError → Result (List Constraint) ConstraintsError
before line entry (Ok more) = Ok (listed line entry more)
before line entry (Err fault) = Err fault

-- Lines from a number on: the entries in their order, or the first fault with its line.
abbrev pub ReadsLines : ℕ → List (List ℕ) → Result (List Constraint) ConstraintsError → Type 0
ReadsLines n [] r = r ≡ Ok []
ReadsLines n (line ∷ more) r =
    ((fault : ConstraintFaultKind) × ReadsLine line (Err fault) × (r ≡ Err (At fault n)))
    ⊎ ((entry : Option Entry) × (rest : Result (List Constraint) ConstraintsError) × ReadsLine line (Ok entry) × ReadsLines (n + 1) more rest × (r ≡ before n entry rest))

-- A file: its lines end in LF or CRLF, the last one may lack that, and the first one has number 1.
abbrev pub ReadsFile : List ℕ → Result (List Constraint) ConstraintsError → Type 0
ReadsFile bytes (Err Memory) = Unit {0}
ReadsFile bytes r = ReadsLines 1 (lines bytes) r

-- What one line adds to the entries before it, or its fault.
abbrev pub TakesLine : ℕ → List ℕ → List Constraint → Result (Unit {0}) ConstraintsError → List Constraint → Type 0
TakesLine n line old (Ok _) new = (entry : Option Entry) × ReadsLine line (Ok entry) × (new ≡ old ++ listed n entry [])
TakesLine n line old (Err (At fault m)) new = ReadsLine line (Err fault) × (m ≡ n)
TakesLine n line old (Err Memory) new = Unit {0}
