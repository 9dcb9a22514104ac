-- What a line of a file of constraints says (rpki-client(8)).
use Rattle.std.specs.Prelude.{◌≡◌, ℕ, bytes_eq, codes, if◌then◌else◌, List, [], ◌∷◌, Option, Some, None, Result, Ok, Err}
use Rattle.constraints.specs.declared.fault.ConstraintFaultKind.{ConstraintFaultKind}
use Rattle.constraints.specs.declared.fault.ConstraintFaultKind.TheVariants.{Word}
use Rattle.constraints.specs.declared.action.ConstraintAction.{ConstraintAction}
use Rattle.constraints.specs.declared.action.ConstraintAction.TheVariants.{Allow, Deny}
use Rattle.constraints.specs.declared.value.Numbers.{Numbers}
use Rattle.constraints.specs.declared.entry.Entry.{Entry}
use Rattle.constraints.specs.Words.{uncommented, words}
use Rattle.constraints.specs.Values.{Then, ReadsValue}

abbrev pub allow : List ℕ
allow = codes "allow"

abbrev pub deny : List ℕ
deny = codes "deny"

abbrev pub action_of : List ℕ → Result ConstraintAction ConstraintFaultKind
action_of word = if bytes_eq word allow then Ok Allow else if bytes_eq word deny then Ok Deny else Err Word

abbrev pub entry_of : ConstraintAction → Numbers → Option Entry
entry_of action numbers = Some (record { action = action; numbers = numbers })

-- `allow` or `deny`, and a value
abbrev pub ReadsWords : List (List ℕ) → Result (Option Entry) ConstraintFaultKind → Type 0
ReadsWords [] r = r ≡ Ok None
ReadsWords (word ∷ more) r = Then (λ q. q ≡ action_of word) (λ action. Then (ReadsValue more) (λ numbers q. q ≡ Ok (entry_of action numbers))) r

-- A line is an entry, has no words, or has a fault. A comment may follow.
abbrev pub ReadsLine : List ℕ → Result (Option Entry) ConstraintFaultKind → Type 0
ReadsLine line r = ReadsWords (words (uncommented line)) r
