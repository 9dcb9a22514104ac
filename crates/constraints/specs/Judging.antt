-- Which addresses and AS numbers the entries of a file allow and deny.
use Rattle.std.specs.Prelude.{◌≡◌, ◌⊎◌, ℕ, Bool, true, false, ◌&&◌, ◌||◌, List, [], ◌∷◌, Option, Some, None, Result, Ok, Err}
use Rattle.resources.specs.declared.kind.ResourceKind.{ResourceKind}
use Rattle.resources.specs.declared.kind.ResourceKind.TheVariants.{Ipv4, Ipv6, As}
use Rattle.resources.specs.declared.range.ResourceRange.{ResourceRange}
use Rattle.resources.specs.Ranges.{Covers, IsIn, Overlap}
use Rattle.constraints.specs.declared.action.ConstraintAction.{ConstraintAction}
use Rattle.constraints.specs.declared.action.ConstraintAction.TheVariants.{Allow, Deny}
use Rattle.constraints.specs.declared.constraint.Constraint.{Constraint}
use Rattle.constraints.specs.declared.refusal.ConstraintRefusal.{ConstraintRefusal}
use Rattle.constraints.specs.declared.refusal.ConstraintRefusal.TheVariants.{Denied, NotAllowed}

-- what is judged: ranges of each kind
pub record Sets : Type 0 where
  pub v4 : List ResourceRange
  pub v6 : List ResourceRange
  pub numbers : List ResourceRange

abbrev pub in_kind : Sets → ResourceKind → List ResourceRange
in_kind sets Ipv4 = sets.v4
in_kind sets Ipv6 = sets.v6
in_kind sets As = sets.numbers

-- the addresses of a certificate, without AS numbers
abbrev pub ip_sets : List ResourceRange → List ResourceRange → Sets
ip_sets v4 v6 = record { v4 = v4; v6 = v6; numbers = [] }

-- AS numbers, without addresses
abbrev pub as_sets : List ResourceRange → Sets
as_sets numbers = record { v4 = []; v6 = []; numbers = numbers }

-- IPv4 and IPv6 are of one family of entries; AS numbers are apart.
abbrev pub is_ip : ResourceKind → Bool
is_ip Ipv4 = true
is_ip Ipv6 = true
is_ip As = false

abbrev pub is_as : ResourceKind → Bool
is_as Ipv4 = false
is_as Ipv6 = false
is_as As = true

abbrev pub same_action : ConstraintAction → ConstraintAction → Bool
same_action Allow Allow = true
same_action Deny Deny = true
same_action Allow Deny = false
same_action Deny Allow = false

-- A number of this kind is in an entry of this action.
abbrev pub Lists : ConstraintAction → ResourceKind → List Constraint → ℕ → Type 0
Lists action kind [] n = ⊥
Lists action kind (e ∷ more) n = ((e.action ≡ action) × (e.kind ≡ kind) × IsIn e.range n) ⊎ Lists action kind more n

-- there is an entry of this action whose kind passes
abbrev pub has : ConstraintAction → (ResourceKind → Bool) → List Constraint → Bool
has action passes [] = false
has action passes (e ∷ more) = (same_action e.action action && passes e.kind) || has action passes more

-- An entry denies, and has a number in common with what is judged.
abbrev pub Denies : Sets → Constraint → Type 0
Denies sets e = (e.action ≡ Deny) × Overlap (e.range ∷ []) (in_kind sets e.kind)

-- The line of the first entry, in the order of the file, that denies; none, if no entry does.
abbrev pub FirstDenial : Sets → List Constraint → Option ℕ → Type 0
FirstDenial sets [] line = line ≡ None
FirstDenial sets (e ∷ more) line = (Denies sets e × (line ≡ Some e.line)) ⊎ (¬ (Denies sets e) × FirstDenial sets more line)

-- Each number that is judged is in an entry that allows.
abbrev pub AreAllowed : Sets → List Constraint → Type 0
AreAllowed sets entries = (kind : ResourceKind) (n : ℕ) → Covers (in_kind sets kind) n → Lists Allow kind entries n

-- The verdict: the line of the first entry that denies; otherwise, if there are entries that allow, whether all is in these.
abbrev pub Judges : (ResourceKind → Bool) → Sets → List Constraint → Result (Unit {0}) ConstraintRefusal → Type 0
Judges passes sets entries (Err (Denied line)) = FirstDenial sets entries (Some line)
Judges passes sets entries (Err NotAllowed) = FirstDenial sets entries None × (has Allow passes entries ≡ true) × ¬ (AreAllowed sets entries)
Judges passes sets entries (Ok _) = FirstDenial sets entries None × ((has Allow passes entries ≡ false) ⊎ AreAllowed sets entries)
