-- The numbers of all entries of one action, as sets.
use Rattle.std.specs.Prelude.{◌≡◌, ◌↔◌, ◌⊎◌, ℕ, ◌||◌, List}
use Rattle.resources.specs.declared.kind.ResourceKind.{ResourceKind}
use Rattle.resources.specs.declared.kind.ResourceKind.TheVariants.{Ipv4, Ipv6, As}
use Rattle.resources.specs.declared.range.ResourceRange.{ResourceRange}
use Rattle.resources.specs.Ranges.{Covers, IsIn}
use Rattle.constraints.specs.declared.action.ConstraintAction.{ConstraintAction}
use Rattle.constraints.specs.declared.constraint.Constraint.{Constraint}
use Rattle.constraints.specs.declared.gathered.Gathered.{Gathered}
use Rattle.constraints.specs.Judging.{is_ip, is_as, Lists, has}

-- the set of a kind
abbrev pub set_of : Gathered → ResourceKind → List ResourceRange
set_of g Ipv4 = g.v4
set_of g Ipv6 = g.v6
set_of g As = g.numbers

-- what was gathered, and the numbers of one entry
pub record Adds (old : Gathered) (e : Constraint) (new : Gathered) : Type 0 where
  pub covers : (kind : ResourceKind) (n : ℕ) → Covers (set_of new kind) n ↔ (((e.kind ≡ kind) × IsIn e.range n) ⊎ Covers (set_of old kind) n)
  pub some_ip : new.some_ip ≡ (is_ip e.kind || old.some_ip)
  pub some_as : new.some_as ≡ (is_as e.kind || old.some_as)

-- what was gathered, and the numbers of all entries of this action
pub record AddsAll (action : ConstraintAction) (old : Gathered) (entries : List Constraint) (new : Gathered) : Type 0 where
  pub covers : (kind : ResourceKind) (n : ℕ) → Covers (set_of new kind) n ↔ (Lists action kind entries n ⊎ Covers (set_of old kind) n)
  pub some_ip : new.some_ip ≡ (has action is_ip entries || old.some_ip)
  pub some_as : new.some_as ≡ (has action is_as entries || old.some_as)

-- the numbers of all entries of this action
pub record Gathers (action : ConstraintAction) (entries : List Constraint) (g : Gathered) : Type 0 where
  pub covers : (kind : ResourceKind) (n : ℕ) → Covers (set_of g kind) n ↔ Lists action kind entries n
  pub some_ip : g.some_ip ≡ has action is_ip entries
  pub some_as : g.some_as ≡ has action is_as entries
