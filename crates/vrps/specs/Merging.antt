-- Changes as two ascending lists.
use Rattle.std.specs.Prelude.{◌≡◌, ◌≤◌, ◌+◌, ℕ, Bool, not, List, [], ◌∷◌, Option, Some, None, length, if◌then◌else◌}
use Rattle.std.specs.List.{AllByRecursion}
use Rattle.std.specs.declared.cmp.Ordering.TheVariants.{Less}
use Rattle.std.specs.List.Sorted.{IsStrictlySortedBy}
use Rattle.prefixes.specs.Payload.{Payload, vrp_cmp}
use Rattle.vrps.specs.VrpSet.{listing}
use Rattle.vrps.specs.Walk.{led, left_out}
use Rattle.vrps.specs.declared.change.Change.{Change}
use Rattle.vrps.specs.declared.merge.Lists.{Lists}

pub record Ascend (lists : Lists) : Type 0 where
  pub withdraw : IsStrictlySortedBy vrp_cmp lists.withdraw.items
  pub announce : IsStrictlySortedBy vrp_cmp lists.announce.items

-- the lists of a change
pub record AreLists (lists : Lists) (change : Change) : Type 0 where
  pub withdraw : lists.withdraw.items ≡ listing change.withdraw
  pub announce : lists.announce.items ≡ listing change.announce

-- One change and then another: what was withdrawn and is not announced again, and what is withdrawn and was not announced; and so of
-- what is announced.
pub record AreMerged (older newer lists : Lists) : Type 0 where
  pub withdraw : lists.withdraw.items ≡ led (left_out older.withdraw.items newer.announce.items) [] (left_out newer.withdraw.items older.announce.items)
  pub announce : lists.announce.items ≡ led (left_out older.announce.items newer.withdraw.items) [] (left_out newer.announce.items older.withdraw.items)

-- The records of a list, after the first one if there is one and it is of this list
abbrev pub first_and : Option Payload → Bool → List Payload → List Payload
first_and None here vs = vs
first_and (Some v) here vs = if here then v ∷ vs else vs

-- each of these is above the first record, and there are none if there is no first one
abbrev pub AreAfter : Option Payload → List Payload → Type 0
AreAfter None vs = vs ≡ []
AreAfter (Some v) vs = AllByRecursion (λ w. vrp_cmp v w ≡ Less) vs

abbrev pub count_of : Option Payload → ℕ
count_of None = 0
count_of (Some v) = 1

-- The first of the records that are in just one of two ascending lists, and what comes after it
pub record IsFront (s t : List Payload) (first : Option Payload) (of_s : Bool) (more_s more_t : List Payload) : Type 0 where
  pub only_s : left_out s t ≡ first_and first of_s (left_out more_s more_t)
  pub only_t : left_out t s ≡ first_and first (not of_s) (left_out more_t more_s)
  pub after_s : AreAfter first (left_out more_s more_t)
  pub after_t : AreAfter first (left_out more_t more_s)
  pub s_ascends : IsStrictlySortedBy vrp_cmp more_s
  pub t_ascends : IsStrictlySortedBy vrp_cmp more_t
  pub fewer : count_of first + (length more_s + length more_t) ≤ length s + length t
