-- Steps of a log and the groups of records, worked out.
use Rattle.std.proofs.Common.{◌≡◌, ℕ, List, [], ◌∷◌, Option, Some, None, Err, refl}
use Rattle.std.specs.declared.alloc.AllocError.{AllocError}
use Rattle.vrps.specs.Change.{between}
use Rattle.vrps.specs.Instance.{Instance}
use Rattle.vrps.specs.Stores.{Publishes}
use Rattle.vrps.specs.Steps.{kept_step}
use Rattle.vrps.specs.Search.{digit_count}
use Rattle.vrps.specs.SetFaults.{set_fault_number, path_fault_number}
use Rattle.vrps.specs.declared.path.PathFault.TheVariants.{EmptySequence}
use Rattle.vrps.specs.declared.set.SetFault.TheVariants.{TooMany, Memory}
use Rattle.vrps.specs.VrpSet.{VrpSet}
use Rattle.vrps.specs.declared.change.Change.{Change}

abbrev KeptIs : ℕ → List VrpSet → ℕ → Option Change → Type 0
KeptIs keep sets place step = kept_step keep sets place ≡ step

-- four sets were published, and two steps are kept
oldest_kept : (a b c d : VrpSet) → KeptIs 2 (d ∷ c ∷ b ∷ a ∷ []) 0 (Some (between b c))
oldest_kept a b c d = refl

newest_kept : (a b c d : VrpSet) → KeptIs 2 (d ∷ c ∷ b ∷ a ∷ []) 1 (Some (between c d))
newest_kept a b c d = refl

past_the_kept : (a b c d : VrpSet) → KeptIs 2 (d ∷ c ∷ b ∷ a ∷ []) 2 None
past_the_kept a b c d = refl

-- all steps are kept if there is room for all
all_kept : (a b : VrpSet) → KeptIs 8 (b ∷ a ∷ []) 0 (Some (between a b))
all_kept a b = refl

none_before_the_first : (a : VrpSet) → KeptIs 8 (a ∷ []) 0 None
none_before_the_first a = refl

none_published : KeptIs 8 [] 0 None
none_published = refl

digits : (digit_count 0 ≡ 0) × (digit_count 1 ≡ 1) × (digit_count 2 ≡ 2) × (digit_count 255 ≡ 8) × (digit_count 256 ≡ 9)
digits = (refl, refl, refl, refl, refl)

numbers : (set_fault_number TooMany ≡ 1) × (set_fault_number Memory ≡ 2) × (path_fault_number EmptySequence ≡ 1)
numbers = (refl, refl, refl)

-- Without memory nothing is published: the store holds the instance that it held.
unpublished : (error : AllocError) (set : VrpSet) (i : Instance) → Publishes {S = Unit {0}} (λ j store. j ≡ i) (Err error) set i tt
unpublished error set i = refl

-- and not anything
unpublished_alone : (error : AllocError) (set : VrpSet) (i : Instance) → ¬ (Publishes {S = Unit {0}} (λ j store. ⊥) (Err error) set i tt)
unpublished_alone error set i stands = stands
