-- Steps of a walk over ascending lists.
use Rattle.std.specs.Prelude.{◌≡◌, Bool, List, ◌∷◌, ◌++◌, if◌then◌else◌}
use Rattle.std.specs.List.{AllByRecursion}
use Rattle.std.specs.declared.cmp.Ordering.TheVariants.{Less}
use Rattle.prefixes.specs.Payload.{Payload, vrp_cmp}
use Rattle.vrps.specs.VrpSet.{listing, set_of, union, without}

-- An ascending list, cut at a record: those below it, whether it is there, and those above it.
pub record IsCut (records : List Payload) (at : Payload) (below : List Payload) (found : Bool) (above : List Payload) : Type 0 where
  pub parts : records ≡ below ++ (if found then at ∷ above else above)
  pub below_it : AllByRecursion (λ v. vrp_cmp v at ≡ Less) below
  pub above_it : AllByRecursion (λ v. vrp_cmp at v ≡ Less) above

-- the records of one list that are none of another, in ascending order
abbrev pub left_out : List Payload → List Payload → List Payload
left_out vs ws = listing (without (set_of vs) (set_of ws))

-- the records of one list without those of a second, together with those of a third, in ascending order
abbrev pub led : List Payload → List Payload → List Payload → List Payload
led vs ws zs = listing (union (without (set_of vs) (set_of ws)) (set_of zs))
