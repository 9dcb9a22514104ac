use Rattle.std.proofs.Common.{◌≡◌, ◌++◌, drop}
use Rattle.std.specs.List.Sorted.{IsStrictlySortedBy}
use Rattle.prefixes.specs.Payload.{vrp_cmp}
use Rattle.vrps.specs.Change.{apply}
use Rattle.vrps.specs.VrpSet.{listing}
use Rattle.vrps.specs.Walk.{led}
use Rattle.vrps.proofs.change.applied.Given as goal

-- What was found and what is to come make up the members.
abbrev pub invariant-loop-vrp : goal.invariant-loop-vrp
invariant-loop-vrp l = record {
  items : l.items.items ++ led (drop l.vrp-index l.members) l.withdraw l.announce ≡ listing (apply l.change l.set);
  withdraw : IsStrictlySortedBy vrp_cmp l.withdraw;
  announce : IsStrictlySortedBy vrp_cmp l.announce;
}
