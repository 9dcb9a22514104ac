use Rattle.std.proofs.Common.{◌≡◌, ◌++◌, drop}
use Rattle.std.specs.List.Sorted.{IsStrictlySortedBy}
use Rattle.prefixes.specs.Payload.{vrp_cmp}
use Rattle.vrps.specs.Walk.{left_out}
use Rattle.vrps.proofs.change.differences.Given as goal

-- What was found and what is to come make up each difference.
abbrev pub invariant-loop-vrp : goal.invariant-loop-vrp
invariant-loop-vrp l = record {
  only_s : l.only_s.items ++ left_out (drop l.vrp-index l.s) l.rest ≡ left_out l.s l.t;
  only_t : l.only_t.items ++ left_out l.rest (drop l.vrp-index l.s) ≡ left_out l.t l.s;
  ascends : IsStrictlySortedBy vrp_cmp l.rest;
}
