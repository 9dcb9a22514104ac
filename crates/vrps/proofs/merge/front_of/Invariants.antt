use Rattle.std.proofs.Common.{◌≡◌, ◌≤◌, ◌+◌, length}
use Rattle.std.specs.List.Sorted.{IsStrictlySortedBy}
use Rattle.prefixes.specs.Payload.{vrp_cmp}
use Rattle.vrps.specs.Walk.{left_out}
use Rattle.vrps.proofs.merge.front_of.Given as goal

-- What was skipped is in both.
abbrev pub invariant-loop-rest_s : goal.invariant-loop-rest_s
invariant-loop-rest_s l = record {
  only_s : left_out l.rest_s l.rest_t ≡ left_out l.s l.t;
  only_t : left_out l.rest_t l.rest_s ≡ left_out l.t l.s;
  s_ascends : IsStrictlySortedBy vrp_cmp l.rest_s;
  t_ascends : IsStrictlySortedBy vrp_cmp l.rest_t;
  fewer : length l.rest_s + length l.rest_t ≤ length l.s + length l.t;
}

abbrev pub decreases-loop-rest_s : goal.decreases-loop-rest_s
decreases-loop-rest_s l = length l.rest_s
