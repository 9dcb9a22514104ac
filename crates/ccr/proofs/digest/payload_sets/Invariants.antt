use Rattle.std.proofs.Common.{◌≡◌, ◌+◌, ◌*◌, ◌≤◌, ◌++◌, length}
use Rattle.ccr.specs.Canonical.{payload_sets}
use Rattle.ccr.proofs.Groups.{Ascend}
use Rattle.ccr.proofs.digest.payload_sets.Given as goal

-- the sets so far and those of the rest are all
abbrev pub invariant-loop-rest : goal.invariant-loop-rest
invariant-loop-rest l = record {
  all : l.sets ++ payload_sets l.rest ≡ payload_sets l.fn.list;
  ascend : Ascend l.rest;
  within : length l.rest ≤ length l.fn.list;
  short : length l.sets + 200 * length l.rest ≤ 200 * length l.fn.list;
}

abbrev pub decreases-loop-rest : goal.decreases-loop-rest
decreases-loop-rest l = length l.rest
