use Rattle.std.proofs.Common.{◌≡◌, length}
use Rattle.der_lite.specs.Der.{number, IsBytes}
use Rattle.points.proofs.numbers.without_zeros.Given as goal

-- the zeros so far count nothing
abbrev pub invariant-loop-rest : goal.invariant-loop-rest
invariant-loop-rest l = record {
  value : number l.rest ≡ number l.bytes;
  bytes : IsBytes l.rest;
}

abbrev pub decreases-loop-rest : goal.decreases-loop-rest
decreases-loop-rest l = length l.rest
