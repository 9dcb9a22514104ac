use Rattle.std.proofs.Common.{◌≡◌}
use Rattle.vrps.proofs.gathered.listed.Given as goal

abbrev pub invariant-loop-vrp : goal.invariant-loop-vrp
invariant-loop-vrp l = l.items.items ≡ l.yielded
