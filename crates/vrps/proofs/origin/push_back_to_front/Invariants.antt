use Rattle.std.proofs.Common.{◌≡◌, ◌++◌, reverse, take}
use Rattle.vrps.proofs.origin.push_back_to_front.Given as goal

abbrev pub invariant-loop-index : goal.invariant-loop-index
invariant-loop-index l = l.found.items ≡ l.fn.found.items ++ take l.index (reverse l.group)
