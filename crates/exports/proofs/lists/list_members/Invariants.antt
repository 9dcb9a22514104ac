use Rattle.std.proofs.Common.{length}
use Rattle.exports.specs.ListForm.{HoldsEntry}
use Rattle.exports.proofs.PlainSteps.{Begun}
use Rattle.exports.proofs.lists.list_members.Given as goal

-- what was found in the members so far
abbrev pub invariant-loop-key : goal.invariant-loop-key
invariant-loop-key l = Begun 125 (λ f ms. HoldsEntry ms l.found) l.initial.reader l.reader

abbrev pub decreases-loop-key : goal.decreases-loop-key
decreases-loop-key l = length l.reader
