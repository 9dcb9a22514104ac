use Rattle.std.proofs.Common.{◌≡◌, length}
use Rattle.exports.proofs.PlainSteps.{BegunItems}
use Rattle.exports.proofs.counting.count_items.Given as goal

-- how many the items so far are
abbrev pub invariant-loop-count : goal.invariant-loop-count
invariant-loop-count l = BegunItems 125 (λ f ds. length ds ≡ l.count) l.initial.reader l.reader

abbrev pub decreases-loop-count : goal.decreases-loop-count
decreases-loop-count l = length l.reader
