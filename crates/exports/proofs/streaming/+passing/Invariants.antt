use Rattle.std.proofs.Common.{◌+◌, ◌*◌, length}
use Rattle.std.specs.Prelude.{⊤}
use Rattle.exports.proofs.PlainSteps.{Begun, BegunItems}
use Rattle.exports.proofs.streaming.+passing.Given as goal

abbrev pub decreases-read_value : goal.decreases-read_value
decreases-read_value l = 4 * l.depth + 2

abbrev pub decreases-read_rest : goal.decreases-read_rest
decreases-read_rest l = 4 * l.depth + 1

abbrev pub decreases-read_array : goal.decreases-read_array
decreases-read_array l = 4 * l.depth

abbrev pub decreases-read_object : goal.decreases-read_object
decreases-read_object l = 4 * l.depth

abbrev pub decreases-pass_items : goal.decreases-pass_items
decreases-pass_items l = 4 * l.depth + 3

abbrev pub decreases-pass_members : goal.decreases-pass_members
decreases-pass_members l = 4 * l.depth + 3

abbrev pub invariant-pass_items-loop-reader : goal.invariant-pass_items-loop-reader
invariant-pass_items-loop-reader l = BegunItems l.depth (λ f ds. ⊤) l.initial.reader l.reader

abbrev pub decreases-pass_items-loop-reader : goal.decreases-pass_items-loop-reader
decreases-pass_items-loop-reader l = length l.reader

abbrev pub invariant-pass_members-loop-reader : goal.invariant-pass_members-loop-reader
invariant-pass_members-loop-reader l = Begun l.depth (λ f ms. ⊤) l.initial.reader l.reader

abbrev pub decreases-pass_members-loop-reader : goal.decreases-pass_members-loop-reader
decreases-pass_members-loop-reader l = length l.reader
