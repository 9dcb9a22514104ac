use Rattle.std.proofs.Common.{◌+◌, ◌*◌, length}
use Rattle.signed_objects.specs.PartReading.{end_of}
use Rattle.signed_objects.specs.BerReading.{element_in}
use Rattle.signed_objects.proofs.Going.{Going}
use Rattle.signed_objects.proofs.ber.+ber.Given as goal

abbrev pub decreases-element : goal.decreases-element
decreases-element l = 4 * l.levels

abbrev pub decreases-members : goal.decreases-members
decreases-members l = 4 * l.levels + 1

abbrev pub decreases-contents : goal.decreases-contents
decreases-contents l = 4 * l.levels + 2

abbrev pub decreases-level : goal.decreases-level
decreases-level l = 4 * l.levels + 3

-- the elements so far
abbrev pub invariant-members-loop-alloc : goal.invariant-members-loop-alloc
invariant-members-loop-alloc l = Going (end_of l.is_closed) (element_in l.levels l.form) l.initial.cursor l.out.items l.cursor

-- less remains
abbrev pub decreases-members-loop-alloc : goal.decreases-members-loop-alloc
decreases-members-loop-alloc l = length l.cursor.rest
