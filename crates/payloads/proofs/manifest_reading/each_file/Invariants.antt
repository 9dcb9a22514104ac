use Rattle.std.proofs.Common.{length}
use Rattle.der_lite.proofs.Loops.{Goes}
use Rattle.payloads.specs.ManifestReading.{file_at}
use Rattle.payloads.proofs.manifest_reading.each_file.Given as goal

-- the files in front of the cursor were read
abbrev pub invariant-loop-members : goal.invariant-loop-members
invariant-loop-members l = Goes file_at l.fn.members l.files l.members

-- less remains
abbrev pub decreases-loop-members : goal.decreases-loop-members
decreases-loop-members l = length l.members.rest
