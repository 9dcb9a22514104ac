use Rattle.std.proofs.Common.{length, codes}
use Rattle.exports.specs.PlainForm.{IsMetadata}
use Rattle.exports.specs.Repeating.{AreMet}
use Rattle.exports.proofs.PlainSteps.{Begun}
use Rattle.exports.proofs.streaming.plain_metadata.Given as goal

-- what was found in the members so far, and how often the names that are read stand there
abbrev pub invariant-loop-key : goal.invariant-loop-key
invariant-loop-key l = Begun 125 (λ f ms. IsMetadata ms l.metadata × AreMet (codes "generated") (codes "buildtime") f l.names) l.initial.reader l.reader

abbrev pub decreases-loop-key : goal.decreases-loop-key
decreases-loop-key l = length l.reader
