use Rattle.std.proofs.Common.{length}
use Rattle.exports.specs.PlainForm.{IsRawEntry}
use Rattle.exports.specs.Repeating.{EntryMet}
use Rattle.exports.proofs.PlainSteps.{Begun}
use Rattle.exports.proofs.streaming.plain_members.Given as goal

-- what was found in the members so far, and how often the names that are read stand there
abbrev pub invariant-loop-key : goal.invariant-loop-key
invariant-loop-key l = Begun 124 (λ f ms. IsRawEntry ms l.found × EntryMet f l.names) l.initial.reader l.reader

abbrev pub decreases-loop-key : goal.decreases-loop-key
decreases-loop-key l = length l.reader
