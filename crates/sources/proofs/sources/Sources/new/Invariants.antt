use Rattle.sources.specs.Served.{NoneTaken}
use Rattle.sources.proofs.sources.Sources.new.Given as goal

abbrev pub invariant-loop-file : goal.invariant-loop-file
invariant-loop-file l = NoneTaken l._file l.lists.items
