use Rattle.std.proofs.Common.{take}
use Rattle.status_pages.specs.Health.{AppendsSome, AreSourceTexts}
use Rattle.status_pages.proofs.health.write_sources.Given as goal

-- the sources before this one
abbrev pub invariant-loop-file : goal.invariant-loop-file
invariant-loop-file g l = AppendsSome (g.W.Write.contents l.initial.out) (g.W.Write.contents l.out) (AreSourceTexts (take l.file-index l.files))
