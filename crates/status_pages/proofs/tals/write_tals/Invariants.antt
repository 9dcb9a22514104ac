use Rattle.std.proofs.Common.{[], take}
use Rattle.std.specs.Io.KnownBytes.{Appends}
use Rattle.status_pages.specs.ApiStatus.{tals_after}
use Rattle.status_pages.proofs.tals.write_tals.Given as goal

-- the sources before this one are written
abbrev pub invariant-loop-index : goal.invariant-loop-index
invariant-loop-index g l = Appends (g.W.Write.contents l.initial.out) (g.W.Write.contents l.out) (tals_after l.files [] (take l.index l.files))
