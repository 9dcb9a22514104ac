use Rattle.std.proofs.Common.{flat_map, take}
use Rattle.std.specs.Io.KnownBytes.{Appends}
use Rattle.status_pages.specs.Ignored.{ignored_lines}
use Rattle.status_pages.proofs.ignored.write_ignored.Given as goal

-- the files before this one are written
abbrev pub invariant-loop-file : goal.invariant-loop-file
invariant-loop-file g l = Appends (g.W.Write.contents l.initial.out) (g.W.Write.contents l.out) (flat_map ignored_lines (take l.file-index l.files))
