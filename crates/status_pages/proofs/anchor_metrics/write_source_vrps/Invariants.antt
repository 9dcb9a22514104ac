use Rattle.std.proofs.Common.{flat_map, take}
use Rattle.std.specs.Io.KnownBytes.{Appends}
use Rattle.status_pages.specs.Anchors.{source_series}
use Rattle.status_pages.proofs.anchor_metrics.write_source_vrps.Given as goal

-- the sources before this one are written
abbrev pub invariant-loop-file : goal.invariant-loop-file
invariant-loop-file g l = Appends (g.W.Write.contents l.initial.out) (g.W.Write.contents l.out) (flat_map source_series (take l.file-index l.files))
