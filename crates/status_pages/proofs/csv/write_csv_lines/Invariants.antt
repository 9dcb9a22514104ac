use Rattle.std.proofs.Common.{flat_map, take}
use Rattle.std.specs.Io.KnownBytes.{Appends}
use Rattle.status_pages.specs.Csv.{csv_line}
use Rattle.status_pages.proofs.csv.write_csv_lines.Given as goal

-- the records before this one are written
abbrev pub invariant-loop-vrp : goal.invariant-loop-vrp
invariant-loop-vrp g l = Appends (g.W.Write.contents l.initial.out) (g.W.Write.contents l.out) (flat_map (csv_line l.end) (take l.vrp-index l.records))
