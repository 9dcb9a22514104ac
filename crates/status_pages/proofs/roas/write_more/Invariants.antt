use Rattle.std.proofs.Common.{flat_map, take}
use Rattle.std.specs.Io.KnownBytes.{Appends}
use Rattle.status_pages.specs.Roas.{roa_after_comma}
use Rattle.status_pages.proofs.roas.write_more.Given as goal

-- the records before this one are written
abbrev pub invariant-loop-vrp : goal.invariant-loop-vrp
invariant-loop-vrp g l = Appends (g.W.Write.contents l.initial.out) (g.W.Write.contents l.out) (flat_map roa_after_comma (take l.vrp-index l.records))
