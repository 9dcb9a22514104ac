use Rattle.std.proofs.Common.{false, flat_map, take}
use Rattle.std.specs.Io.KnownBytes.{Appends}
use Rattle.status_pages.specs.ApiStatus.{anchor_text}
use Rattle.status_pages.proofs.tals.write_more.Given as goal

-- the trust anchors before this one are written
abbrev pub invariant-loop-anchor : goal.invariant-loop-anchor
invariant-loop-anchor g l = Appends (g.W.Write.contents l.initial.out) (g.W.Write.contents l.out) (flat_map (anchor_text l.files l.before false) (take l.anchor-index l.anchors))
