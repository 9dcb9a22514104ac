use Rattle.std.proofs.Common.{flat_map, take}
use Rattle.std.specs.Io.KnownBytes.{Appends}
use Rattle.status_pages.specs.Ignored.{ignored_line, kind_counted}
use Rattle.status_pages.proofs.ignored.write_kinds.Given as goal

-- the kinds before this one are written
abbrev pub invariant-loop-of_kind : goal.invariant-loop-of_kind
invariant-loop-of_kind g l = Appends (g.W.Write.contents l.initial.out) (g.W.Write.contents l.out) (flat_map (λ k. ignored_line l.path (kind_counted k)) (take l.of_kind-index l.entries))
