use Rattle.std.proofs.Common.{flat_map, ap, sym, subst, ◌∙◌}
use Rattle.std.proofs.lemmas.List.{take_all}
use Rattle.std.proofs.lemmas.List.Folds.{flat_map-map}
use Rattle.std.specs.Io.KnownBytes.{Appends}
use Rattle.status_pages.specs.Ignored.{ignored_line, kind_counted}
use Rattle.status_pages.proofs.ignored.write_kinds.Goals as goal

pub returns : goal.returns
returns g c =
    subst (Appends (g.W.Write.contents c.args.out.now) (g.W.Write.contents c.loop-of_kind.out))
    (ap (flat_map (λ k. ignored_line c.args.path.now (kind_counted k))) (take_all c.loop-of_kind.of_kind-index c.args.entries.now c.loop-of_kind-test.false)
    ∙ sym (flat_map-map (ignored_line c.args.path.now) kind_counted c.args.entries.now))
    c.loop-of_kind.invariant
