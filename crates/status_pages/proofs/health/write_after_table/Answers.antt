use Rattle.std.proofs.Common.{List, subst}
use Rattle.status_pages.proofs.HealthTexts.{both}
use Rattle.status_pages.specs.Health.{AppendsSome, AreSourceTexts, IsRestText}
use Rattle.status_pages.specs.declared.status.FileStatus.{FileStatus}
use Rattle.status_pages.proofs.health.write_after_table.Goals as goal

pub returns : goal.returns
returns g c =
    let s = c.args.status.now in
    let x = g.W.Write.contents c.args.out.now in
    let y = g.W.Write.contents c.write_sources.new.out in
    let z = g.W.Write.contents c.write_rest.new.out in
    both c.write_rest.result x y z (AreSourceTexts s.files.items) (IsRestText s)
    (subst (λ (files : List FileStatus). AppendsSome x y (AreSourceTexts files)) c.deref.ensures.value c.in_ok-write_sources.ensures) c.write_rest.ensures
