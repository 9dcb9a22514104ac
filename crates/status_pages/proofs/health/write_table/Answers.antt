use Rattle.std.proofs.Common.{Bool, subst}
use Rattle.std.specs.Io.KnownBytes.{Appends}
use Rattle.status_pages.proofs.HealthTexts.{then}
use Rattle.status_pages.specs.Health.{none_text}
use Rattle.status_pages.proofs.health.write_table.Goals as goal

pub returns : goal.returns
returns g c =
    then c.write_failure.result _ _ _ _ _
    (subst (λ (b : Bool). Appends (g.W.Write.contents c.args.out.now) (g.W.Write.contents c.write_none.new.out) (none_text b)) c.holds_for_all.ensures c.in_ok-write_none.ensures)
    c.write_failure.ensures
