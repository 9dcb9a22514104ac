use Rattle.std.proofs.Common.{◌∙◌, Bool, OnOk, subst, sym}
use Rattle.status_pages.proofs.HealthTexts.{both}
use Rattle.status_pages.specs.Health.{AppendsSome, AreSourceTexts, Both, IsRestText, IsTableText, IsTextOf}
use Rattle.status_pages.proofs.health.write_health.Goals as goal

pub returns : goal.returns
returns g c =
    let s = c.args.status.now in
    let x = g.W.Write.contents c.args.out.now in
    let y = g.W.Write.contents c.write_table.new.out in
    let z = g.W.Write.contents c.write_after_table.new.out in
    subst (λ (b : Bool). OnOk c.write_after_table.result (AppendsSome x z (IsTextOf b s))) (sym c.if-is_healthy.false ∙ c.is_healthy.ensures)
    (both c.write_after_table.result x y z (IsTableText s) (Both (AreSourceTexts s.files.items) (IsRestText s)) c.in_ok-write_table.ensures c.write_after_table.ensures)
