use Rattle.std.proofs.Common.{ℕ, Bool, OnOk, subst}
use Rattle.status_pages.proofs.HealthTexts.{both}
use Rattle.status_pages.specs.Health.{AppendsSome, IsAwayText, IsPeakText, TellsAway, TellsPeak}
use Rattle.status_pages.specs.Reasons.{is_shrunk, served_vrps}
use Rattle.status_pages.proofs.health.write_counts.Goals as goal

pub returns : goal.returns
returns g c =
    let s = c.args.status.now in
    let x = g.W.Write.contents c.args.out.now in
    let y = g.W.Write.contents c.write_peak.new.out in
    let z = g.W.Write.contents c.write_away.new.out in
    both c.write_away.result x y z (IsPeakText s) (IsAwayText s)
    (subst (λ (n : ℕ). AppendsSome x y (TellsPeak (is_shrunk (served_vrps s) s.peak) n s.peak)) c.served_vrps.ensures
    (subst (λ (b : Bool). AppendsSome x y (TellsPeak b c.served_vrps.result s.peak)) c.holds_for_all-shrank.ensures c.in_ok-write_peak.ensures))
    (subst (λ (b : Bool). OnOk c.write_away.result (AppendsSome y z (TellsAway b s.turned_away))) c.holds_for_all-is_recent.ensures c.write_away.ensures)
