use Rattle.std.proofs.Common.{◌≡◌, refl}
use Rattle.std.specs.Prelude.{false, true}
use Rattle.rtr_daemon.proofs.service.Service.new.Goals as goal

pub returns-clause-shows : goal.returns-clause-shows
returns-clause-shows g c begun = record {
  server = c.in_ok-server_of.ensures begun;
  newest = λ e. absurd (let never : true ≡ false = e in cc);
  families = c.none.ensures;
  points = λ e. absurd (let never : true ≡ false = e in cc);
  made_with = record { keep = refl; timing = refl; most = refl; session0_is = refl };
}
