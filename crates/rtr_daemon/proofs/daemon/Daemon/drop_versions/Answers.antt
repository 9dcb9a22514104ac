use Rattle.std.proofs.Common.{ap, subst, sym}
use Rattle.std.specs.Prelude.{◌⊎◌}
use Rattle.rtr_daemon.specs.Serving.{Continues, Drops}
use Rattle.rtr_daemon.proofs.DroppingLaws.{then_either}
use Rattle.rtr_daemon.proofs.daemon.Daemon.drop_versions.Goals as goal

pub returns-in-Ok-clause-goes : goal.returns-in-Ok-clause-goes
returns-in-Ok-clause-goes g c =
    let a = c.args.self.now.service in
    subst (λ s. Continues g.S.VersionStore.holds g.T.Stream.remaining g.T.Stream.contents a s ⊎ Drops g.S.VersionStore.holds g.T.Stream.remaining g.T.Stream.contents a s) (sym (ap (λ d. d.service) c.note_dropped.ensures.rest))
    (then_either g.S.VersionStore.holds g.T.Stream.remaining g.T.Stream.contents a c.close_all.new.self.service c.begin_anew.new.self c.close_all.ensures.goes c.begin_anew.ensures.drops)

pub returns-in-Err-clause-goes : goal.returns-in-Err-clause-goes
returns-in-Err-clause-goes g c = then_either g.S.VersionStore.holds g.T.Stream.remaining g.T.Stream.contents c.args.self.now.service c.close_all.new.self.service c.begin_anew.new.self c.close_all.ensures.goes c.begin_anew.ensures.drops
