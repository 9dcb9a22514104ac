use Rattle.std.proofs.Common.{◌∙◌, refl, subst}
use Rattle.rtr_daemon.proofs.DueLaws.{only_on}
use Rattle.rtr_daemon.proofs.DroppingLaws.{to_none}
use Rattle.rtr_daemon.proofs.OverdueLaws.{ChangesBefore, all_changed, changed_on, none_changed}
use Rattle.rtr_daemon.proofs.ServiceLaws.{stays, then_on}
use Rattle.rtr_daemon.proofs.daemon.Daemon.close_all.Goals as goal

pub returns-clause-clients : goal.returns-clause-clients
returns-clause-clients g c =
    let old = c.args.self.now in
    let new = c.loop-at.self in
    all_changed to_none old.clients new.clients (subst (ChangesBefore to_none old.clients new.clients) c.in_default.is c.loop-at.invariant.closed)

pub loop-at-init : goal.loop-at-init
loop-at-init g c = record {
  goes = stays g.S.VersionStore.holds g.T.Stream.remaining g.T.Stream.contents c.args.self.now.service;
  rest = refl;
  closed = none_changed to_none c.args.self.now.clients c.first-at.result refl c.first-at.ensures;
  queue = refl;
  failure = refl;
}

pub loop-at-preserved : goal.loop-at-preserved
loop-at-preserved g c =
    let old = c.args.self.now in
    let table = c.loop-at.self in
    let mid = c.drop_connection.new.self in
    let one = c.drop_connection.ensures in
    let token = c.in-Some.token in
    record {
      goes = then_on g.S.VersionStore.holds g.T.Stream.remaining g.T.Stream.contents old.service table.service mid.service c.loop-at.invariant.goes one.goes;
      rest = only_on old table mid c.loop-at.invariant.rest one.rest;
      closed = changed_on to_none old.clients table.clients mid.clients token c.first_after-at.result refl (subst (ChangesBefore to_none old.clients table.clients) c.in-Some.is c.loop-at.invariant.closed) one.others one.gone c.first_after-at.ensures;
      queue = one.queue ∙ c.loop-at.invariant.queue;
      failure = one.failure ∙ c.loop-at.invariant.failure;
    }
