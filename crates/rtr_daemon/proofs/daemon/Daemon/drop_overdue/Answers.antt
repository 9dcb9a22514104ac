use Rattle.std.proofs.Common.{◌≡◌, ◌∙◌, ap, refl, subst}
use Rattle.rtr_daemon.specs.Overdue.{unless_overdue}
use Rattle.rtr_daemon.specs.Known.{known_at}
use Rattle.rtr_daemon.proofs.DueLaws.{only_on}
use Rattle.rtr_daemon.proofs.OverdueLaws.{ChangesBefore, all_changed, changed_on, none_changed}
use Rattle.rtr_daemon.proofs.ServiceLaws.{stays, then_on}
use Rattle.rtr_daemon.proofs.daemon.Daemon.drop_overdue.Goals as goal

pub returns-clause-closed : goal.returns-clause-closed
returns-clause-closed g c =
    let old = c.args.self.now in
    let new = c.loop-at.self in
    let to = unless_overdue c.millis-now.result old.plan in
    (c.millis-now.result, c.millis-now.ensures.ticks, all_changed to old.clients new.clients (subst (ChangesBefore to old.clients new.clients) c.in_default.is c.loop-at.invariant.closed))

pub loop-at-init : goal.loop-at-init
loop-at-init g c = record {
  goes = stays g.S.VersionStore.holds g.T.Stream.remaining g.T.Stream.contents c.args.self.now.service;
  rest = refl;
  closed = none_changed (unless_overdue c.millis-now.result c.args.self.now.plan) c.args.self.now.clients c.first-at.result refl c.first-at.ensures;
  queue = refl;
}

pub loop-at-preserved : goal.loop-at-preserved
loop-at-preserved g c =
    let old = c.args.self.now in
    let table = c.loop-at.self in
    let mid = c.drop_if_overdue.new.self in
    let one = c.drop_if_overdue.ensures in
    let token = c.in-Some.token in
    let now = c.millis-now.result in
    let to = unless_overdue now old.plan in
    let plan : table.plan ≡ old.plan = ap (λ d. d.plan) c.loop-at.invariant.rest in
    record {
      goes = then_on g.S.VersionStore.holds g.T.Stream.remaining g.T.Stream.contents old.service table.service mid.service c.loop-at.invariant.goes one.goes;
      rest = only_on old table mid c.loop-at.invariant.rest one.rest;
      closed =
          changed_on to old.clients table.clients mid.clients token c.first_after-at.result refl (subst (ChangesBefore to old.clients table.clients) c.in-Some.is c.loop-at.invariant.closed) one.others
          (subst (λ settings. known_at mid.clients token ≡ unless_overdue now settings (known_at table.clients token)) plan one.closed) c.first_after-at.ensures;
      queue = one.queue ∙ c.loop-at.invariant.queue;
    }
