use Rattle.std.proofs.Common.{◌≡◌, ◌∙◌, ap, refl, subst}
use Rattle.rtr_daemon.specs.Losing.{unless_lost}
use Rattle.rtr_daemon.specs.Known.{known_at}
use Rattle.rtr_daemon.proofs.DueLaws.{only_on}
use Rattle.rtr_daemon.proofs.OverdueLaws.{ChangesBefore, all_changed, changed_on, none_changed}
use Rattle.rtr_daemon.proofs.ServiceLaws.{stays, then_on}
use Rattle.rtr_daemon.proofs.daemon.Daemon.drop_lost_by.Goals as goal

pub returns-clause-closed : goal.returns-clause-closed
returns-clause-closed g c =
    let old = c.args.self.now in
    let new = c.loop-at.self in
    let to = unless_lost c.args.lines.now c.args.now old.plan.stall in
    all_changed to old.clients new.clients (subst (ChangesBefore to old.clients new.clients) c.in_default.is c.loop-at.invariant.closed)

pub loop-at-init : goal.loop-at-init
loop-at-init g c = record {
  goes = stays g.S.VersionStore.holds g.T.Stream.remaining g.T.Stream.contents c.args.self.now.service;
  rest = refl;
  queue = refl;
  closed = none_changed (unless_lost c.args.lines.now c.args.now c.args.self.now.plan.stall) c.args.self.now.clients c.first-at.result refl c.first-at.ensures;
}

pub loop-at-preserved : goal.loop-at-preserved
loop-at-preserved g c =
    let old = c.args.self.now in
    let table = c.loop-at.self in
    let mid = c.drop_if_lost.new.self in
    let one = c.drop_if_lost.ensures in
    let token = c.in-Some.token in
    let to = unless_lost c.args.lines.now c.args.now old.plan.stall in
    let stall : table.plan.stall ≡ old.plan.stall = ap (λ d. d.plan.stall) c.loop-at.invariant.rest in
    record {
      goes = then_on g.S.VersionStore.holds g.T.Stream.remaining g.T.Stream.contents old.service table.service mid.service c.loop-at.invariant.goes one.goes;
      rest = only_on old table mid c.loop-at.invariant.rest one.rest;
      queue = one.queue ∙ c.loop-at.invariant.queue;
      closed =
          changed_on to old.clients table.clients mid.clients token c.first_after-at.result refl (subst (ChangesBefore to old.clients table.clients) c.in-Some.is c.loop-at.invariant.closed) one.others
          (subst (λ span. known_at mid.clients token ≡ unless_lost c.args.lines.now c.args.now span (known_at table.clients token)) stall one.closed) c.first_after-at.ensures;
    }
