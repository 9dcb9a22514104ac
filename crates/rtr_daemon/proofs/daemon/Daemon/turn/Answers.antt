use Rattle.std.proofs.Common.{◌⊎◌, inl, subst}
use Rattle.rtr_daemon.specs.Serving.{Continues, Drops}
use Rattle.rtr_daemon.proofs.OriginLaws.{admitted_comes, clients_come, served_comes, turn_comes}
use Rattle.rtr_daemon.proofs.ServiceLaws.{goes, stays, then_goes, then_on}
use Rattle.rtr_daemon.proofs.daemon.Daemon.turn.Goals as goal

pub returns-clause-goes : goal.returns-clause-goes
returns-clause-goes g c =
    let left = c.drop_if_failing.new.self.service in (
      left,
      subst (λ s. Continues g.S.VersionStore.holds g.T.Stream.remaining g.T.Stream.contents s left ⊎ Drops g.S.VersionStore.holds g.T.Stream.remaining g.T.Stream.contents s left) c.take_ready.ensures.service c.drop_if_failing.ensures.goes,
      then_goes g.W.Time.can_be g.S.VersionStore.holds g.T.Stream.remaining g.T.Stream.contents left c.serve_all.new.self.service c.do_what_is_due.new.self.service
          (then_on g.S.VersionStore.holds g.T.Stream.remaining g.T.Stream.contents left c.accept_pending.new.self.service c.serve_all.new.self.service c.accept_pending.ensures.goes c.serve_all.ensures.goes)
          c.do_what_is_due.ensures.goes,
    )

pub returns-clause-turn : goal.returns-clause-turn
returns-clause-turn g c = record {
  awake = c.take_ready.new.self;
  left = c.drop_if_failing.new.self;
  admitted = c.accept_pending.new.self;
  served = c.serve_all.new.self;
  awakes = record {
    millis = c.millis.result;
    ticked = c.millis.ensures.ticks;
    wait = c.longest_wait-wait.result;
    is = c.longest_wait-wait.ensures;
    before = c.millis.new.self;
    read = c.millis.ensures.reads;
    woken = c.wait.new.self;
    after = c.take_ready.new.env;
    waits = c.in_ok-wait.ensures.waits;
    ready = c.take_ready.ensures.ready;
    service = c.take_ready.ensures.service;
    only = c.take_ready.ensures.rest;
  };
  drops = c.drop_if_failing.ensures;
  accepts = record { asks = c.accept_pending.ensures.asks; queue = c.accept_pending.ensures.queue; clients = c.accept_pending.ensures.clients; closed = c.accept_pending.ensures.before; only = c.accept_pending.ensures.rest };
  serves = record { turns = c.serve_all.ensures.turns; only = c.serve_all.ensures.rest };
  due = c.do_what_is_due.ensures.due;
}

pub returns-clause-comes : goal.returns-clause-comes
returns-clause-comes g c = λ before.
    turn_comes g.W.Disk.answers g.W.Sockets.calls g.W.Time.can_be g.W.Time.can_tick c.serve_all.new.self c.do_what_is_due.new.self c.do_what_is_due.ensures.due
    (clients_come g.W.Disk.answers g.W.Time.can_be c.accept_pending.new.self c.serve_all.new.self c.serve_all.ensures.rest
    (admitted_comes g.W.Disk.answers g.W.Time.can_be c.drop_if_failing.new.self c.accept_pending.new.self c.accept_pending.ensures.rest
    (served_comes g.W.Disk.answers g.W.Time.can_be c.take_ready.new.self c.drop_if_failing.new.self c.drop_if_failing.ensures.rest
    (admitted_comes g.W.Disk.answers g.W.Time.can_be c.args.self.now c.take_ready.new.self c.take_ready.ensures.rest before))))

pub returns-in_err-wait-clause-goes : goal.returns-in_err-wait-clause-goes
returns-in_err-wait-clause-goes g c =
    let same = c.args.self.now.service in
    let none = stays g.S.VersionStore.holds g.T.Stream.remaining g.T.Stream.contents same in
    (same, inl none, goes g.W.Time.can_be g.S.VersionStore.holds g.T.Stream.remaining g.T.Stream.contents same same none)
