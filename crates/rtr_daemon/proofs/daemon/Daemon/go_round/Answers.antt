use Rattle.std.proofs.Common.{◌∙◌, ap, subst}
use Rattle.rtr_daemon.specs.Due.{NextPoll, PublishesIfDue}
use Rattle.rtr_daemon.specs.Queue.{QueuesBehind}
use Rattle.rtr_daemon.proofs.DueLaws.{clients_fresh, clients_kept, next_from, only_looked, publishes_from, then_queued, wakes_from}
use Rattle.rtr_daemon.proofs.ServiceLaws.{then_goes, then_on}
use Rattle.rtr_daemon.proofs.OverdueLaws.{closes_on, tried_on}
use Rattle.rtr_daemon.proofs.WakeLaws.{behind_on}
use Rattle.rtr_daemon.proofs.daemon.Daemon.go_round.Goals as goal

pub returns-clause-goes : goal.returns-clause-goes
returns-clause-goes g c =
    then_goes g.W.Time.can_be g.S.VersionStore.holds g.T.Stream.remaining g.T.Stream.contents c.args.self.now.service c.drop_lost.new.self.service c.publish_and_judge.new.self.service
    (then_on g.S.VersionStore.holds g.T.Stream.remaining g.T.Stream.contents c.args.self.now.service c.drop_overdue.new.self.service c.drop_lost.new.self.service c.drop_overdue.ensures.goes c.drop_lost.ensures.goes)
    c.publish_and_judge.ensures.goes

pub returns-clause-fresh : goal.returns-clause-fresh
returns-clause-fresh g c = λ fresh.
    let start = record c.args.self.now { next_round = c.saturating_add-self.result; readings = c.drop_lost.new.self.readings } in
    let only = only_looked c.args.self.now c.saturating_add-self.result c.drop_overdue.new.self c.drop_lost.new.self c.drop_overdue.ensures.rest c.drop_lost.ensures.rest in
    c.publish_and_judge.ensures.fresh (clients_fresh g.W.Time.can_be start c.drop_lost.new.self only fresh)

pub returns-clause-due : goal.returns-clause-due
returns-clause-due g c = λ due.
    let start = record c.args.self.now { next_round = c.saturating_add-self.result; readings = c.drop_lost.new.self.readings } in
    let only = only_looked c.args.self.now c.saturating_add-self.result c.drop_overdue.new.self c.drop_lost.new.self c.drop_overdue.ensures.rest c.drop_lost.ensures.rest in
    let served = record c.drop_lost.new.self { clients = c.wake_blocked.new.self } in
    publishes_from g.W.Time.can_be g.W.Time.can_tick c.args.self.now.held_until c.args.self.now served c.publish_and_judge.new.self (ap (λ d. d.service.pace) only) (ap (λ d. d.started) only) (ap (λ d. d.opened) only) (ap (λ d. d.failing) only)
    (subst (λ held. PublishesIfDue g.W.Time.can_be g.W.Time.can_tick held served c.publish_and_judge.new.self) (ap (λ d. d.held_until) only) c.publish_and_judge.ensures.due)

pub returns-clause-kept : goal.returns-clause-kept
returns-clause-kept g c =
    let start = record c.args.self.now { next_round = c.saturating_add-self.result; readings = c.drop_lost.new.self.readings } in
    let only = only_looked c.args.self.now c.saturating_add-self.result c.drop_overdue.new.self c.drop_lost.new.self c.drop_overdue.ensures.rest c.drop_lost.ensures.rest in
    let served = record c.drop_lost.new.self { clients = c.wake_blocked.new.self } in
    let k = clients_kept start served c.publish_and_judge.new.self (then_queued start c.drop_lost.new.self c.wake_blocked.new.self only) c.publish_and_judge.ensures.kept in
    record { sources = k.sources; exports = k.exports; slurms = k.slurms; points = k.points; is_old = k.is_old; listeners = k.listeners; rest = k.rest }

pub returns-clause-wakes : goal.returns-clause-wakes
returns-clause-wakes g c =
    let start = record c.args.self.now { next_round = c.saturating_add-self.result; readings = c.drop_lost.new.self.readings } in
    let only = only_looked c.args.self.now c.saturating_add-self.result c.drop_overdue.new.self c.drop_lost.new.self c.drop_overdue.ensures.rest c.drop_lost.ensures.rest in
    wakes_from c.args.self.now (record c.drop_lost.new.self { clients = c.wake_blocked.new.self }) c.publish_and_judge.new.self (ap (λ d. d.service.pace) only) (ap (λ d. d.is_ready) only) c.publish_and_judge.ensures.wakes

pub returns-clause-closes : goal.returns-clause-closes
returns-clause-closes g c = λ due.
    closes_on g.W.Sockets.calls g.W.Time.can_tick c.args.now c.saturating_add-self.result c.args.self.now c.drop_overdue.new.self c.drop_lost.new.self c.wake_blocked.new.self c.publish_and_judge.new.self c.drop_overdue.ensures.closed c.drop_overdue.ensures.rest c.drop_lost.ensures.looks c.wake_blocked.ensures.clients c.publish_and_judge.ensures.clients c.publish_and_judge.ensures.readings

pub returns-clause-tries : goal.returns-clause-tries
returns-clause-tries g c = λ due. tried_on c.drop_lost.new.self.clients c.wake_blocked.new.self c.publish_and_judge.new.self.clients c.wake_blocked.ensures.clients c.publish_and_judge.ensures.clients c.publish_and_judge.ensures.queue c.wake_blocked.ensures.blocked

pub returns-clause-queue : goal.returns-clause-queue
returns-clause-queue g c =
    let queue = c.args.self.now.clients.queue.items in
    behind_on queue c.wake_blocked.new.self c.publish_and_judge.new.self.clients (subst (λ q. QueuesBehind q.items c.wake_blocked.new.self) (c.drop_lost.ensures.queue ∙ c.drop_overdue.ensures.queue) c.wake_blocked.ensures.queue) c.publish_and_judge.ensures.queue

pub returns-clause-next : goal.returns-clause-next
returns-clause-next g c =
    let start = record c.args.self.now { next_round = c.saturating_add-self.result; readings = c.drop_lost.new.self.readings } in
    let only = only_looked c.args.self.now c.saturating_add-self.result c.drop_overdue.new.self c.drop_lost.new.self c.drop_overdue.ensures.rest c.drop_lost.ensures.rest in
    let served = record c.drop_lost.new.self { clients = c.wake_blocked.new.self } in
    next_from g.W.Time.can_tick c.args.self.now.next_check c.args.self.now served c.publish_and_judge.new.self (ap (λ d. d.service.pace) only) (ap (λ d. d.plan) only) (ap (λ d. d.started) only) (ap (λ d. d.opened) only)
    (subst (λ time. NextPoll g.W.Time.can_tick time served c.publish_and_judge.new.self) (ap (λ d. d.next_check) only) c.publish_and_judge.ensures.next)
