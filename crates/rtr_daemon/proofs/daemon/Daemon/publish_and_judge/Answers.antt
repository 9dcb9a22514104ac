use Rattle.std.proofs.Common.{◌∙◌, ap, subst, sym}
use Rattle.rtr_daemon.specs.Known.{SameClients}
use Rattle.rtr_daemon.specs.Queue.{QueuesBehind}
use Rattle.rtr_daemon.specs.Serving.{GoesOn, IsFresh}
use Rattle.rtr_daemon.proofs.StateLaws.{judged_due, judged_kept, judged_next, judged_wakes}
use Rattle.rtr_daemon.proofs.daemon.Daemon.publish_and_judge.Goals as goal

pub returns-clause-goes : goal.returns-clause-goes
returns-clause-goes g c =
    subst (λ s. GoesOn g.W.Time.can_be g.S.VersionStore.holds g.T.Stream.remaining g.T.Stream.contents c.args.self.now.service s) (sym (ap (λ d. d.service) c.judge_state.ensures)) c.publish_pending.ensures.goes

pub returns-clause-due : goal.returns-clause-due
returns-clause-due g c =
    judged_due g.W.Time.can_be g.W.Time.can_tick c.args.self.now.held_until c.args.self.now c.publish_pending.new.self c.judge_state.new.self c.judge_state.ensures c.publish_pending.ensures.due

pub returns-clause-wakes : goal.returns-clause-wakes
returns-clause-wakes g c =
    judged_wakes c.args.self.now c.publish_pending.new.self c.judge_state.new.self c.judge_state.ensures c.publish_pending.ensures.wakes

pub returns-clause-kept : goal.returns-clause-kept
returns-clause-kept g c =
    judged_kept c.args.self.now c.publish_pending.new.self c.judge_state.new.self c.judge_state.ensures c.publish_pending.ensures.kept

pub returns-clause-fresh : goal.returns-clause-fresh
returns-clause-fresh g c = λ fresh. subst (λ s. IsFresh g.W.Time.can_be s) (sym (ap (λ d. d.service) c.judge_state.ensures)) (c.publish_pending.ensures.fresh fresh)

pub returns-clause-clients : goal.returns-clause-clients
returns-clause-clients g c = subst (λ t. SameClients c.args.self.now.clients t) (sym (ap (λ d. d.clients) c.judge_state.ensures)) c.publish_pending.ensures.clients

pub returns-clause-queue : goal.returns-clause-queue
returns-clause-queue g c = subst (λ t. QueuesBehind c.args.self.now.clients.queue.items t) (sym (ap (λ d. d.clients) c.judge_state.ensures)) c.publish_pending.ensures.queue

pub returns-clause-next : goal.returns-clause-next
returns-clause-next g c =
    judged_next g.W.Time.can_tick c.args.self.now.next_check c.args.self.now c.publish_pending.new.self c.judge_state.new.self c.judge_state.ensures c.publish_pending.ensures.next

pub returns-clause-readings : goal.returns-clause-readings
returns-clause-readings g c = ap (λ d. d.readings) c.judge_state.ensures ∙ c.publish_pending.ensures.readings
