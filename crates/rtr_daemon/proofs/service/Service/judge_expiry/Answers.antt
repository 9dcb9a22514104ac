use Rattle.rtr_daemon.proofs.Expiry.{none_ended_of}
use Rattle.rtr_daemon.proofs.ServiceLaws.{current_on}
use Rattle.rtr_daemon.proofs.service.Service.judge_expiry.Goals as goal

pub returns-then-is_current_if_none_ended-clause-goes : goal.returns-then-is_current_if_none_ended-clause-goes
returns-then-is_current_if_none_ended-clause-goes g c =
    let self = c.args.self.now in
    let m = c.is_current_if_none_ended.ensures.moment c.if-is_current_if_none_ended.true in
    let none = none_ended_of self.judged_at self.current_at c.args.now c.min.result c.min-from.result c.max.result c.max-to.result self.sources.lists.items c.min.ensures c.min-from.ensures c.max.ensures c.max-to.ensures (c.is_any_ended-ends.ensures c.if-not-ends.true) in
    current_on g.S.VersionStore.holds g.T.Stream.remaining g.T.Stream.contents self c.args.now m.0 m.1 (c.is_current_if_none_ended.ensures.points c.if-is_current_if_none_ended.true) none.0

pub returns-then-is_current_if_none_ended-clause-same : goal.returns-then-is_current_if_none_ended-clause-same
returns-then-is_current_if_none_ended-clause-same g c = λ e.
    let self = c.args.self.now in
    (none_ended_of self.judged_at self.current_at c.args.now c.min.result c.min-from.result c.max.result c.max-to.result self.sources.lists.items c.min.ensures c.min-from.ensures c.max.ensures c.max-to.ensures (c.is_any_ended-ends.ensures e)).1

pub returns-else-not-ends-clause-same : goal.returns-else-not-ends-clause-same
returns-else-not-ends-clause-same g c = λ e.
    let self = c.args.self.now in
    (none_ended_of self.judged_at self.current_at c.args.now c.min.result c.min-from.result c.max.result c.max-to.result self.sources.lists.items c.min.ensures c.min-from.ensures c.max.ensures c.max-to.ensures (c.is_any_ended-ends.ensures e)).1
