use Rattle.std.proofs.Common.{subst, sym, take, ◌+◌}
use Rattle.rtr_daemon.specs.Accepting.{AreTriedBy}
use Rattle.rtr_daemon.proofs.AcceptLaws.{tried_more, tried_none}
use Rattle.rtr_daemon.proofs.accepting.Listeners.next_try.Goals as goal
use Rattle.rtr_daemon.proofs.accepting.Listeners.next_try.Goals.{then-listener, else-listener}

pub loop-listener-preserved : goal.loop-listener-preserved
loop-listener-preserved c =
    let value = c.deref-listener-items.ensures.value in
    let i = c.loop-listener.listener-index in
    let xs = c.deref-listener-items.result.now in
    let before = subst (λ all. AreTriedBy c.loop-listener.next (take i all)) (sym value) c.loop-listener.invariant in
    subst (λ all. AreTriedBy c.if-listener.next (take (i + 1) all)) value
    (elim c.if-listener.branch [
      | then-listener w ↦ tried_more c.loop-listener.next c.if-listener.next w.earlier.result w.next_try.result xs i _ c.loop-listener-test.true w.next-is w.earlier.ensures.first w.earlier.ensures.second w.next_try.ensures before
      | else-listener w ↦ tried_none c.loop-listener.next c.if-listener.next xs i _ c.loop-listener-test.true w.next-is w.if-listener.false before
    ])
