use Rattle.std.proofs.Common.{◌<◌, arith, get_or, length, refl}
use Rattle.std.specs.Prelude.{None, false}
use Rattle.rtr_daemon.specs.Accepting.{resume}
use Rattle.rtr_daemon.specs.declared.accepting.Listener.{Listener}
use Rattle.rtr_daemon.proofs.ContentLaws.{changed_more}
use Rattle.rtr_daemon.proofs.accepting.Listeners.resume_all.Goals as goal

pub loop-listener-preserved : goal.loop-listener-preserved
loop-listener-preserved c =
    let initial = c.deref_mut-listener-items.result.now in
    let items = c.loop-listener.listener-items in
    let i = c.loop-listener.listener-index in
    let other : Listener = record { pending = false; paused_until = None } in
    let less : i < length initial = omega (arith, c.loop-listener-test.true) in
    changed_more resume initial items i other (resume (get_or items i other)) less c.loop-listener.invariant refl
