use Rattle.std.proofs.Common.{◌∙◌, subst, sym}
use Rattle.rtr_daemon.proofs.WakeLaws.{IsBefore, behind_on, woken_on}
use Rattle.rtr_daemon.proofs.client_table.ClientTable.wake_all.Goals as goal

pub loop-next-preserved : goal.loop-next-preserved
loop-next-preserved c =
    let table = c.loop-next.self in
    let mid = c.wake.new.self in
    let before = c.loop-next.invariant in
    let one = c.wake.ensures in
    record {
      clients = λ t. one.clients t ∙ before.clients t;
      queue = behind_on c.args.self.now.queue.items table mid before.queue one.queue;
      so_far = woken_on table mid c.in-Some.token c.first_after-next.result (λ t less. before.so_far t (subst (IsBefore t) (sym c.in-Some.is) less)) one.clients one.queue one.woken c.first_after-next.ensures;
    }
