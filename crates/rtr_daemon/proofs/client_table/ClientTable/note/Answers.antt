use Rattle.std.proofs.Common.{◌≡◌, ap, arith, subst, sym}
use Rattle.rtr_daemon.specs.Waiting.{AreCovered, waiting_and}
use Rattle.rtr_daemon.proofs.WaitingLaws.{all_covered_more, covered_written, covers_new}
use Rattle.rtr_daemon.proofs.WakeLaws.{unqueued_put, waits}
use Rattle.rtr_daemon.proofs.client_table.ClientTable.note.Goals as goal

pub invariant_of-self-clause-room : goal.invariant_of-self-clause-room
invariant_of-self-clause-room c =
    let entry = c.in-Some.entry.now in
    let after = c.note.new.self in
    let put = unqueued_put c.args.self.now.by_token (c.get_mut.follows.lender after) c.args.token entry after c.in-Some.ensures.value (c.get_mut.follows.holds after).0 in
    let same : waits after ≡ waits entry = ap waits c.note.ensures in
    let room = c.args.self.now.room in
    omega (arith, put, same, room)

pub invariant_of-self-clause-covered : goal.invariant_of-self-clause-covered
invariant_of-self-clause-covered c =
    let old = c.args.self.now in
    let after = c.note.new.self in
    let w = waiting_and old.waiting after in
    subst (λ found. AreCovered found (c.get_mut.follows.lender after)) (sym c.and-self.ensures)
    (covered_written w old.by_token (c.get_mut.follows.lender after) c.args.token c.in-Some.entry.now after c.in-Some.ensures.value (c.get_mut.follows.holds after) (covers_new old.waiting after) (all_covered_more old.waiting after old.by_token old.covered))
