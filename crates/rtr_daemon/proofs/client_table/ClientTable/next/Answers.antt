use Rattle.std.proofs.Common.{arith, false, sym}
use Rattle.rtr_daemon.proofs.WaitingLaws.{covered_written, covers_queued}
use Rattle.rtr_daemon.proofs.WakeLaws.{unqueued_put}
use Rattle.rtr_daemon.proofs.client_table.ClientTable.next.Goals as goal

pub invariant_of-self-2-clause-room : goal.invariant_of-self-2-clause-room
invariant_of-self-2-clause-room c =
    let entry = c.in_ok-entry.entry.now in
    let after = record entry { is_queued = false } in
    let put = unqueued_put c.args.self.now.by_token (c.get_mut.follows.lender after) c.in_ok-token.token entry after c.in_ok-entry.ensures.value (c.get_mut.follows.holds after).0 in
    let room = c.args.self.now.room in
    let len = c.in_ok-token.ensures.len in
    let capacity = c.in_ok-token.ensures.capacity in
    omega (arith, put, room, len, capacity)

pub invariant_of-self-2-clause-covered : goal.invariant_of-self-2-clause-covered
invariant_of-self-2-clause-covered c =
    let old = c.args.self.now in
    let entry = c.in_ok-entry.entry.now in
    let after = record entry { is_queued = false } in
    covered_written old.waiting old.by_token (c.get_mut.follows.lender after) c.in_ok-token.token entry after c.in_ok-entry.ensures.value (c.get_mut.follows.holds after)
    (covers_queued old.waiting entry false (old.covered c.in_ok-token.token entry (sym c.in_ok-entry.ensures.value))) old.covered
