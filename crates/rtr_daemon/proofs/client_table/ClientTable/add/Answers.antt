use Rattle.std.proofs.Common.{ap, arith, subst, sym}
use Rattle.std.specs.BTreeMap.{btree_map_len}
use Rattle.std.specs.VecDeque.{deque_capacity, deque_len}
use Rattle.rtr_daemon.specs.Waiting.{AreCovered, waiting_and}
use Rattle.rtr_daemon.proofs.WaitingLaws.{all_covered_more, covered_inserted, covers_new}
use Rattle.rtr_daemon.proofs.WakeLaws.{unqueued_inserted}
use Rattle.rtr_daemon.proofs.client_table.ClientTable.add.Goals as goal

pub invariant_of-self-2-clause-covered : goal.invariant_of-self-2-clause-covered
invariant_of-self-2-clause-covered c =
    let old = c.count.new.self in
    let entry = c.new-entry.result in
    subst (λ found. AreCovered found c.insert.new.self) (sym c.and-self.ensures)
    (covered_inserted (waiting_and old.waiting entry) old.by_token c.insert.new.self c.args.token entry c.insert.result c.insert.ensures.updates c.insert.ensures.err (covers_new old.waiting entry) (all_covered_more old.waiting entry old.by_token old.covered))

pub invariant_of-self-2-clause-room : goal.invariant_of-self-2-clause-room
invariant_of-self-2-clause-room c =
    let old = c.count.new.self in
    let more = unqueued_inserted old.by_token c.insert.new.self c.insert.result c.insert.ensures.len c.insert.ensures.err in
    let len = c.len.ensures.len in
    let room = c.in_ok-reserve.ensures.ok in
    let tokens = ap (λ table. btree_map_len table.by_token) c.count.ensures in
    let capacity = ap (λ table. deque_capacity table.queue) c.count.ensures in
    let queued = ap (λ table. deque_len table.queue) c.count.ensures in
    omega (arith, more, len, room, tokens, capacity, queued, c.saturating_add.ensures, c.len.ensures.small)
