use Rattle.std.proofs.Common.{◌≡◌, ◌∷◌, [], ap, arith, refl, rules, subst, sym, true, false, ℕ}
use Rattle.std.specs.Prelude.{Contains, cond, not}
use Rattle.std.proofs.lemmas.List.Elements.{Contains-append_right}
use Rattle.rtr_daemon.proofs.WaitingLaws.{covered_written, covers_queued}
use Rattle.rtr_daemon.proofs.WakeLaws.{noted_in, unqueued_put, waits}
use Rattle.rtr_daemon.proofs.client_table.ClientTable.wake.Goals as goal

pub invariant_of-self-clause-room : goal.invariant_of-self-clause-room
invariant_of-self-clause-room c =
    let entry = c.in-Some.entry.now in
    let after = record entry { is_queued = true } in
    let put = unqueued_put c.args.self.now.by_token (c.get_mut.follows.lender after) c.args.token entry after c.in-Some.ensures.value (c.get_mut.follows.holds after).0 in
    let idle : entry.is_queued ≡ false = search rules in
    let one : waits entry ≡ 1 = ap (λ b. cond {A = ℕ} (not b) 1 0) idle in
    let room = c.args.self.now.room in
    let len = c.push_back_reserved.ensures.len in
    let capacity = c.push_back_reserved.ensures.capacity in
    omega (arith, put, one, room, len, capacity)

pub invariant_of-self-else-not-entry-clause-room : goal.invariant_of-self-else-not-entry-clause-room
invariant_of-self-else-not-entry-clause-room c =
    let entry = c.in-Some.entry.now in
    let put = unqueued_put c.args.self.now.by_token (c.get_mut.follows.lender entry) c.args.token entry entry c.in-Some.ensures.value (c.get_mut.follows.holds entry).0 in
    let room = c.args.self.now.room in
    omega (arith, put, room)

pub invariant_of-self-clause-covered : goal.invariant_of-self-clause-covered
invariant_of-self-clause-covered c =
    let old = c.args.self.now in
    let entry = c.in-Some.entry.now in
    let after = record entry { is_queued = true } in
    covered_written old.waiting old.by_token (c.get_mut.follows.lender after) c.args.token entry after c.in-Some.ensures.value (c.get_mut.follows.holds after) (covers_queued old.waiting entry true (old.covered c.args.token entry (sym c.in-Some.ensures.value))) old.covered

pub invariant_of-self-else-not-entry-clause-covered : goal.invariant_of-self-else-not-entry-clause-covered
invariant_of-self-else-not-entry-clause-covered c =
    let old = c.args.self.now in
    let entry = c.in-Some.entry.now in
    covered_written old.waiting old.by_token (c.get_mut.follows.lender entry) c.args.token entry entry c.in-Some.ensures.value (c.get_mut.follows.holds entry) (old.covered c.args.token entry (sym c.in-Some.ensures.value)) old.covered

pub returns-then-not-entry-clause-woken : goal.returns-then-not-entry-clause-woken
returns-then-not-entry-clause-woken c = λ there. subst (λ queue. Contains queue c.args.token) (sym c.push_back_reserved.ensures.items) (Contains-append_right c.args.self.now.queue.items (c.args.token ∷ []) c.args.token (0, omega arith, refl))

pub returns-else-not-entry-clause-woken : goal.returns-else-not-entry-clause-woken
returns-else-not-entry-clause-woken c = λ there. noted_in c.args.self.now.by_token c.args.self.now.queue.items c.args.token c.in-Some.entry.now c.args.self.now.noted (search rules) (search rules)
