use Rattle.std.proofs.Common.{◌≡◌, ◌∙◌, ap, arith, subst, sym}
use Rattle.std.specs.Prelude.{cond, not, ℕ}
use Rattle.rtr_daemon.proofs.OverdueLaws.{same_place}
use Rattle.rtr_daemon.specs.Waiting.{Covers}
use Rattle.rtr_daemon.proofs.WaitingLaws.{covered_written, covers_lined}
use Rattle.rtr_daemon.proofs.WakeLaws.{unqueued_put, waits}
use Rattle.rtr_daemon.proofs.client_table.ClientTable.note_lines.Goals as goal

pub invariant_of-self-clause-room : goal.invariant_of-self-clause-room
invariant_of-self-clause-room c =
    let entry = c.in-Some.entry.now in
    let after = c.note_lines.new.self in
    let put = unqueued_put c.args.self.now.by_token (c.get_mut.follows.lender after) c.args.token entry after c.in-Some.ensures.value (c.get_mut.follows.holds after).0 in
    let same : waits after ≡ waits entry = ap waits c.note_lines.ensures ∙ ap (λ b. cond {A = ℕ} (not b) 1 0) (same_place c.args.lines.now c.args.now entry) in
    let room = c.args.self.now.room in
    omega (arith, put, same, room)

pub invariant_of-self-clause-covered : goal.invariant_of-self-clause-covered
invariant_of-self-clause-covered c =
    let old = c.args.self.now in
    let entry = c.in-Some.entry.now in
    let after = c.note_lines.new.self in
    covered_written old.waiting old.by_token (c.get_mut.follows.lender after) c.args.token entry after c.in-Some.ensures.value (c.get_mut.follows.holds after)
    (subst (Covers old.waiting) (sym c.note_lines.ensures) (covers_lined old.waiting c.args.lines.now c.args.now entry (old.covered c.args.token entry (sym c.in-Some.ensures.value)))) old.covered
