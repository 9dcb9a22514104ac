use Rattle.std.proofs.Common.{sym, subst, ◌∙◌, true, false}
use Rattle.rtr_ends.specs.Seen.{ShowsRouter}
use Rattle.rtr_ends.proofs.MachineCells.{due_of, ticks}
use Rattle.rtr_ends.proofs.machine.Machine.tick.Goals as goal

pub returns-then-is_due : goal.returns-then-is_due
returns-then-is_due c r s =
    let told = c.advance_clock.ensures r s in
    subst (λ x. ShowsRouter x c.query.new.self) (sym (ticks c.args.now true r (due_of _ _ told ∙ sym c.is_due.ensures ∙ c.if-is_due.true))) (c.query.ensures _ told)

pub returns-else-is_due : goal.returns-else-is_due
returns-else-is_due c r s =
    let told = c.advance_clock.ensures r s in
    subst (λ x. ShowsRouter x c.advance_clock.new.self) (sym (ticks c.args.now false r (due_of _ _ told ∙ sym c.is_due.ensures ∙ c.if-is_due.false))) told
