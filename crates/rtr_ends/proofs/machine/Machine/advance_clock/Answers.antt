use Rattle.std.proofs.Common.{sym, ◌∙◌}
use Rattle.rtr_ends.proofs.MachineCells.{expires_so, later_max, stays_on}
use Rattle.rtr_ends.proofs.machine.Machine.advance_clock.Goals as goal

pub returns-then-is_over : goal.returns-then-is_over
returns-then-is_over c =
    expires_so c.args.self.now _ c.args.now c.max-self.result (later_max _ _ _ c.max-self.ensures) (sym c.is_over.ensures ∙ c.if-is_over.true) c.expire.ensures

pub returns-else-is_over : goal.returns-else-is_over
returns-else-is_over c =
    stays_on c.args.self.now c.args.now c.max-self.result (later_max _ _ _ c.max-self.ensures) (sym c.is_over.ensures ∙ c.if-is_over.false)
