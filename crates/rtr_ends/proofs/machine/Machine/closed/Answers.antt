use Rattle.std.proofs.Common.{sym, subst}
use Rattle.rtr_ends.specs.Seen.{ShowsRouter}
use Rattle.rtr_ends.proofs.MachineCells.{closes}
use Rattle.rtr_ends.proofs.machine.Machine.closed.Goals as goal

pub returns : goal.returns
returns c r s = subst (λ x. ShowsRouter x c.close.new.self) (sym (closes c.args.now r)) (c.close.ensures _ (c.advance_clock.ensures r s))
