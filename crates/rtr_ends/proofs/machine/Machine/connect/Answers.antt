use Rattle.std.proofs.Common.{sym, subst}
use Rattle.rtr_ends.specs.Seen.{ShowsRouter}
use Rattle.rtr_ends.proofs.MachineCells.{connects, opens_so}
use Rattle.rtr_ends.proofs.machine.Machine.connect.Goals as goal

pub returns : goal.returns
returns c r s = subst (λ x. ShowsRouter x c.query.new.self) (sym (connects c.args.now r)) (c.query.ensures _ (opens_so c.close.new.self _ (c.close.ensures _ (c.advance_clock.ensures r s))))
