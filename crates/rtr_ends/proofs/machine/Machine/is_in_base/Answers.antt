use Rattle.rtr_ends.proofs.Words.{sym, has-empty}
use Rattle.rtr_ends.proofs.machine.Machine.is_in_base.Goals as goal

pub returns-in-Reset : goal.returns-in-Reset
returns-in-Reset c = rw c.in-Reset.is (sym (has-empty c.args.vrp.now))
