use Rattle.rtr_ends.specs.declared.machine.State.TheVariants as states
use Rattle.rtr_ends.proofs.MachineCells.{closed_so, ended_so, stays_so}
use Rattle.rtr_ends.proofs.machine.Machine.read.Goals as goal

pub returns-in-Closed : goal.returns-in-Closed
returns-in-Closed c = stays_so c.args.unit.now states.Closed c.args.self.now c.in-Closed.is (closed_so c.args.unit.now c.args.self.now)

pub returns-in-Ended : goal.returns-in-Ended
returns-in-Ended c = stays_so c.args.unit.now (states.Ended c.in-Ended.field-0) c.args.self.now c.in-Ended.is (ended_so c.args.unit.now c.in-Ended.field-0 c.args.self.now)
