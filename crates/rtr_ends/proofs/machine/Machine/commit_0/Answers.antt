use Rattle.std.proofs.Common.{subst}
use Rattle.rtr_ends.specs.Seen.{UnitIsRead}
use Rattle.rtr_ends.proofs.MachineCells.{end_as_own}
use Rattle.rtr_ends.proofs.Words.{EndOfData}
use Rattle.rtr_ends.proofs.machine.Machine.commit_0.Goals as goal

pub returns : goal.returns
returns c is = end_as_own c.args.self.now _ c.args.question c.args.session c.args.serial is c.refresh-refresh.ensures.timing.in_range _
    (subst (λ u. UnitIsRead c.commit.result u c.args.self.now c.commit.new.self)
    (λ i. EndOfData c.args.session c.args.serial (c.refresh-refresh.ensures.value i) (c.retry-retry.ensures.value i) (c.expire-expire.ensures.value i)) (c.commit.ensures is))
