-- So far each has its status.
use Rattle.std.proofs.Common.{take}
use Rattle.rtr_daemon.specs.Statuses.{AddsStatuses, IsSlurmStatus}
use Rattle.rtr_daemon.proofs.daemon.Daemon.add_slurms.Given as goal

abbrev pub invariant-loop-at : goal.invariant-loop-at
invariant-loop-at g l = AddsStatuses (IsSlurmStatus l.self) (take l.at l.self.slurms.items) l.initial.found.items l.found.items
