-- So far each has its status.
use Rattle.std.proofs.Common.{take}
use Rattle.rtr_daemon.specs.Statuses.{AddsStatuses, IsPointStatus}
use Rattle.rtr_daemon.proofs.daemon.Daemon.add_points.Given as goal

abbrev pub invariant-loop-point : goal.invariant-loop-point
invariant-loop-point g l = AddsStatuses (λ i point shown. IsPointStatus point shown) (take l.point-index l.self.points.items) l.initial.found.items l.found.items
