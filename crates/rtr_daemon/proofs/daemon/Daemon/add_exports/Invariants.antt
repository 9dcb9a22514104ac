-- So far each has its status.
use Rattle.std.proofs.Common.{take}
use Rattle.rtr_daemon.specs.Statuses.{AddsStatuses, IsExportStatus}
use Rattle.rtr_daemon.proofs.daemon.Daemon.add_exports.Given as goal

abbrev pub invariant-loop-export : goal.invariant-loop-export
invariant-loop-export g l = AddsStatuses (λ i export shown. IsExportStatus l.now l.self export shown) (take l.export-index l.self.exports.items) l.initial.found.items l.found.items
