-- The service is as it was, and the export has its number and its path.
use Rattle.std.proofs.Common.{◌≡◌}
use Rattle.rtr_daemon.proofs.starting.read_one.Given as goal

abbrev pub invariant-loop-time : goal.invariant-loop-time
invariant-loop-time g l = record {
  service : l.service ≡ l.initial.service;
  number : l.export.number ≡ l.initial.export.number;
  path : l.export.file.path ≡ l.initial.export.file.path;
}
