use Rattle.std.proofs.Common.{◌≤◌}
use Rattle.rpkiobject.proofs.runner.run_files.Given as goal

-- no status so far is greater
abbrev pub invariant-loop-file : goal.invariant-loop-file
invariant-loop-file g l = l.status ≤ 3
