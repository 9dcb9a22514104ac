-- Of those so far, the one that has waited longest.
use Rattle.status_server.specs.Connections.{HasWaitedLongest}
use Rattle.status_server.proofs.http_connections.longest_waiting.Given as goal

abbrev pub invariant-loop-index : goal.invariant-loop-index
invariant-loop-index g l = HasWaitedLongest l.index l.entries l.found
