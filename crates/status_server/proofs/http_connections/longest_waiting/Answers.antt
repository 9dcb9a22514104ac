use Rattle.std.proofs.Common.{ℕ, arith, subst}
use Rattle.status_server.specs.Connections.{HasWaitedLongest}
use Rattle.status_server.proofs.WaitingLaws.{found_inside, none_before}
use Rattle.status_server.proofs.http_connections.longest_waiting.Goals as goal

pub loop-index-init : goal.loop-index-init
loop-index-init g c = none_before c.args.entries.now

pub loop-index-preserved : goal.loop-index-preserved
loop-index-preserved g c = c.longer_waiting-found.ensures

pub returns-clause-longest : goal.returns-clause-longest
returns-clause-longest g c = subst (λ (n : ℕ). HasWaitedLongest n c.args.entries.now c.loop-index.found) (omega (arith, c.loop-index-test.false)) c.loop-index.invariant

pub returns-clause-within : goal.returns-clause-within
returns-clause-within g c = found_inside c.args.entries.now c.loop-index.index c.loop-index.found c.loop-index.invariant
