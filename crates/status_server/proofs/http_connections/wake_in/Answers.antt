use Rattle.std.proofs.Common.{arith, ◌∙◌}
use Rattle.status_server.specs.Connections.{woken}
use Rattle.status_server.proofs.ConnectionLaws.{upto-all, upto-more, upto-none}
use Rattle.status_server.proofs.http_connections.wake_in.Goals as goal

pub loop-entry-init : goal.loop-entry-init
loop-entry-init g c = upto-none (woken c.args.token) c.args.entries.now

pub loop-entry-preserved : goal.loop-entry-preserved
loop-entry-preserved g c =
    upto-more (woken c.args.token) c.loop-entry.entries c.args.entries.now c.loop-entry.entry-index c.wake.new.self c.entry-item.result
    c.loop-entry.invariant c.wake.ensures

pub returns : goal.returns
returns g c =
    c.loop-entry.invariant
    ∙ upto-all (woken c.args.token) c.loop-entry.entry-index c.args.entries.now
    (omega (arith, c.loop-entry-test.false, c.loop-entry.auto.entries))
