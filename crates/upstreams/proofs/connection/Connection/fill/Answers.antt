use Rattle.rtr_ends.proofs.TableLaws.{false_true}
use Rattle.upstreams.specs.Polls.{Anyhow, MayBeFlushed}
use Rattle.upstreams.proofs.ConnectionLaws as laws
use Rattle.upstreams.proofs.connection.Connection.fill.Goals as goal

pub returns-then-is_empty-clause-goes : goal.returns-then-is_empty-clause-goes
returns-then-is_empty-clause-goes g c = λ now. laws.pulls g.T.Stream.remaining g.T.Stream.contents now c.args.router.now c.pull.new.router c.args.self.now c.pull.new.self (c.is_empty.ensures.0 c.if-is_empty.true) c.pull.ensures.calls c.pull.ensures.bytes

pub returns-else-is_empty-clause-goes : goal.returns-else-is_empty-clause-goes
returns-else-is_empty-clause-goes g c = λ now.
    laws.so_then g.T.Stream.remaining g.T.Stream.contents now Anyhow Anyhow MayBeFlushed c.args.router.now c.args.self.now c.args.router.now c.args.self.now (λ calls b runs any none. false_true (c.if-is_empty.ensures.1 none))
    (laws.stays g.T.Stream.remaining g.T.Stream.contents now Anyhow c.args.router.now c.args.self.now)
