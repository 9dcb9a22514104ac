use Rattle.upstreams.specs.Polls.{Anyhow, AwaitsBytes, GoesOrEnds, HasUnwritten}
use Rattle.upstreams.proofs.ConnectionLaws as laws
use Rattle.upstreams.proofs.connection.Connection.step.Goals as goal

pub returns-in-Write-clause-goes : goal.returns-in-Write-clause-goes
returns-in-Write-clause-goes g c =
    laws.then_on g.T.Stream.remaining g.T.Stream.contents c.args.now Anyhow HasUnwritten (GoesOrEnds c.write.result (g.T.Stream.remaining c.write.new.self.stream)) c.args.router.now c.args.self.now c.prepare.new.router c.prepare.new.self c.prepare.new.router c.write.new.self c.in-Write.ensures.goes (c.write.ensures.goes c.args.now)

pub returns-in-Read-clause-goes : goal.returns-in-Read-clause-goes
returns-in-Read-clause-goes g c =
    laws.then_on g.T.Stream.remaining g.T.Stream.contents c.args.now Anyhow AwaitsBytes (GoesOrEnds c.read.result (g.T.Stream.remaining c.read.new.self.stream)) c.args.router.now c.args.self.now c.prepare.new.router c.prepare.new.self c.prepare.new.router c.read.new.self c.in-Read.ensures.goes (c.read.ensures.goes c.args.now)
