use Rattle.rtr_server.specs.Turns.{Anyhow, GoesOrEnds, IsIdle, IsToWrite}
use Rattle.rtr_server.proofs.TurnLaws as laws
use Rattle.rtr_server.proofs.turn.Slot.step.Goals as goal

pub returns-in-Write-clause-goes : goal.returns-in-Write-clause-goes
returns-in-Write-clause-goes g c =
    laws.then_on g.S.VersionStore.holds g.T.Stream.remaining g.T.Stream.contents Anyhow IsToWrite (GoesOrEnds c.write.result (g.T.Stream.remaining c.write.new.self.stream)) c.args.self.now c.prepare.new.self c.write.new.self c.args.cache.now c.prepare.new.cache c.prepare.new.cache c.prepare.ensures.conn c.in-Write.ensures.goes
    (laws.wrote_on g.S.VersionStore.holds g.T.Stream.remaining g.T.Stream.contents (GoesOrEnds c.write.result (g.T.Stream.remaining c.write.new.self.stream)) c.prepare.new.self c.write.new.self c.prepare.new.cache c.write.ensures.goes)

pub returns-in-Read-clause-goes : goal.returns-in-Read-clause-goes
returns-in-Read-clause-goes g c =
    laws.then_on g.S.VersionStore.holds g.T.Stream.remaining g.T.Stream.contents Anyhow IsIdle (GoesOrEnds c.read.result (g.T.Stream.remaining c.read.new.self.stream)) c.args.self.now c.prepare.new.self c.read.new.self c.args.cache.now c.prepare.new.cache c.prepare.new.cache c.prepare.ensures.conn c.in-Read.ensures.goes c.read.ensures.goes
