use Rattle.rtr_server.proofs.TurnLaws as laws
use Rattle.rtr_server.proofs.turn.Slot.pull.Goals as goal

pub returns-clause-goes : goal.returns-clause-goes
returns-clause-goes g c = laws.pulls g.S.VersionStore.holds g.T.Stream.remaining g.T.Stream.contents c.args.self.now c.pull.new.self c.args.cache.now c.pull.new.cache c.requires c.pull.ensures
