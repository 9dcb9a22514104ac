use Rattle.rtr_server.proofs.TurnLaws as laws
use Rattle.rtr_server.proofs.turn.Slot.settle.Goals as goal

pub returns-then-not-self-clause-goes : goal.returns-then-not-self-clause-goes
returns-then-not-self-clause-goes g c = laws.owes_nothing g.S.VersionStore.holds g.T.Stream.remaining g.T.Stream.contents c.args.self.now c.args.cache.now c.requires c.if-not-self.true

pub returns-clause-goes : goal.returns-clause-goes
returns-clause-goes g c = laws.notifies g.S.VersionStore.holds g.T.Stream.remaining g.T.Stream.contents c.args.self.now c.notify-is_sent.result c.args.cache.now c.notify-is_sent.new.self c.requires c.if-not-self.false c.notify-is_sent.ensures
