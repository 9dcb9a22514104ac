use Rattle.std.proofs.Common.{take}
use Rattle.rtr_server.proofs.TurnLaws as laws
use Rattle.rtr_server.proofs.turn.Slot.take.Goals as goal

pub returns-clause-goes : goal.returns-clause-goes
returns-clause-goes g c = laws.takes g.S.VersionStore.holds g.T.Stream.remaining g.T.Stream.contents c.args.self.now c.hand_in.new.self (record c.args.self.now.traffic { received = c.hand_in.new.received; asked = c.hand_in.new.asked }) c.args.cache.now c.hand_in.new.cache c.hand_in.result c.requires c.hand_in.ensures.rest (laws.received_more c.args.self.now.traffic c.hand_in.new.received c.hand_in.new.asked (take c.hand_in.result c.args.self.now.unread) c.hand_in.ensures.counts c.hand_in.ensures.asks) c.hand_in.ensures.bytes c.hand_in.ensures.takes
