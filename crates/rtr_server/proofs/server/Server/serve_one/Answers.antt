use Rattle.rtr_server.proofs.PlaceLaws as laws
use Rattle.rtr_server.proofs.server.Server.serve_one.Goals as goal

pub returns-then-is_gone-clause-serves : goal.returns-then-is_gone-clause-serves
returns-then-is_gone-clause-serves g c =
    laws.gone_serves g.S.VersionStore.holds g.T.Stream.remaining g.T.Stream.contents g.T.Stream.answers c.args.budget c.args.client.0.0 c.number-number.result c.number-number.ensures c.args.self.now.slots.items c.turn_at-turn.new.slots.items c.close.new.self.slots.items
    c.args.self.now.cache c.turn_at-turn.new.cache c.close.new.self.cache c.turn_at-turn.result c.args.self.now.parted c.close.new.self.parted c.if-is_gone.ensures c.turn_at-turn.ensures.turns c.close.ensures.gone c.close.ensures.closed c.close.ensures.parted
