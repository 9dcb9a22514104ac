use Rattle.std.proofs.Common.{arith, subst, sym}
use Rattle.rtr_server.specs.Streams.{PullsInto, room_of}
use Rattle.rtr_server.proofs.TurnLaws as laws
use Rattle.rtr_server.proofs.pieces.Unwritten.pull.Goals as goal

pub returns : goal.returns
returns g c = λ m shows.
    subst (λ bytes. PullsInto g.S.VersionStore.holds m c.args.conn.0 bytes c.pull_into-self-inside.new.cache) (sym c.give_back.ensures)
    (laws.pulls_into g.S.VersionStore.holds m c.args.conn.0 (room_of c.self.inside.small c.self.inside.large.items) c.pull_into-self-inside.result (room_of c.pull_into-self-inside.new.small c.pull_into-self-inside.new.large.items) c.pull_into-self-inside.new.cache
    (laws.room_is c.self.inside.small c.self.inside.large.items (omega (arith, c.self.told)) (omega (arith, c.self.told)) c.self.invariant.2) (c.pull_into-self-inside.ensures.gives m shows))
