use Rattle.std.proofs.Common.{arith}
use Rattle.std.specs.Box.{with_value}
use Rattle.rtr_server.proofs.PlaceLaws as laws
use Rattle.rtr_server.proofs.server.turn_at.Goals as goal

pub returns-in-Some-clause-turns : goal.returns-in-Some-clause-turns
returns-in-Some-clause-turns g c =
    laws.turns_at g.S.VersionStore.holds g.T.Stream.remaining g.T.Stream.contents g.T.Stream.answers c.args.budget c.args.slots.now.items c.args.number c.index_mut.result.now c.in-Some.slot (with_value c.in-Some.slot c.turn.new.self) c.deref_mut.result.now c.args.cache.now c.turn.new.cache c.turn.result
    (omega (arith, c.if-number-len.false, c.len.ensures)) c.index_mut.ensures.value c.in-Some.is c.deref_mut.ensures.value (record { conn = c.turn.ensures.conn; goes = c.turn.ensures.goes; told = c.turn.ensures.answers })
