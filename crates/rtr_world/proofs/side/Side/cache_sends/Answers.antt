use Rattle.rtr_world.proofs.MovedBytes.{none_sends}
use Rattle.rtr_world.proofs.Moving.{no_conn, on_conn}
use Rattle.rtr_world.proofs.side.Side.cache_sends.Goals as goal

pub returns-in-None : goal.returns-in-None
returns-in-None c = λ w at s h. none_sends w at s c.args.cache.now c.args.self.now c.args.most h (no_conn at c.args.self.now.conn s.conn c.in-None.is h.side.conn)

pub returns-in-Some : goal.returns-in-Some
returns-in-Some c = λ w at s h.
    let there = on_conn at c.args.self.now.conn s.conn c.in-Some.conn c.in-Some.is h.side.conn in
    c.send.ensures w at s there.conn h there.is c.in-Some.is
