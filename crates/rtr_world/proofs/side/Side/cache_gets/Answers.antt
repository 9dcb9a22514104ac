use Rattle.std.proofs.Common.{ap}
use Rattle.rtr_world.proofs.MovedBytes.{cache_got, none_got}
use Rattle.rtr_world.proofs.Moving.{no_conn}
use Rattle.rtr_world.proofs.side.Side.cache_gets.Goals as goal

pub returns-in-Some : goal.returns-in-Some
returns-in-Some c = λ w at s h. cache_got w at s c.args.cache.now _ c.args.self.now _ c.in-Some.conn c.args.most c.receive-count.result c.front.result.now h c.in-Some.is c.front.ensures (c.receive-count.ensures.takes _ h.serves)
    (ap (λ up. record c.args.self.now { up = up }) c.arrive.ensures)

pub returns-in-None : goal.returns-in-None
returns-in-None c = λ w at s h. none_got w at s c.args.cache.now c.args.self.now c.args.most h (no_conn at c.args.self.now.conn s.conn c.in-None.is h.side.conn)
