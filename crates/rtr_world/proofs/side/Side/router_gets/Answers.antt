use Rattle.std.proofs.Common.{ap}
use Rattle.rtr_world.proofs.MovedBytes.{router_got}
use Rattle.rtr_world.proofs.side.Side.router_gets.Goals as goal

pub returns : goal.returns
returns c = λ w at s h. router_got w at s c.args.self.now _ c.args.most c.receive-count.result c.front.result.now h c.front.ensures c.receive-count.ensures.shown
    (ap (λ down. record c.args.self.now { router = c.receive-count.new.self; down = down }) c.arrive.ensures)
