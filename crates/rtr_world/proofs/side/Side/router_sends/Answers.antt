use Rattle.rtr_world.proofs.Words.{length, ap, arith, refl}
use Rattle.rtr_world.proofs.MovedBytes.{none_sent, pulled, room_for, some_sent}
use Rattle.rtr_world.proofs.side.Side.router_sends.Goals as goal

pub returns-then-count-eq0 : goal.returns-then-count-eq0
returns-then-count-eq0 c = λ w at s h.
    let out = ap (λ r. length r.out) h.router.machine.is in
    let room = c.router_has_room.ensures.ready in
    none_sent w at s c.args.self.now _ c.args.most c.pull-count.result c.pull-count.new.room h
    (pulled c.args.most c.pull-count.result _ c.pull-count.new.room s.router c.pull-count.new.self (room_for c.args.most c.chunk.result _ refl c.chunk.ensures) (omega (arith, out, room)) (c.pull-count.ensures.bytes s.router h.router) (c.pull-count.ensures.calls s.router h.router)) c.if-count-eq0.true refl

pub returns : goal.returns
returns c = λ w at s h.
    let out = ap (λ r. length r.out) h.router.machine.is in
    let room = c.router_has_room.ensures.ready in
    some_sent w at s c.args.self.now _ c.args.most c.pull-count.result c.pull-count.new.room c.put.result h
    (pulled c.args.most c.pull-count.result _ c.pull-count.new.room s.router c.pull-count.new.self (room_for c.args.most c.chunk.result _ refl c.chunk.ensures) (omega (arith, out, room)) (c.pull-count.ensures.bytes s.router h.router) (c.pull-count.ensures.calls s.router h.router)) c.if-count-eq0.false
    (ap (λ up. record c.args.self.now { router = c.pull-count.new.self; up = up }) c.put.ensures)
