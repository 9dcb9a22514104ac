use Rattle.rtr_world.proofs.Words.{is_ok, ap, refl, err_from_is_err_and}
use Rattle.rtr_world.proofs.MovedBytes.{room_for, sent_none, sent_some}
use Rattle.rtr_world.proofs.side.Side.send_some.Goals as goal

pub returns-in_err-put-clause-sends : goal.returns-in_err-put-clause-sends
returns-in_err-put-clause-sends c = λ w at s o h has is.
    let p = err_from_is_err_and c.from_residual.result c.from_residual.ensures.1 in
    sent_none w at s c.args.cache.now c.pull.new.self c.args.self.now _ c.args.conn o c.args.most c.pull.result _ c.pull.new.out h is has (room_for c.args.most c.chunk.result _ refl c.chunk.ensures) (c.pull.ensures.gives _ h.serves)
    c.put.result c.from_residual.result p.0 c.min-count.result (ap is_ok c.in_err-put.was) p.1 (ap (λ down. record c.args.self.now { down = down }) c.put.ensures)

pub returns-clause-sends : goal.returns-clause-sends
returns-clause-sends c = λ w at s o h has is.
    sent_some w at s c.args.cache.now c.pull.new.self c.args.self.now _ c.args.conn o c.args.most c.pull.result _ c.pull.new.out h is has (room_for c.args.most c.chunk.result _ refl c.chunk.ensures) (c.pull.ensures.gives _ h.serves)
    c.put.result c.min-count.result (ap is_ok c.in_ok-put.was) c.min-count.ensures (ap (λ down. record c.args.self.now { down = down }) c.put.ensures)
