use Rattle.rtr_world.proofs.Words.{◌<◌, length, arith, refl, slice_get_read, err_from_is_err_and}
use Rattle.rtr_world.specs.Events.{side_event_of}
use Rattle.rtr_world.proofs.Stepping.{done, no_such, refused}
use Rattle.rtr_world.proofs.world.World.on.Goals as goal

pub returns-then-number-len : goal.returns-then-number-len
returns-then-number-len c = λ w reached h. no_such w c.args.self.now c.args.router _ h (omega (arith, c.if-number-len.true, c.len.ensures, c.args.self.now.sides.ok.0, c.from-number.ensures))

pub returns-in_err-happen : goal.returns-in_err-happen
returns-in_err-happen c = λ w reached h.
    let low : c.from-number.result < length c.args.self.now.sides.items = omega (arith, c.if-number-len.false, c.len.ensures, c.args.self.now.sides.ok.0) in
    let read = slice_get_read c.args.self.now.sides.items _ c.from-number.result c.index_mut.result.now refl low c.index_mut.ensures.value in
    let p = err_from_is_err_and c.from_residual.result c.from_residual.ensures.1 in
    rw (p.1, p.2) (refused w c.args.self.now _ c.from-number.result (side_event_of c.args.event) c.index_mut.result.now c.happen.new.self reached h low read refl refl c.args.router c.from-number.ensures c.happen.result (c.happen.ensures w h.at) _ c.in_err-happen.was)

pub returns : goal.returns
returns c = λ w reached h.
    let low : c.from-number.result < length c.args.self.now.sides.items = omega (arith, c.if-number-len.false, c.len.ensures, c.args.self.now.sides.ok.0) in
    let read = slice_get_read c.args.self.now.sides.items _ c.from-number.result c.index_mut.result.now refl low c.index_mut.ensures.value in
    done w c.args.self.now _ c.from-number.result (side_event_of c.args.event) c.index_mut.result.now c.happen.new.self reached h low read refl refl c.args.router c.from-number.ensures c.happen.result (c.happen.ensures w h.at) c.in_ok-happen.was
