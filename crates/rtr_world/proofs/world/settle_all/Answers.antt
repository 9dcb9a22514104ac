use Rattle.rtr_world.proofs.Words.{◌<◌, length, ◌∙◌, arith, refl, length-set, slice_get_read}
use Rattle.rtr_world.proofs.Showing.{settled_all, settled_more, shown_length}
use Rattle.rtr_world.proofs.world.settle_all.Goals as goal

pub loop-number-init : goal.loop-number-init
loop-number-init c = record { len = refl; settled = λ w at parts. record { now = at; parts = parts } }

pub loop-number-preserved : goal.loop-number-preserved
loop-number-preserved c =
    let low : c.loop-number.number < length c.loop-number.sides.items = omega (arith, c.loop-number-test.true, c.len-number-end.ensures, c.args.sides.now.ok.0, c.loop-number.invariant.len) in
    record {
      len = length-set c.loop-number.sides.items c.loop-number.number c.settle.new.self ∙ c.loop-number.invariant.len;
      settled = λ w at parts. settled_more w c.loop-number.number c.loop-number.cache c.settle.new.cache c.loop-number.sides.items c.index_mut.result.now c.settle.new.self (c.loop-number.invariant.settled w at parts) low
          (slice_get_read c.loop-number.sides.items _ c.loop-number.number c.index_mut.result.now refl low c.index_mut.ensures.value) c.settle.ensures;
    }

pub returns : goal.returns
returns c = λ w at parts.
    let len = shown_length w at c.args.cache.now c.args.sides.now.items parts in
    settled_all w c.loop-number.number c.loop-number.cache c.loop-number.sides.items (c.loop-number.invariant.settled w at parts)
    (omega (arith, len, c.loop-number-test.false, c.len-number-end.ensures, c.args.sides.now.ok.0, c.loop-number.auto.number-end))
