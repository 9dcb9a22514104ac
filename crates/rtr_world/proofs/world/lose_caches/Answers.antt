use Rattle.rtr_world.proofs.Words.{◌<◌, length, arith, refl, slice_get_read}
use Rattle.rtr_world.proofs.Showing.{lost_all, lost_more}
use Rattle.rtr_world.proofs.world.lose_caches.Goals as goal

pub loop-number-init : goal.loop-number-init
loop-number-init c = record { len = refl; lost = λ r low. absurd (omega (arith, low)); left = λ r h. refl }

pub loop-number-preserved : goal.loop-number-preserved
loop-number-preserved c =
    let low : c.loop-number.number < length c.loop-number.sides.items = omega (arith, c.loop-number-test.true, c.len-number-end.ensures, c.args.sides.now.ok.0, c.loop-number.invariant.len) in
    lost_more c.args.sides.now.items c.loop-number.sides.items c.loop-number.number c.index_mut.result.now c.lose_cache.new.self c.loop-number.invariant low
    (slice_get_read c.loop-number.sides.items _ c.loop-number.number c.index_mut.result.now refl low c.index_mut.ensures.value) c.lose_cache.ensures

pub returns : goal.returns
returns c = lost_all c.args.sides.now.items c.loop-number.sides.items c.loop-number.number c.loop-number.invariant (omega (arith, c.loop-number-test.false, c.len-number-end.ensures, c.args.sides.now.ok.0, c.loop-number.invariant.len))
