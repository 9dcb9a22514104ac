use Rattle.rtr_world.proofs.Words.{length, slice_get, ◌∙◌, ap, arith, refl, sym, slice_get_read}
use Rattle.rtr_world.proofs.Room.{all_first, is_far, one_more}
use Rattle.rtr_world.proofs.Showing.{found_side, shown_length}
use Rattle.rtr_world.proofs.world.World.has_room.Goals as goal

pub loop-side-init : goal.loop-side-init
loop-side-init c = λ w reached h r s low is. absurd (omega (arith, low))

pub loop-side-preserved : goal.loop-side-preserved
loop-side-preserved c = λ w reached h.
    let read = slice_get_read c.deref-side-items.result.now _ c.loop-side.side-index c.side-item.result refl c.loop-side-test.true c.side-item.is in
    let there = found_side w h.at _ _ c.side-item.result (ap (λ l. slice_get l c.loop-side.side-index) (sym c.deref-side-items.ensures.value) ∙ read) (h.parts.each c.loop-side.side-index) in
    let room = c.has_room.ensures w h.at c.loop-side.side-index there.side reached there.is h.rest.sessions (c.next-next.ensures w reached h) there.shows in
    one_more w c.loop-side.side-index there.side (c.loop-side.invariant w reached h) there.is (sym room ∙ c.if-not-has_room.false)

pub returns-then-not-has_room : goal.returns-then-not-has_room
returns-then-not-has_room c = λ w reached h.
    let read = slice_get_read c.deref-side-items.result.now _ c.loop-side.side-index c.side-item.result refl c.loop-side-test.true c.side-item.is in
    let there = found_side w h.at _ _ c.side-item.result (ap (λ l. slice_get l c.loop-side.side-index) (sym c.deref-side-items.ensures.value) ∙ read) (h.parts.each c.loop-side.side-index) in
    let room = c.has_room.ensures w h.at c.loop-side.side-index there.side reached there.is h.rest.sessions (c.next-next.ensures w reached h) there.shows in
    is_far w c.loop-side.side-index there.side there.is (sym room ∙ c.if-not-has_room.true)

pub returns : goal.returns
returns c = λ w reached h.
    let len = shown_length w h.at _ _ h.parts in
    let items = ap length c.deref-side-items.ensures.value in
    all_first w c.loop-side.side-index (c.loop-side.invariant w reached h) (omega (arith, len, items, c.loop-side-test.false))
