use Rattle.rtr_world.specs.World as model
use Rattle.rtr_world.proofs.Moving.{alone, and_then}
use Rattle.rtr_world.proofs.side.Side.settle.Goals as goal

pub returns : goal.returns
unfolding model.settle
returns c = λ w at s h.
    let a = c.close_ended.ensures w at s h in
    let b = and_then w at _ _ _ _ _ _ _ a (alone w a.now _ _ _ _ _ a.shows (c.tell_ended.ensures w a.now _ a.shows.side)) in
    let d = and_then w at _ _ _ _ _ _ _ b (c.drop_rest.ensures w b.now _ b.shows) in
    and_then w at _ _ _ _ _ _ _ d (alone w d.now _ _ _ _ _ d.shows (c.tell_cut.ensures w d.now _ d.shows.side))
