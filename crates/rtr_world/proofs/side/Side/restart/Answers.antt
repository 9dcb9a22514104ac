use Rattle.rtr_world.proofs.Moving.{alone, and_then, restarts}
use Rattle.rtr_world.proofs.side.Side.restart.Goals as goal

pub returns : goal.returns
returns c = λ w at s h.
    let m = c.close.ensures w at s h in
    and_then w at _ _ _ _ _ _ _ m (alone w m.now _ _ _ _ _ m.shows (restarts w m.now s _ _ m.shows.side c.new.ensures))
