use Rattle.rtr_world.proofs.Moving.{notifies}
use Rattle.rtr_world.proofs.side.Side.notify.Goals as goal

pub returns-in-Some : goal.returns-in-Some
returns-in-Some c = λ w at s h. notifies w at s _ _ _ c.in-Some.conn h c.in-Some.is (c.notify-notified.ensures _ h.serves).1
