use Rattle.std.proofs.Common.{refl}
use Rattle.rtr_world.proofs.Moving.{closes}
use Rattle.rtr_world.proofs.side.Side.close.Goals as goal

pub returns-in-Some : goal.returns-in-Some
returns-in-Some c = λ w at s h. closes w at s _ _ _ _ c.in-Some.conn h c.in-Some.is (c.close.ensures _ h.serves) refl
