use Rattle.rtr_world.proofs.Words.{ap, length, all_pulled}
use Rattle.rtr_world.proofs.wire.Wire.is_empty.Goals as goal

pub returns : goal.returns
returns c = all_pulled _ _ c.self.inside.bytes.items _ c.self.view_is c.self.invariant (ap length c.as_slice.ensures.value)
