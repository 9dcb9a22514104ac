use Rattle.rtr_world.proofs.Showing.{LostFirst}
use Rattle.rtr_world.proofs.world.lose_caches.Given as goal

abbrev pub invariant-loop-number : goal.invariant-loop-number
invariant-loop-number l = LostFirst l.fn.sides.items l.sides.items l.number
