use Rattle.rtr_world.specs.History.{Reached}
use Rattle.rtr_world.specs.Reached.{ShowsWorld}
use Rattle.rtr_world.specs.World.{World}
use Rattle.rtr_world.proofs.Room.{FirstHaveRoom}
use Rattle.rtr_world.proofs.world.World.has_room.Given as goal

abbrev pub invariant-loop-side : goal.invariant-loop-side
invariant-loop-side l = (w : World) → Reached w → ShowsWorld w l.fn.self → FirstHaveRoom w l.side-index
