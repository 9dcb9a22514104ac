use Rattle.rtr_world.proofs.Publishing.{first_next, later_next}
use Rattle.rtr_world.proofs.Room.{reached_good}
use Rattle.rtr_world.proofs.world.World.next.Goals as goal

pub returns-in-None : goal.returns-in-None
returns-in-None c = λ w reached h. first_next w.present.start w.present.sets _ h.rest.start (reached_good w reached).present.is.start (c.in-None.ensures _ h.parts.serves)

pub returns-in-Some : goal.returns-in-Some
returns-in-Some c = λ w reached h. later_next w.present.start w.present.sets _ (c.in-Some.ensures _ h.parts.serves)
