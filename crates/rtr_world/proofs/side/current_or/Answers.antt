use Rattle.rtr_world.proofs.Connecting.{current_none, current_some}
use Rattle.rtr_world.proofs.side.current_or.Goals as goal

pub returns-in-None : goal.returns-in-None
returns-in-None c = λ w at start h. current_none w.present.start w.present.sets c.args.start start c.ranges.start.fits (c.in-None.ensures _ h)

pub returns-in-Some : goal.returns-in-Some
returns-in-Some c = λ w at start h. current_some w.present.start w.present.sets _ (c.in-Some.ensures _ h)
