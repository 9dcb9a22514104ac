use Rattle.std.proofs.Common.{◌∙◌}
use Rattle.rtr_world.proofs.Publishing.{no_current, some_current}
use Rattle.rtr_world.proofs.world.World.is_current.Goals as goal

pub returns-in-None : goal.returns-in-None
returns-in-None c = λ w h. no_current w.present.sets w.present.start c.args.set.now (c.in-None.ensures _ h.parts.serves)

pub returns-in-Some : goal.returns-in-Some
returns-in-Some c = λ w h. c.is_same.ensures ∙ some_current w.present.sets w.present.start c.args.set.now _ (c.in-Some.ensures _ h.parts.serves)
