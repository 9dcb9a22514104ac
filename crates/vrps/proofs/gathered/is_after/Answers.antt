use Rattle.std.proofs.Common.{◌∙◌, ap, sym}
use Rattle.std.specs.Ordering.{is_lt}
use Rattle.vrps.proofs.Gathers.{ascends_alone, ascends_behind}
use Rattle.vrps.proofs.gathered.is_after.Goals as goal

pub returns-in-Some : goal.returns-in-Some
returns-in-Some c below = ascends_behind _ c.in-Some.last.now c.args.vrp.now c.requires c.in-Some.ensures.value (ap is_lt (sym c.cmp.ensures) ∙ sym c.is_lt.ensures ∙ below)

pub returns-in-None : goal.returns-in-None
returns-in-None c below = ascends_alone _ _ c.in-None.ensures.value
