use Rattle.std.proofs.Common.{◌∙◌}
use Rattle.vrps.proofs.Gathers.{has_gathered, shown_in}
use Rattle.vrps.proofs.gathered.Gathered.contains.Goals as goal

pub returns-in-Mixed : goal.returns-in-Mixed
returns-in-Mixed c = c.contains.ensures ∙ has_gathered _ _ c.args.vrp.now (shown_in _ _ _ c.in-Mixed.is c.self.view_is)
