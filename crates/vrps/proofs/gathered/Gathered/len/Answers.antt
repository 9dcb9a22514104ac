use Rattle.std.proofs.Common.{◌∙◌}
use Rattle.vrps.proofs.Gathers.{ascends_in, shown_in, size_gathered}
use Rattle.vrps.proofs.gathered.Gathered.len.Goals as goal

pub returns-in-Ascending : goal.returns-in-Ascending
returns-in-Ascending c =
    c.len.ensures ∙ c.in-Ascending.list.ok.0 ∙ size_gathered _ _ (shown_in _ _ _ c.in-Ascending.is c.self.view_is) (ascends_in _ _ c.in-Ascending.is c.self.invariant)

pub returns-in-Mixed : goal.returns-in-Mixed
returns-in-Mixed c = c.len-in-Mixed.ensures.len ∙ size_gathered _ _ (shown_in _ _ _ c.in-Mixed.is c.self.view_is) c.len-in-Mixed.ensures.ordered
