use Rattle.std.proofs.Common.{ap, sym, ◌∙◌, not, refl}
use Rattle.vrps.proofs.Gathers.{gathers, has_gathered}
use Rattle.vrps.proofs.gathered.put.Goals as goal

pub returns-in-Ok-clause-ok : goal.returns-in-Ok-clause-ok
returns-in-Ok-clause-ok c = gathers _ c.args.tree.now.keys _ c.args.vrp refl c.in-Ok.ensures.updates.0

pub returns-in-Ok-clause-added : goal.returns-in-Ok-clause-added
returns-in-Ok-clause-added c = c.in-Ok.ensures.added ∙ ap not (has_gathered _ c.args.tree.now.keys c.args.vrp refl)

pub returns-in-Err-clause-err : goal.returns-in-Err-clause-err
returns-in-Err-clause-err c = (c.in-Err.ensures.err, sym (has_gathered _ c.args.tree.now.keys c.args.vrp refl) ∙ c.in-Err.ensures.absent)
