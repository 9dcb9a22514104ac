use Rattle.std.proofs.Common.{◌∙◌, ap}
use Rattle.std.proofs.lemmas.Result.{err_from_is_err_and}
use Rattle.vrps.specs.VrpSet.{union}
use Rattle.vrps.specs.declared.set.SetFault.TheVariants.{TooMany}
use Rattle.sources.specs.Served.{with_lists}
use Rattle.sources.proofs.Together.{beyond_lists, over_so, said_so, same_fault, with_all_lists}
use Rattle.sources.proofs.sources.all_of.Goals as goal

pub returns-in_err-listed-clause-too_many : goal.returns-in_err-listed-clause-too_many
returns-in_err-listed-clause-too_many c e =
    let p = err_from_is_err_and c.from_residual.result c.from_residual.ensures.1 in
    beyond_lists c.args.now c.args.used c.args.lists.now (c.together.ensures.too_many (same_fault c.from_residual.result c.together.result p.0 _ TooMany p.1 p.2 c.in_err-listed.was e))

pub returns-clause-ok : goal.returns-clause-ok
returns-clause-ok c =
    said_so c.joined.result (union c.args.used c.in_ok-listed.listed) (with_lists c.args.now c.args.used c.args.lists.now) c.joined.ensures.ok
    (ap (λ s. union c.args.used s) c.in_ok-listed.ensures.ok ∙ with_all_lists c.args.now c.args.used c.args.lists.now)

pub returns-clause-too_many : goal.returns-clause-too_many
returns-clause-too_many c e =
    over_so _ _ (ap (λ s. union c.args.used s) c.in_ok-listed.ensures.ok ∙ with_all_lists c.args.now c.args.used c.args.lists.now) (c.joined.ensures.too_many e)
