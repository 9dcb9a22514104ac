use Rattle.std.proofs.Common.{◌∙◌, ◌<◌, subst}
use Rattle.vrps.specs.VrpSet.{size, union, without}
use Rattle.sources.proofs.Together.{announced, from_nothing, same_joined}
use Rattle.sources.proofs.sources.joined.Goals as goal

pub returns-then-is_empty-clause-ok : goal.returns-then-is_empty-clause-ok
returns-then-is_empty-clause-ok c = from_nothing c.args.set c.args.more (c.is_empty.ensures.0 c.if-is_empty.true)

pub returns-clause-ok : goal.returns-clause-ok
returns-clause-ok c =
    same_joined c.apply.result _ (union c.args.set c.args.more) c.apply.ensures.ok
    ((λ i. union (without c.args.set (c.empty.ensures i)) c.args.more) ∙ announced c.args.set c.args.more)

pub returns-clause-too_many : goal.returns-clause-too_many
returns-clause-too_many c e =
    let is = (λ i. union (without c.args.set (c.empty.ensures i)) c.args.more) ∙ announced c.args.set c.args.more in
    subst (λ t. 16777215 < size t) is (c.apply.ensures.too_many e)
