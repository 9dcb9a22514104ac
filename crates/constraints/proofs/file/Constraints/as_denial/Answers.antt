use Rattle.std.proofs.Common.{List, subst}
use Rattle.constraints.specs.declared.action.ConstraintAction.TheVariants.{Deny}
use Rattle.constraints.specs.declared.constraint.Constraint.{Constraint}
use Rattle.constraints.specs.Gathering.{Gathers}
use Rattle.constraints.proofs.JudgeLaws.{as_none}
use Rattle.constraints.proofs.file.Constraints.as_denial.Goals as goal

pub returns-then-not-overlaps : goal.returns-then-not-overlaps
returns-then-not-overlaps c =
    let denied = c.self.inside.denied in
    as_none denied c.args.numbers.now c.args.self.now (subst (λ (es : List Constraint). Gathers Deny es denied) c.self.view_is c.self.invariant.1)
    (λ o. (let t = c.overlaps.ensures.1 o in let f = c.if-not-overlaps.true in cc))
