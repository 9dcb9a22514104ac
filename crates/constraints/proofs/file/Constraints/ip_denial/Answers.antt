use Rattle.std.proofs.Common.{List, subst}
use Rattle.constraints.specs.declared.action.ConstraintAction.TheVariants.{Deny}
use Rattle.constraints.specs.declared.constraint.Constraint.{Constraint}
use Rattle.constraints.specs.Gathering.{Gathers}
use Rattle.constraints.proofs.JudgeLaws.{ip_none}
use Rattle.constraints.proofs.file.Constraints.ip_denial.Goals as goal

pub returns-then-not-overlaps_ip : goal.returns-then-not-overlaps_ip
returns-then-not-overlaps_ip c =
    let denied = c.self.inside.denied in
    ip_none denied c.args.v4.now c.args.v6.now c.args.self.now (subst (λ (es : List Constraint). Gathers Deny es denied) c.self.view_is c.self.invariant.1)
    (λ o. (let t = c.overlaps_ip.ensures.1 o in let f = c.if-not-overlaps_ip.true in cc))
