use Rattle.std.proofs.Common.{List, subst}
use Rattle.constraints.specs.declared.action.ConstraintAction.TheVariants.{Allow}
use Rattle.constraints.specs.declared.constraint.Constraint.{Constraint}
use Rattle.constraints.specs.Gathering.{Gathers}
use Rattle.constraints.specs.Judging.{as_sets, is_as, has, AreAllowed}
use Rattle.constraints.proofs.JudgeLaws.{as_allowed, refused}
use Rattle.constraints.proofs.file.Constraints.judge_as.Goals as goal

pub returns-then-not-has_as : goal.returns-then-not-has_as
returns-then-not-has_as c =
    let allowed = c.self.inside.allowed in
    let numbers = c.args.numbers.now in
    let es = c.args.self.now in
    let same = as_allowed allowed numbers es (subst (λ (l : List Constraint). Gathers Allow l allowed) c.self.view_is c.self.invariant.0) in
    let r = refused (has Allow is_as es) (AreAllowed (as_sets numbers) es) (λ x. (let t = c.has_as.ensures.1 (same.1 x) in let f = c.if-not-has_as.true in cc)) in
    (c.in_default.ensures, r.0, r.1)
