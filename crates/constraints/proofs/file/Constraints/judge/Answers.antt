use Rattle.std.proofs.Common.{List, subst}
use Rattle.constraints.specs.declared.action.ConstraintAction.TheVariants.{Allow}
use Rattle.constraints.specs.declared.constraint.Constraint.{Constraint}
use Rattle.constraints.specs.Gathering.{Gathers}
use Rattle.constraints.specs.Judging.{ip_sets, is_ip, has, AreAllowed}
use Rattle.constraints.proofs.JudgeLaws.{ip_allowed, refused}
use Rattle.constraints.proofs.file.Constraints.judge.Goals as goal

pub returns-then-not-has_ip : goal.returns-then-not-has_ip
returns-then-not-has_ip c =
    let allowed = c.self.inside.allowed in
    let v4 = c.args.v4.now in
    let v6 = c.args.v6.now in
    let es = c.args.self.now in
    let same = ip_allowed allowed v4 v6 es (subst (λ (l : List Constraint). Gathers Allow l allowed) c.self.view_is c.self.invariant.0) in
    let r = refused (has Allow is_ip es) (AreAllowed (ip_sets v4 v6) es) (λ x. (let t = c.has_ip.ensures.1 (same.1 x) in let f = c.if-not-has_ip.true in cc)) in
    (c.in_default.ensures, r.0, r.1)
