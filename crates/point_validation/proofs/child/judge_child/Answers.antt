use Rattle.std.proofs.Common.{Err, subst}
use Rattle.std.proofs.lemmas.Result.{err_from_is_err_and}
use Rattle.point_validation.specs.declared.child_fault.ChildFault.TheVariants.{Issue}
use Rattle.point_validation.specs.Issuers.{Issuer}
use Rattle.point_validation.specs.Children.{JudgesChild}
use Rattle.point_validation.proofs.ChildLaws.{not_issued}
use Rattle.point_validation.proofs.child.judge_child.Goals as goal

pub returns-in_err-judge_certificate : goal.returns-in_err-judge_certificate
returns-in_err-judge_certificate c =
    let p = err_from_is_err_and c.from_residual-in_err-judge_certificate.result c.from_residual-in_err-judge_certificate.ensures.1 in
    let bytes = c.args.bytes.now in
    let by : Issuer = record { certificate = c.by.inside.certificate.now; held = c.by.inside.held.now; revoked = c.by.inside.revoked.now; moment = c.by.inside.moment } in
    rw (p.1, p.2) (subst (λ (i : Issuer). JudgesChild i bytes (Err (Issue c.in_err-judge_certificate.field-0.0))) c.by.view_is (not_issued by bytes c.in_ok-child.child c.in_err-judge_certificate.field-0.0 c.in_ok-child.ensures c.in_err-judge_certificate.ensures))
