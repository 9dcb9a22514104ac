use Rattle.std.proofs.Common.{ap, arith}
use Rattle.std.proofs.lemmas.Result.{err_from_is_err_and}
use Rattle.resource_certificates.specs.Crls.{Crl}
use Rattle.resource_certificates.proofs.CrlProfiles.{crl_wrong, crl_profile_fault, crl_right}
use Rattle.resource_certificates.proofs.crl.read_crl.Goals as goal

pub returns-in_err-list : goal.returns-in_err-list
returns-in_err-list c =
    let p = err_from_is_err_and c.from_residual.result c.from_residual.ensures.1 in
    rw (p.1, p.2) (crl_wrong c.in_err-list.field-0.0 c.args.bytes.now (λ i. omega (arith, c.type_inv.bytes i)) c.in_err-list.ensures)

pub returns-in-Some : goal.returns-in-Some
returns-in-Some c =
    crl_profile_fault c.args.bytes.now c.in_ok-list.list c.in-Some.kind c.at.result c.at.ensures (λ i. omega (arith, c.type_inv.bytes i)) c.in_ok-list.ensures c.list.inside.tbs (ap (λ (y : Crl). y.tbs) c.list.view_is) c.in-Some.ensures

pub returns : goal.returns
returns c = crl_right c.args.bytes.now c.in_ok-list.list (λ i. omega (arith, c.type_inv.bytes i)) c.in_ok-list.ensures c.list.inside.tbs (ap (λ (y : Crl). y.tbs) c.list.view_is) c.in-None.ensures
