use Rattle.std.proofs.Common.{arith}
use Rattle.std.proofs.lemmas.Result.{err_from_is_err_and}
use Rattle.signed_objects.specs.declared.object.SignedObject.{SignedObject}
use Rattle.signed_objects.specs.Objects.{ObjectValue}
use Rattle.signed_objects.proofs.DerObjects.{read_short, fault_read, fault_judged, object_is}
use Rattle.signed_objects.proofs.object.read_der_object.Goals as goal

pub returns-in_err-parts : goal.returns-in_err-parts
returns-in_err-parts c =
    let p = err_from_is_err_and c.from_residual.result c.from_residual.ensures.1 in
    rw (p.1, p.2) (fault_read c.args.der.now c.in_err-parts.field-0.0 (λ i. omega (arith, c.type_inv.der i)) c.in_err-parts.ensures)

pub judge-requires : goal.judge-requires
judge-requires c = read_short c.args.der.now _ (λ i. omega (arith, c.type_inv.der i)) c.in_ok-parts.ensures

pub returns-in_err-judge : goal.returns-in_err-judge
returns-in_err-judge c =
    let p = err_from_is_err_and c.from_residual-in_err-judge.result c.from_residual-in_err-judge.ensures.1 in
    let view : SignedObject → ObjectValue = λ o. record { content_type = o.content_type.now; content = o.content.now; certificate = o.certificate.now; key_identifier = o.key_identifier.now } in
    rw (p.1, p.2) (fault_judged view c.in_err-judge.field-0.0 c.args.der.now _ (λ i. omega (arith, c.type_inv.der i)) c.in_ok-parts.ensures c.in_err-judge.ensures)

pub returns : goal.returns
returns c = object_is c.args.der.now _ (λ i. omega (arith, c.type_inv.der i)) c.in_ok-parts.ensures c.in_ok-judge.ensures
