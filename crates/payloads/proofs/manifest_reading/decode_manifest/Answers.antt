use Rattle.std.proofs.Common.{arith, rules}
use Rattle.std.proofs.lemmas.Result.{err_from_is_err_and}
use Rattle.payloads.proofs.ManifestRefusals.{manifest_right, read_right, why_not}
use Rattle.payloads.proofs.manifest_reading.decode_manifest.Goals as goal

pub returns-in_err-fields : goal.returns-in_err-fields
returns-in_err-fields c =
    let p = err_from_is_err_and c.from_residual.result c.from_residual.ensures.1 in
    rw (p.1, p.2) (why_not c.in_err-fields.field-0.0 c.args.payload.now (λ i. omega (arith, c.type_inv.payload i)) c.in_err-fields.ensures)

pub invariant_of-result : goal.invariant_of-result
invariant_of-result c = record { right = manifest_right _ c.args.payload.now (read_right _ c.args.payload.now (λ i. omega (arith, c.type_inv.payload i)) (search rules)) }

pub returns : goal.returns
returns c = read_right _ c.args.payload.now (λ i. omega (arith, c.type_inv.payload i)) (search rules)
