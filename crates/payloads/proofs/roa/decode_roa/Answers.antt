use Rattle.std.proofs.Common.{◌∙◌, ap, subst, arith}
use Rattle.std.proofs.lemmas.Result.{err_from_is_err_and}
use Rattle.payloads.specs.RoaValues.{all_entries, flat}
use Rattle.payloads.specs.Gives.{Progress, Grows}
use Rattle.payloads.specs.Faults.{grammar_fault_of}
use Rattle.payloads.proofs.DecodingLaws.{flat_read, fault_read, none_yet, read_twice}
use Rattle.payloads.proofs.RoaRefusals.{roa_right}
use Rattle.payloads.proofs.roa.decode_roa.Goals as goal

pub returns-in_err-route_origin_attestation : goal.returns-in_err-route_origin_attestation
returns-in_err-route_origin_attestation c =
    let p = err_from_is_err_and c.from_residual.result c.from_residual.ensures.1 in
    rw (p.1, p.2) (fault_read c.args.payload.now (grammar_fault_of c.in_err-route_origin_attestation.field-0.0) (λ i. omega (arith, c.type_inv.payload i)) c.in_err-route_origin_attestation.ensures)

pub returns-in_err-listed : goal.returns-in_err-listed
returns-in_err-listed c =
    let p = err_from_is_err_and c.from_residual-in_err-listed.result c.from_residual-in_err-listed.ensures.1 in
    let t = c.in_ok-route_origin_attestation.ensures in
    rw (p.1, p.2) (flat t.0, flat_read c.args.payload.now t.0 (λ i. omega (arith, c.type_inv.payload i)) t.1)

pub returns : goal.returns
returns c =
    let t = c.in_ok-route_origin_attestation.ensures in
    let u = c.in_ok-asn.ensures in
    read_twice c.args.payload.now t.0 u.0 c.route_origin_attestation.new.entries c.route_origin_attestation-2.new.entries c.in_ok-asn.asn.0 c.into_list.result.items (λ i. omega (arith, c.type_inv.payload i))
    t.1 (subst (λ (p : Progress). Grows p c.route_origin_attestation.new.entries (all_entries t.0.1)) c.counted-counted.ensures t.3)
    u.1 u.2 (subst (λ (p : Progress). Grows p c.route_origin_attestation-2.new.entries (all_entries u.0.1)) (c.in_ok-listed.ensures ∙ ap none_yet c.count.ensures) u.3) c.into_list.ensures

pub invariant_of-result : goal.invariant_of-result
invariant_of-result c =
    let t = c.in_ok-route_origin_attestation.ensures in
    let u = c.in_ok-asn.ensures in
    let spells =
    read_twice c.args.payload.now t.0 u.0 c.route_origin_attestation.new.entries c.route_origin_attestation-2.new.entries c.in_ok-asn.asn.0 c.into_list.result.items (λ i. omega (arith, c.type_inv.payload i))
    t.1 (subst (λ (p : Progress). Grows p c.route_origin_attestation.new.entries (all_entries t.0.1)) c.counted-counted.ensures t.3)
    u.1 u.2 (subst (λ (p : Progress). Grows p c.route_origin_attestation-2.new.entries (all_entries u.0.1)) (c.in_ok-listed.ensures ∙ ap none_yet c.count.ensures) u.3) c.into_list.ensures in
    record { right = roa_right _ c.args.payload.now spells }
