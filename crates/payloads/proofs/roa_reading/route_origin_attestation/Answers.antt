use Rattle.std.proofs.Common.{◌≡◌, ◌∙◌, Ok, refl, sym, ap}
use Rattle.der_lite.specs.Fields.{last_at}
use Rattle.payloads.specs.RoaReading.{attestation_at, payload_at}
use Rattle.payloads.proofs.roa_reading.route_origin_attestation.Goals as goal

pub returns : goal.returns
unfolding payload_at attestation_at
returns c =
    let b = c.in_ok-ip_addr_blocks.ensures in
    let read : last_at attestation_at c.new-whole.result ≡ Ok (c.in_ok-asn.asn.0, b.0.0) = rw (c.in_ok-members.ensures, c.in_ok-asn.ensures, b.1, b.2, c.in_ok-finish.ensures, c.in_ok-finish-2.ensures) refl in
    ((c.in_ok-asn.asn.0, b.0.0), ap (last_at attestation_at) (sym c.new-whole.ensures) ∙ read, refl, b.3)
