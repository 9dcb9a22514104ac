use Rattle.std.proofs.Common.{◌∙◌, refl, sym}
use Rattle.payloads.specs.RoaValues.{flat}
use Rattle.ccr.specs.PayloadSetReading.{payload_set_at, set_members_at}
use Rattle.ccr.proofs.attestation.payload_set.Goals as goal

pub returns : goal.returns
unfolding payload_set_at set_members_at
returns c =
    let b = c.in_ok-ip_addr_blocks.ensures in (
      (flat (c.in_ok-asn.asn.0, b.0.0), c.sequence.new.self),
      rw (c.in_ok-members.ensures, c.in_ok-asn.ensures, b.1, b.2, c.in_ok-finish.ensures, sym c.is_as_not_above.ensures ∙ c.if-is_as_not_above.false) refl,
      (refl, refl),
      b.3,
    )
