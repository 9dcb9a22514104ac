use Rattle.std.proofs.Common.{refl}
use Rattle.ccr.specs.Families.{of_roa}
use Rattle.ccr.specs.PayloadSetReading.{ip_family_at}
use Rattle.ccr.proofs.attestation.ip_family.Goals as goal

pub returns : goal.returns
unfolding ip_family_at
returns c =
    let a = c.in_ok-addresses.ensures in
    (((of_roa c.in_ok-family.family, a.0.0), c.sequence.new.self), rw (c.in_ok-members.ensures, c.in_ok-family.ensures, a.1, a.2, c.in_ok-finish.ensures) refl, (refl, refl), a.3)
