use Rattle.std.proofs.Common.{◌≡◌, Some, refl, length, eqb, false}
use Rattle.std.proofs.lemmas.Bool.{ne_eqb}
use Rattle.std.proofs.lemmas.List.{nil_from_length}
use Rattle.ccr.specs.PayloadSetReading.{second_at}
use Rattle.ccr.proofs.attestation.second_family.Goals as goal

pub returns : goal.returns
unfolding second_at
returns c =
    let a = c.in_ok-ip_family.ensures in
    let more : eqb (length c.args.members.rest) 0 ≡ false = ne_eqb (length c.args.members.rest) 0 (λ n. (let h = c.at_end.ensures.1 (nil_from_length c.args.members.rest n) in cc)) in
    (Some a.0.0, rw (more, a.1, a.2.1, c.in_ok-finish.ensures) refl, tt, a.3)
