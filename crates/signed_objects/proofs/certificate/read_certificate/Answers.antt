use Rattle.std.proofs.Common.{ℕ, List, length, ap, arith}
use Rattle.signed_objects.specs.Certificates.{Key}
use Rattle.signed_objects.proofs.Loops.{certificate_shorter}
use Rattle.signed_objects.proofs.certificate.read_certificate.Goals as goal

pub slice_bounds-result-count : goal.slice_bounds-result-count
slice_bounds-result-count c =
    let k = c.in_ok-key.key in
    let key : Key = record { modulus = k.modulus.now; identifier = k.identifier.now } in
    let less = certificate_shorter c.args.cursor.now key c.certificate_content.new.cursor c.in_ok-key.ensures in
    omega (arith, less, ap (λ (l : List ℕ). length l) c.remaining.ensures, ap (λ (l : List ℕ). length l) c.remaining-here.ensures)
