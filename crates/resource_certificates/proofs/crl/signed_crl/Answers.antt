use Rattle.std.proofs.Common.{ℕ, List, length, ap, arith}
use Rattle.resource_certificates.proofs.Revoking.{crl_shorter}
use Rattle.resource_certificates.proofs.crl.signed_crl.Goals as goal

pub slice_bounds-result-count : goal.slice_bounds-result-count
slice_bounds-result-count c =
    let less = crl_shorter c.args.cursor.now c.in_ok-tbs.tbs c.tbs_crl.new.cursor c.in_ok-tbs.ensures in
    omega (arith, less, ap (λ (l : List ℕ). length l) c.remaining.ensures, ap (λ (l : List ℕ). length l) c.remaining-here.ensures)
