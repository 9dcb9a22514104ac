use Rattle.std.proofs.Common.{ℕ, List, length, ap, arith}
use Rattle.payloads.proofs.ManifestSpellings.{is_right}
use Rattle.payloads.proofs.manifest_writing.front.Goals as goal

pub integer-requires : goal.integer-requires
integer-requires c = omega (arith, ap (λ (l : List ℕ). length l) c.number.ensures.value, (is_right _ c.number.ensures.right.right).short)
