-- Numbers compare as equal exactly if they are the same.
use Rattle.std.specs.Prelude.{◌≡◌, ◌↔◌, ℕ}
use Rattle.std.specs.Ordering.{nat_cmp}
use Rattle.std.specs.declared.cmp.Ordering.TheVariants.{Equal}
use Rattle.std.proofs.Common.{subst}
use Rattle.std.proofs.lemmas.Cmp.{nat_cmp_total, tied_itself}
use Rattle.std.proofs.lemmas.Map.Lookups.{exact_unsigned}

pub same_number : (a b : ℕ) → (nat_cmp a b ≡ Equal) ↔ (a ≡ b)
same_number a b = (exact_unsigned a b, λ e. subst (λ c. nat_cmp a c ≡ Equal) e (tied_itself nat_cmp_total a))
