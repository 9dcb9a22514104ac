-- The orders of prefixes and of payloads are total, and only equals tie. So sets in these orders have the laws of sets.
use Rattle.std.specs.Prelude.{◌≡◌, refl}
use Rattle.std.specs.Cmp.{IsTotalOrder, nat_cmp_total, on_total, then_total}
use Rattle.std.specs.FinMap.{IsAntisymmetric, nat_cmp-IsAntisymmetric}
use Rattle.std.specs.Ordering.{ordering_then}
use Rattle.std.specs.declared.cmp.Ordering.{Ordering}
use Rattle.std.specs.declared.cmp.Ordering.TheVariants.{Less, Equal, Greater}
use Rattle.std.proofs.Common.{ap}
use Rattle.prefixes.specs.Payload.{block_cmp, block_of, prefix_cmp, vrp_cmp, width_of}
use Rattle.prefixes.specs.declared.prefix.IpPrefix.TheVariants.{V4, V6}

pub block_total : IsTotalOrder block_cmp
block_total = then_total (on_total (λ p. p.addr) nat_cmp_total) (on_total (λ p. p.len) nat_cmp_total)

pub prefix_total : IsTotalOrder prefix_cmp
prefix_total = then_total (on_total width_of nat_cmp_total) (on_total block_of block_total)

pub vrp_total : IsTotalOrder vrp_cmp
vrp_total = then_total (on_total (λ v. v.prefix) prefix_total) (then_total (on_total (λ v. v.max_len) nat_cmp_total) (on_total (λ v. v.asn) nat_cmp_total))

-- two orders, the second if the first ties
both_equal : (a b : Ordering) → ordering_then a b ≡ Equal → (a ≡ Equal) × (b ≡ Equal)
both_equal Less b h = cc
both_equal Equal b h = (refl, h)
both_equal Greater b h = cc

pub block_exact : IsAntisymmetric block_cmp
block_exact p q h =
    let parts = both_equal _ _ h in
    let addr = nat_cmp-IsAntisymmetric p.addr q.addr parts.0 in
    let len = nat_cmp-IsAntisymmetric p.len q.len parts.1 in
    λ i. record { addr = addr i; len = len i }

pub prefix_exact : IsAntisymmetric prefix_cmp
prefix_exact (V4 p) (V4 q) h = ap V4 (block_exact p q h)
prefix_exact (V6 p) (V6 q) h = ap V6 (block_exact p q h)
prefix_exact (V4 p) (V6 q) h = cc
prefix_exact (V6 p) (V4 q) h = cc

pub vrp_exact : IsAntisymmetric vrp_cmp
vrp_exact v w h =
    let parts = both_equal _ _ h in
    let rest = both_equal _ _ parts.1 in
    let prefix = prefix_exact v.prefix w.prefix parts.0 in
    let max_len = nat_cmp-IsAntisymmetric v.max_len w.max_len rest.0 in
    let asn = nat_cmp-IsAntisymmetric v.asn w.asn rest.1 in
    λ i. record { prefix = prefix i; max_len = max_len i; asn = asn i }
