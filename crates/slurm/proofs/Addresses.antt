-- Two prefixes share an address exactly if one covers the other.
use Rattle.std.proofs.Common.{◌≡◌, ◌⊎◌, inl, inr, ℕ, ◌<◌, ◌≤◌, ◌-◌, ◌/◌, ◌^◌, true, false, refl, sym, ap, ◌∙◌, arith}
use Rattle.std.specs.Prelude.{◌||◌}
use Rattle.std.proofs.Math.Bool.{or-true}
use Rattle.std.proofs.lemmas.Bool.{and_parts, cases_lt}
use Rattle.prefixes.specs.Address.{Block, IsPrefix, contains, first_bits}
use Rattle.prefixes.specs.Payload.{block_of, covers, width_of}
use Rattle.prefixes.specs.declared.prefix.IpPrefix.{IpPrefix}
use Rattle.prefixes.specs.declared.prefix.IpPrefix.TheVariants.{V4, V6}
use Rattle.prefixes.proofs.Basics.{eq_of, eq_true}
use Rattle.slurm.specs.Uniting.{HasCommonAddress, IsAddress, SharesAddress, shares_address}
use Rattle.slurm.proofs.Chained.{either_true, true_both}
use Rattle.slurm.proofs.Sweeping.{covers_onward, fewer_bits, le_true}

-- the first address of a prefix
abbrev first_address : IpPrefix → IpPrefix
first_address (V4 p) = V4 (record { addr = p.addr; len = 32 })
first_address (V6 p) = V6 (record { addr = p.addr; len = 128 })

is_address : (p : IpPrefix) → IsPrefix (width_of p) (block_of p) → IsAddress (first_address p)
is_address (V4 p) h = (refl, h.address)
is_address (V6 p) h = (refl, h.address)

covers_first : (p : IpPrefix) → IsPrefix (width_of p) (block_of p) → covers p (first_address p) ≡ true
covers_first (V4 p) h = true_both _ _ (le_true p.len 32 h.in_family) (eq_true (first_bits 32 p.addr p.len) (first_bits 32 p.addr p.len) refl)
covers_first (V6 p) h = true_both _ _ (le_true p.len 128 h.in_family) (eq_true (first_bits 128 p.addr p.len) (first_bits 128 p.addr p.len) refl)

common_of : (p q : IpPrefix) → IsPrefix (width_of q) (block_of q) → covers p q ≡ true → HasCommonAddress p q
common_of p q h it = (first_address q, is_address q h, covers_onward p q (first_address q) h it (covers_first q h), covers_first q h)

turned : (p q : IpPrefix) → HasCommonAddress q p → HasCommonAddress p q
turned p q h = (h.0, h.1, h.3, h.2)

-- The shorter of two blocks that contain an address contains the longer one.
shorter_contains : (w : ℕ) (p q x : Block) → p.len ≤ q.len → q.len ≤ w → contains w p x ≡ true → contains w q x ≡ true → contains w p q ≡ true
shorter_contains w p q x short within one other =
    let bits = fewer_bits w x.addr p.len q.len short within ∙ ap (λ n. n / 2 ^ (q.len - p.len)) (sym (eq_of _ _ (and_parts _ _ other).1)) ∙ sym (fewer_bits w q.addr p.len q.len short within) in
    true_both _ _ (le_true p.len q.len short) (eq_true (first_bits w p.addr p.len) (first_bits w q.addr p.len) (eq_of _ _ (and_parts _ _ one).1 ∙ bits))

one_contains : (w : ℕ) (p q x : Block) → p.len ≤ w → q.len ≤ w → contains w p x ≡ true → contains w q x ≡ true → (contains w p q || contains w q p) ≡ true
one_contains w p q x p_within q_within one other = by_length (cases_lt p.len q.len)
  where
    by_length : (p.len < q.len) ⊎ (q.len ≤ p.len) → (contains w p q || contains w q p) ≡ true
    by_length (inl h) = ap (λ b. b || contains w q p) (shorter_contains w p q x (omega (arith, h)) q_within one other)
    by_length (inr h) = ap (λ b. contains w p q || b) (shorter_contains w q p x h p_within other one) ∙ or-true (contains w p q)

shares : (p q x : IpPrefix) → IsPrefix (width_of p) (block_of p) → IsPrefix (width_of q) (block_of q) → covers p x ≡ true → covers q x ≡ true → shares_address p q ≡ true
shares (V4 p) (V4 q) (V4 x) h k one other = one_contains 32 p q x h.in_family k.in_family one other
shares (V6 p) (V6 q) (V6 x) h k one other = one_contains 128 p q x h.in_family k.in_family one other
shares (V4 p) q (V6 x) h k one other = absurd (let e : false ≡ true = one in cc)
shares (V6 p) q (V4 x) h k one other = absurd (let e : false ≡ true = one in cc)
shares (V4 p) (V6 q) (V4 x) h k one other = absurd (let e : false ≡ true = other in cc)
shares (V6 p) (V4 q) (V6 x) h k one other = absurd (let e : false ≡ true = other in cc)

pub shares_an_address : SharesAddress
shares_an_address p q h k = (
  (λ it. by_cover (either_true (covers p q) (covers q p) it)),
  (λ c. shares p q c.0 h k c.2 c.3),
)
  where
    by_cover : (covers p q ≡ true) ⊎ (covers q p ≡ true) → HasCommonAddress p q
    by_cover (inl it) = common_of p q k it
    by_cover (inr it) = turned p q (common_of q p h it)
