-- Prefixes in order: what covers a prefix, and what is before it.
use Rattle.std.proofs.Common.{◌≡◌, ◌∙◌, ◌⊎◌, inl, inr, ℕ, ◌+◌, ◌-◌, ◌*◌, ◌/◌, ◌%◌, ◌^◌, ◌<◌, ◌≤◌, true, false, ap, sym, subst, refl, arith}
use Rattle.std.specs.Prelude.{◌&&◌, nat_le}
use Rattle.std.specs.Ordering.{is_le, nat_cmp, ordering_then}
use Rattle.std.specs.declared.cmp.Ordering.TheVariants.{Less}
use Rattle.std.proofs.Math.Nat.{div-mul-le_self, mul-le-mul_right}
use Rattle.std.proofs.lemmas.Bool.{and_parts}
use Rattle.std.proofs.lemmas.Bool.Decides.{nat_tests}
use Rattle.std.proofs.lemmas.Cmp.{by_ranked, ranked}
use Rattle.std.proofs.lemmas.Nat.{le-div, pow-add, pow_pos, shr-shr, shr_split}
use Rattle.prefixes.specs.Address.{Block, IsPrefix, contains, first_bits}
use Rattle.prefixes.specs.Payload.{block_cmp, block_of, covers, prefix_cmp, width_of}
use Rattle.prefixes.specs.declared.prefix.IpPrefix.{IpPrefix}
use Rattle.prefixes.specs.declared.prefix.IpPrefix.TheVariants.{V4, V6}
use Rattle.vrps.specs.Keys.{agree, cut, cut_block, up_to}
use Rattle.prefixes.proofs.Basics.{eq_of, eq_true}

-- p is before q, or p is q's address and not longer
rank : (p q : Block) → is_le (block_cmp p q) ≡ true → (p.addr < q.addr) ⊎ ((p.addr ≡ q.addr) × (p.len ≤ q.len))
rank p q h =
    by_ranked (p.addr < q.addr) (p.addr ≡ q.addr) (q.addr < p.addr) (nat_cmp p.addr q.addr) (ranked p.addr q.addr (nat_cmp p.addr q.addr) refl)
    (λ is less. inl less)
    (λ is same. inr (same, lens (subst (λ o. is_le (ordering_then o (nat_cmp p.len q.len)) ≡ true) is h)))
    (λ is more. absurd (let e : false ≡ true = subst (λ o. is_le (ordering_then o (nat_cmp p.len q.len)) ≡ true) is h in cc))
  where
    lens : is_le (nat_cmp p.len q.len) ≡ true → p.len ≤ q.len
    lens h =
        by_ranked (p.len < q.len) (p.len ≡ q.len) (q.len < p.len) (nat_cmp p.len q.len) (ranked p.len q.len (nat_cmp p.len q.len) refl)
        (λ is less. omega (arith, less))
        (λ is same. omega (arith, same))
        (λ is more. absurd (let e : false ≡ true = subst (λ o. is_le o ≡ true) is h in cc))

not_rank : (p q : Block) → is_le (block_cmp p q) ≡ false → (q.addr < p.addr) ⊎ ((p.addr ≡ q.addr) × (q.len < p.len))
not_rank p q h =
    by_ranked (p.addr < q.addr) (p.addr ≡ q.addr) (q.addr < p.addr) (nat_cmp p.addr q.addr) (ranked p.addr q.addr (nat_cmp p.addr q.addr) refl)
    (λ is less. absurd (let e : true ≡ false = subst (λ o. is_le (ordering_then o (nat_cmp p.len q.len)) ≡ false) is h in cc))
    (λ is same. inr (same, lens (subst (λ o. is_le (ordering_then o (nat_cmp p.len q.len)) ≡ false) is h)))
    (λ is more. inl more)
  where
    lens : is_le (nat_cmp p.len q.len) ≡ false → q.len < p.len
    lens h =
        by_ranked (p.len < q.len) (p.len ≡ q.len) (q.len < p.len) (nat_cmp p.len q.len) (ranked p.len q.len (nat_cmp p.len q.len) refl)
        (λ is less. absurd (let e : true ≡ false = subst (λ o. is_le o ≡ false) is h in cc))
        (λ is same. absurd (let e : true ≡ false = subst (λ o. is_le o ≡ false) is h in cc))
        (λ is more. more)

strictly : (p q : Block) → block_cmp p q ≡ Less → (p.addr < q.addr) ⊎ ((p.addr ≡ q.addr) × (p.len < q.len))
strictly p q h =
    by_ranked (p.addr < q.addr) (p.addr ≡ q.addr) (q.addr < p.addr) (nat_cmp p.addr q.addr) (ranked p.addr q.addr (nat_cmp p.addr q.addr) refl)
    (λ is less. inl less)
    (λ is same. inr (same, ranked p.len q.len Less (sym (subst (λ o. ordering_then o (nat_cmp p.len q.len) ≡ Less) is h))))
    (λ is more. absurd (let e = subst (λ o. ordering_then o (nat_cmp p.len q.len) ≡ Less) is h in cc))

-- The address without the bits after the first ones
abbrev cut_addr : ℕ → ℕ → ℕ → ℕ
cut_addr w x c = first_bits w x c * 2 ^ (w - c)

cut_below : (w x c : ℕ) → cut_addr w x c ≤ x
cut_below w x c = div-mul-le_self x (2 ^ (w - c))

-- Fewer bits make no larger address.
cut_rises : (w x a c : ℕ) → a ≤ c → c ≤ w → cut_addr w x a ≤ cut_addr w x c
cut_rises w x a c le within =
    let split : w - a ≡ (w - c) + (c - a) = omega (arith, le, within) in
    let turned : w - a ≡ (c - a) + (w - c) = omega (arith, le, within) in
    let bits : first_bits w x a ≡ first_bits w x c / 2 ^ (c - a) = ap (λ n. x / 2 ^ n) split ∙ sym (shr-shr x (w - c) (c - a)) in
    let power : 2 ^ (w - a) ≡ 2 ^ (c - a) * 2 ^ (w - c) = ap (λ n. 2 ^ n) turned ∙ pow-add 2 (c - a) (w - c) in
    let less : first_bits w x c / 2 ^ (c - a) * 2 ^ (c - a) * 2 ^ (w - c) ≤ first_bits w x c * 2 ^ (w - c) =
    mul-le-mul_right (2 ^ (w - c)) (div-mul-le_self (first_bits w x c) (2 ^ (c - a))) in
    let is : cut_addr w x a ≡ first_bits w x c / 2 ^ (c - a) * 2 ^ (c - a) * 2 ^ (w - c) =
    (λ i. bits i * power i) ∙ assoc (first_bits w x c / 2 ^ (c - a)) (2 ^ (c - a)) (2 ^ (w - c)) in
    subst (λ n. n ≤ cut_addr w x c) (sym is) less
  where
    assoc : (k m n : ℕ) → k * (m * n) ≡ k * m * n
    assoc k m n = grind arith

bits_rise : (x y j : ℕ) → x ≤ y → x / 2 ^ j ≤ y / 2 ^ j
bits_rise x y j h = le-div (x / 2 ^ j) y (2 ^ j) (pow_pos j) (let k = div-mul-le_self x (2 ^ j) in omega (arith, h, k))

-- An address of a prefix that covers another is the other's, cut.
covering_addr : (w : ℕ) (p q : Block) → IsPrefix w p → first_bits w p.addr p.len ≡ first_bits w q.addr p.len → p.addr ≡ cut_addr w q.addr p.len
covering_addr w p q h e =
    let whole = shr_split p.addr (w - p.len) in
    let none : p.addr % 2 ^ (w - p.len) ≡ 0 = h.no_host_bits in
    let is : p.addr ≡ cut_addr w p.addr p.len = omega (arith, whole, none) in
    is ∙ ap (λ n. n * 2 ^ (w - p.len)) e

no_longer : (a b : ℕ) → nat_le a b ≡ true → a ≤ b
no_longer a b h = grind (arith, nat_tests)

-- What is after the cut of a prefix, and covers it, is longer.
block_after : (w : ℕ) (p r : Block) (c : ℕ) → IsPrefix w p → c ≤ w → is_le (block_cmp p (cut_block w r c)) ≡ false → contains w p r ≡ true → c < p.len
block_after w p r c h within after it =
    let parts = and_parts (nat_le p.len r.len) _ it in
    let addr : p.addr ≡ cut_addr w r.addr p.len = covering_addr w p r h (eq_of _ _ parts.1) in
    elim (not_rank p (cut_block w r c) after) [
      | inl more ↦ by_length (λ short. let k = cut_rises w r.addr p.len c short within in absurd (omega (arith, k, addr, more)))
      | inr more ↦ more.1
    ]
  where
    by_length : (p.len ≤ c → c < p.len) → c < p.len
    by_length f = grind (arith, f)

-- What is before q, which is not after the cut of r, and covers r: it agrees with q, and is shorter than the cut.
block_before : (w : ℕ) (p q r : Block) (c : ℕ) → IsPrefix w p → c ≤ w → is_le (block_cmp q (cut_block w r c)) ≡ true → block_cmp p q ≡ Less → contains w p r ≡ true
    → p.len ≤ c → (first_bits w q.addr p.len ≡ first_bits w r.addr p.len) × (p.len < c)
block_before w p q r c h within up less it short =
    let parts = and_parts (nat_le p.len r.len) _ it in
    let bits = eq_of _ _ parts.1 in
    let addr : p.addr ≡ cut_addr w r.addr p.len = covering_addr w p r h bits in
    let cut_low = cut_below w r.addr c in
    let high : q.addr ≤ r.addr = elim (rank q (cut_block w r c) up) [ inl k ↦ omega (arith, k, cut_low) | inr k ↦ omega (arith, k.0, cut_low) ] in
    let low : p.addr ≤ q.addr = elim (strictly p q less) [ inl k ↦ omega (arith, k) | inr k ↦ omega (arith, k.0) ] in
    let one = bits_rise p.addr q.addr (w - p.len) low in
    let other = bits_rise q.addr r.addr (w - p.len) high in (
      omega (arith, one, other, bits),
      by_length (λ same. elim (strictly p q less) [
        | inl k ↦ elim (rank q (cut_block w r c) up) [ inl j ↦ absurd (let e = whole same addr in omega (arith, k, j, e)) | inr j ↦ absurd (let e = whole same addr in omega (arith, k, j.0, e)) ]
        | inr k ↦ elim (rank q (cut_block w r c) up) [ inl j ↦ absurd (let e = whole same addr in omega (arith, k.0, j, e)) | inr j ↦ absurd (omega (arith, k.1, j.1, same)) ]
      ]),
    )
  where
    whole : p.len ≡ c → p.addr ≡ cut_addr w r.addr p.len → p.addr ≡ cut_addr w r.addr c
    whole same addr = addr ∙ ap (λ n. cut_addr w r.addr n) same

    by_length : (p.len ≡ c → p.len < c) → p.len < c
    by_length f = grind (arith, f, short)

-- Of two prefixes that cover a third the one that is before the other is shorter.
block_shorter : (w : ℕ) (p q r : Block) → IsPrefix w p → IsPrefix w q → block_cmp p q ≡ Less → contains w p r ≡ true → contains w q r ≡ true → p.len < q.len
block_shorter w p q r h k less it other =
    let parts = and_parts (nat_le p.len r.len) _ it in
    let others = and_parts (nat_le q.len r.len) _ other in
    let addr : p.addr ≡ cut_addr w r.addr p.len = covering_addr w p r h (eq_of _ _ parts.1) in
    let above : q.addr ≡ cut_addr w r.addr q.len = covering_addr w q r k (eq_of _ _ others.1) in
    elim (strictly p q less) [
      | inl lower ↦ by_length (λ long. let rises = cut_rises w r.addr q.len p.len long h.in_family in absurd (omega (arith, rises, addr, above, lower)))
      | inr lower ↦ lower.1
    ]
  where
    by_length : (q.len ≤ p.len → p.len < q.len) → p.len < q.len
    by_length f = grind (arith, f)

-- The same of prefixes of either family
pub longer_after : (p r : IpPrefix) (c : ℕ) → IsPrefix (width_of p) (block_of p) → c ≤ width_of r → up_to p (cut r c) ≡ false → covers p r ≡ true → c < (block_of p).len
longer_after (V4 p) (V4 r) c h within after it = block_after 32 p r c h within after it
longer_after (V6 p) (V6 r) c h within after it = block_after 128 p r c h within after it
longer_after (V4 p) (V6 r) c h within after it = absurd (let e : false ≡ true = it in cc)
longer_after (V6 p) (V4 r) c h within after it = absurd (let e : false ≡ true = it in cc)

pub agrees_before : (p q r : IpPrefix) (c : ℕ) → IsPrefix (width_of p) (block_of p) → c ≤ width_of r → up_to q (cut r c) ≡ true → prefix_cmp p q ≡ Less → covers p r ≡ true → (block_of p).len ≤ c
    → (agree q r (block_of p).len ≡ true) × ((block_of p).len < c)
agrees_before (V4 p) (V4 q) (V4 r) c h within up less it short = let both = block_before 32 p q r c h within up less it short in (eq_true _ _ both.0, both.1)
agrees_before (V6 p) (V6 q) (V6 r) c h within up less it short = let both = block_before 128 p q r c h within up less it short in (eq_true _ _ both.0, both.1)
agrees_before (V4 p) (V6 q) (V4 r) c h within up less it short = absurd (let e : false ≡ true = up in cc)
agrees_before (V6 p) (V4 q) (V6 r) c h within up less it short = absurd (cc)
agrees_before (V4 p) q (V6 r) c h within up less it short = absurd (let e : false ≡ true = it in cc)
agrees_before (V6 p) q (V4 r) c h within up less it short = absurd (let e : false ≡ true = it in cc)

pub shorter_before : (p q r : IpPrefix) → IsPrefix (width_of p) (block_of p) → IsPrefix (width_of q) (block_of q) → prefix_cmp p q ≡ Less → covers p r ≡ true → covers q r ≡ true → (block_of p).len < (block_of q).len
shorter_before (V4 p) (V4 q) (V4 r) h k less it other = block_shorter 32 p q r h k less it other
shorter_before (V6 p) (V6 q) (V6 r) h k less it other = block_shorter 128 p q r h k less it other
shorter_before (V4 p) q (V6 r) h k less it other = absurd (let e : false ≡ true = it in cc)
shorter_before (V6 p) q (V4 r) h k less it other = absurd (let e : false ≡ true = it in cc)
shorter_before (V4 p) (V6 q) (V4 r) h k less it other = absurd (let e : false ≡ true = other in cc)
shorter_before (V6 p) (V4 q) (V6 r) h k less it other = absurd (let e : false ≡ true = other in cc)

-- A prefix covers all that is between it and one that it covers.
block_between : (w : ℕ) (p q r : Block) → IsPrefix w p → IsPrefix w q → is_le (block_cmp p q) ≡ true → is_le (block_cmp q r) ≡ true → contains w p r ≡ true → contains w p q ≡ true
block_between w p q r h k low high it =
    let bits = eq_of _ _ (and_parts (nat_le p.len r.len) _ it).1 in
    let up : p.addr ≤ q.addr = elim (rank p q low) [ inl less ↦ omega (arith, less) | inr same ↦ omega (arith, same.0) ] in
    let down : q.addr ≤ r.addr = elim (rank q r high) [ inl less ↦ omega (arith, less) | inr same ↦ omega (arith, same.0) ] in
    let one = bits_rise p.addr q.addr (w - p.len) up in
    let other = bits_rise q.addr r.addr (w - p.len) down in
    let same : first_bits w p.addr p.len ≡ first_bits w q.addr p.len = omega (arith, one, other, bits) in
    let short : p.len ≤ q.len = elim (rank p q low) [ inl less ↦ longer same less | inr tie ↦ tie.1 ] in
    λ i. le_true p.len q.len short i && eq_true _ _ same i
  where
    le_true : (a b : ℕ) → a ≤ b → nat_le a b ≡ true
    le_true a b h = grind (arith, nat_tests)

    by_length : (q.len ≤ p.len → p.len ≤ q.len) → p.len ≤ q.len
    by_length f = grind (arith, f)

    longer : first_bits w p.addr p.len ≡ first_bits w q.addr p.len → p.addr < q.addr → p.len ≤ q.len
    longer same less = by_length (λ long.
        let whole : q.addr ≡ cut_addr w q.addr q.len = covering_addr w q q k refl in
        let rises = cut_rises w q.addr q.len p.len long h.in_family in
        let is : cut_addr w p.addr p.len ≡ cut_addr w q.addr p.len = ap (λ n. n * 2 ^ (w - p.len)) same in
        let below = cut_below w p.addr p.len in
        absurd (omega (arith, whole, rises, is, below, less)))

-- A prefix that covers another is not after it.
block_up_to : (w : ℕ) (p r : Block) → IsPrefix w p → contains w p r ≡ true → is_le (block_cmp p r) ≡ true
block_up_to w p r h it = elim (is_le (block_cmp p r)) as (λ b. is_le (block_cmp p r) ≡ b → b ≡ true) [ true ↦ λ is. refl | false ↦ λ is. absurd (never is) ] refl
  where
    never : is_le (block_cmp p r) ≡ false → ⊥
    never after =
        let parts = and_parts (nat_le p.len r.len) _ it in
        let addr : p.addr ≡ cut_addr w r.addr p.len = covering_addr w p r h (eq_of _ _ parts.1) in
        let below = cut_below w r.addr p.len in
        let short = no_longer p.len r.len parts.0 in
        elim (not_rank p r after) [ inl more ↦ omega (arith, addr, below, more) | inr more ↦ omega (arith, short, more.1) ]

pub covers_between : (p q r : IpPrefix) → IsPrefix (width_of p) (block_of p) → IsPrefix (width_of q) (block_of q) → up_to p q ≡ true → up_to q r ≡ true → covers p r ≡ true → covers p q ≡ true
covers_between (V4 p) (V4 q) (V4 r) h k low high it = block_between 32 p q r h k low high it
covers_between (V6 p) (V6 q) (V6 r) h k low high it = block_between 128 p q r h k low high it
covers_between (V4 p) q (V6 r) h k low high it = absurd (let e : false ≡ true = it in cc)
covers_between (V6 p) q (V4 r) h k low high it = absurd (let e : false ≡ true = it in cc)
covers_between (V4 p) (V6 q) (V4 r) h k low high it = absurd (let e : false ≡ true = high in cc)
covers_between (V6 p) (V4 q) (V6 r) h k low high it = absurd (let e : false ≡ true = low in cc)

pub covers_up_to : (p r : IpPrefix) → IsPrefix (width_of p) (block_of p) → covers p r ≡ true → up_to p r ≡ true
covers_up_to (V4 p) (V4 r) h it = block_up_to 32 p r h it
covers_up_to (V6 p) (V6 r) h it = block_up_to 128 p r h it
covers_up_to (V4 p) (V6 r) h it = absurd (let e : false ≡ true = it in cc)
covers_up_to (V6 p) (V4 r) h it = absurd (let e : false ≡ true = it in cc)
