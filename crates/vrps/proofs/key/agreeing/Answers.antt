use Rattle.std.proofs.Common.{◌≡◌, ◌∙◌, inl, inr, ℕ, ◌+◌, ◌-◌, ◌/◌, ◌%◌, ◌*◌, ◌==◌, ◌^◌, ◌<◌, ◌≤◌, ap, sym, subst, arith}
use Rattle.std.specs.Prelude.{nat_le}
use Rattle.std.proofs.lemmas.Bool.{cases_lt}
use Rattle.std.proofs.lemmas.Bool.Decides.{nat_tests}
use Rattle.std.proofs.lemmas.Nat.{and_le_l, and_le_r, div_below, leading_length, mod_below, pow-add, pow_pos, shr_split, xor_lt, xor_shr}
use Rattle.std.specs.Int.Bits.{xor_add_and, xor_self}
use Rattle.std.specs.Int.RustNames.{bit_xor}
use Rattle.vrps.proofs.Grouped.{power_rises}
use Rattle.vrps.proofs.key.agreeing.Goals as goal

-- If the first bits agree, the sum without carry is a number of the other bits.
no_bits : (a b host : ℕ) → a / 2 ^ host ≡ b / 2 ^ host → bit_xor a b < 2 ^ host
no_bits a b host same =
    let none : bit_xor a b / 2 ^ host ≡ 0 = xor_shr a b host ∙ ap (λ n. bit_xor n (b / 2 ^ host)) same ∙ xor_self (b / 2 ^ host) in
    let split = shr_split (bit_xor a b) host in
    let low = mod_below (bit_xor a b) (2 ^ host) (pow_pos host) in
    let zero : bit_xor a b % 2 ^ host ≡ 0 * 2 ^ host + bit_xor a b % 2 ^ host = omega arith in
    subst (λ n. n < 2 ^ host) (zero ∙ ap (λ n. n * 2 ^ host + bit_xor a b % 2 ^ host) (sym none) ∙ split) low

-- and the other way round
same_bits : (a b host : ℕ) → bit_xor a b < 2 ^ host → a / 2 ^ host ≡ b / 2 ^ host
same_bits a b host low =
    let none = sym (xor_shr a b host) ∙ below_one (bit_xor a b) (2 ^ host) low in
    let sum = xor_add_and (a / 2 ^ host) (b / 2 ^ host) in
    let one = and_le_l (a / 2 ^ host) (b / 2 ^ host) in
    let other = and_le_r (a / 2 ^ host) (b / 2 ^ host) in
    omega (arith, none, sum, one, other)
  where
    below_one : (n m : ℕ) → n < m → n / m ≡ 0
    below_one n m h = let few = div_below n m 1 (omega (arith, h)) (omega (arith, h)) in omega (arith, few)

told : (x y len bits : ℕ) → (x ≡ y → len ≤ bits) → (len ≤ bits → x ≡ y) → (x == y) ≡ nat_le len bits
told x y len bits f g = grind (arith, nat_tests, f, g)

pub returns-clause-agree : goal.returns-clause-agree
returns-clause-agree c = λ len within.
    let size = leading_length 128 (bit_xor c.args.a c.args.b) (xor_lt 128 c.args.a c.args.b c.ranges.a.fits c.ranges.b.fits) in
    let zeros = size.1 in
    told (c.args.a / 2 ^ (128 - len)) (c.args.b / 2 ^ (128 - len)) len _
    (λ same.
    let below = no_bits c.args.a c.args.b (128 - len) same in
    let few : size.0 ≤ 128 - len = elim (cases_lt (128 - len) size.0) [
      | inl more ↦ absurd (
          let large = power_rises (128 - len + 1) size.0 (omega (arith, more)) in
          let power = pow-add 2 (128 - len) 1 in
          let high = size.3 in
          omega (arith, large, power, high, below))
      | inr less ↦ less
    ] in
    omega (arith, zeros, few, within))
    (λ many.
    let large = power_rises size.0 (128 - len) (omega (arith, zeros, many)) in
    let low = size.2 in
    same_bits c.args.a c.args.b (128 - len) (omega (arith, large, low)))
