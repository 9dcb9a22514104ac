use Rattle.std.proofs.Common.{rules, ◌≡◌, ◌∙◌, ℕ, ◌+◌, ◌-◌, ◌/◌, ◌==◌, ◌^◌, ◌<◌, ◌≤◌, true, ap, sym, arith}
use Rattle.std.specs.Prelude.{nat_le, nat_lt}
use Rattle.std.proofs.lemmas.Bool.Decides.{nat_tests}
use Rattle.prefixes.specs.Address.{first_bits}
use Rattle.prefixes.specs.Payload.{width_of}
use Rattle.vrps.specs.Keys.{agree, key_prefix}
use Rattle.vrps.proofs.key.Key.shared_lengths.Goals as goal

number_itself : (a b : ℕ) → a ≡ b → (a == b) ≡ true
number_itself a b h = grind (arith, nat_tests)

no_longer : (a b : ℕ) → nat_le a b ≡ true → a ≤ b
no_longer a b h = grind (arith, nat_tests)

-- of addresses of 32 bits the first 96 of 128 are zero
upper : (a b : ℕ) → a < 4294967296 → b < 4294967296 → first_bits 128 a 96 ≡ first_bits 128 b 96
upper a b low high = omega (arith, low, high)

moved : (len bits : ℕ) → 96 ≤ bits → nat_le (96 + len) bits ≡ nat_lt len (bits - 96 + 1)
moved len bits h = grind (arith, nat_tests, h)

all_upper : (a b bits : ℕ) → a < 4294967296 → b < 4294967296 → ((len : ℕ) → len ≤ 128 → (first_bits 128 a len == first_bits 128 b len) ≡ nat_le len bits) → 96 ≤ bits
all_upper a b bits low high h = no_longer 96 bits (sym (h 96 (omega arith)) ∙ number_itself _ _ (upper a b low high))

pub overflow_sub-result : goal.overflow_sub-result
overflow_sub-result c =
    let q = c.addr.ensures.prefix.address in
    all_upper c.from.result c.addr.result c.agreeing.result (search rules) (omega (arith, q, c.addr.ensures.value)) c.agreeing.ensures.agree

pub returns-in-V4-V4 : goal.returns-in-V4-V4
returns-in-V4-V4 c = λ len within.
    let width : width_of c.args.prefix.now ≡ 32 = ap width_of c.in-V4-V4.is-1 in
    let short : len ≤ 32 = omega (arith, within, width) in
    let host : 128 - (96 + len) ≡ 32 - len = omega (arith, short) in
    (λ i. agree (key_prefix (c.in-V4-V4.is-0 i)) (c.in-V4-V4.is-1 i) len)
    ∙ (λ i. sym c.from.ensures i / 2 ^ sym host i == sym c.addr.ensures.value i / 2 ^ sym host i)
    ∙ c.agreeing.ensures.agree (96 + len) (omega (arith, short))
    ∙ moved len c.agreeing.result (overflow_sub-result c)
