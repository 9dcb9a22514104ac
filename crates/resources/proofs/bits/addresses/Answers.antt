use Rattle.std.proofs.Common.{◌≡◌, ℕ, ◌+◌, ◌-◌, ◌*◌, ◌%◌, ◌^◌, ◌≤◌, List, Bool, length, sym, ap, ◌∙◌, arith}
use Rattle.std.proofs.Math.Nat.{pow-le-pow_right}
use Rattle.der_lite.specs.Values.{bits_value, bits_number}
use Rattle.der_lite.specs.Cursors.{bits_content}
use Rattle.resources.specs.Resources.{range_of}
use Rattle.resources.proofs.BitLaws.{shifted, whole, none}
use Rattle.resources.proofs.bits.addresses.Goals as goal
use Rattle.resources.proofs.bits.addresses.Goals.{then-rest-eq128, else-rest-eq128}

module _ (c : goal.After-row_known-1) where
  abbrev bits : List Bool
  bits = bits_value (bits_content c.args.bits)

  rest_is : c.from.result - c.count.result ≡ c.args.width - length bits
  rest_is = omega (arith, c.from.ensures, c.count.ensures)

  low_is : c.if-rest-eq128.low ≡ bits_number bits c.args.width
  low_is = elim c.if-rest-eq128.branch [
    | then-rest-eq128 w ↦ w.low-is ∙ sym (none bits c.args.width (omega (arith, rest_is, w.if-rest-eq128.true, c.requires.narrow, c.requires.within)))
    | else-rest-eq128 w ↦
        w.low-is ∙ ap (λ (k : ℕ). k * 2 ^ (c.from.result - c.count.result) % 2 ^ 128) w.spelled.ensures
        ∙ ap (λ (k : ℕ). bits_number bits (length bits) * 2 ^ k % 2 ^ 128) rest_is ∙ shifted bits c.args.width c.requires.within c.requires.narrow
  ]

  ones_are : c.ones.result + 1 ≡ 2 ^ (c.args.width - length bits)
  ones_are = c.ones.ensures ∙ ap (λ (k : ℕ). 2 ^ k) rest_is

pub overflow_add-result : goal.overflow_add-result
overflow_add-result c =
    let power : 2 ^ c.args.width ≤ 2 ^ 128 = pow-le-pow_right {n = 2} (omega arith) c.requires.narrow in
    omega (arith, low_is c, ones_are c, whole (bits c) c.args.width c.requires.within, power)

pub returns-clause-exact : goal.returns-clause-exact
returns-clause-exact c =
    let high_is : c.if-rest-eq128.low + c.ones.result ≡ bits_number (bits c) c.args.width + 2 ^ (c.args.width - length (bits c)) - 1 = omega (arith, low_is c, ones_are c) in
    ap (λ (k : ℕ). range_of k (c.if-rest-eq128.low + c.ones.result)) (low_is c) ∙ ap (λ (k : ℕ). range_of (bits_number (bits c) c.args.width) k) high_is
