use Rattle.std.proofs.Common.{arith}
use Rattle.der_lite.proofs.Integers.{number_next, number_within}
use Rattle.ccr.proofs.bits.number.Goals as goal

-- at most fifteen bytes are in front of another
pub overflow_mul-number : goal.overflow_mul-number
overflow_mul-number c =
    let front = number_within c.args.bytes.now c.loop-byte.byte-index 15 (λ k. omega (arith, c.type_inv.bytes k)) (omega (arith, c.loop-byte-test.true)) (omega (arith, c.loop-byte-test.true, c.requires)) in
    omega (arith, front, c.loop-byte.invariant)

pub overflow_add-number : goal.overflow_add-number
overflow_add-number c =
    let front = number_within c.args.bytes.now c.loop-byte.byte-index 15 (λ k. omega (arith, c.type_inv.bytes k)) (omega (arith, c.loop-byte-test.true)) (omega (arith, c.loop-byte-test.true, c.requires)) in
    omega (arith, front, c.loop-byte.invariant, c.from.ensures, c.type_inv.bytes c.loop-byte.byte-index)

pub loop-byte-preserved : goal.loop-byte-preserved
loop-byte-preserved c = omega (arith, c.loop-byte.invariant, c.from.ensures, number_next c.args.bytes.now c.loop-byte.byte-index c.loop-byte-test.true)
