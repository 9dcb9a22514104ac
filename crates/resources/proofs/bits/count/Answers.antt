use Rattle.std.proofs.Common.{arith}
use Rattle.resources.proofs.BitLaws.{total}
use Rattle.resources.proofs.bits.count.Goals as goal

pub overflow_mul-result : goal.overflow_mul-result
overflow_mul-result c = let t = total c.args.bits.unused c.args.bits.bytes.now c.requires.valid in omega (arith, t.0, t.1, c.requires.few)

pub returns : goal.returns
returns c = let t = total c.args.bits.unused c.args.bits.bytes.now c.requires.valid in omega (arith, t.0, t.1, c.from.ensures)
