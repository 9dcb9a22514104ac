use Rattle.std.proofs.Common.{ℕ, ◌/◌, ◌^◌, ap, ◌∙◌, arith}
use Rattle.resources.proofs.BitLaws.{total, first_bits}
use Rattle.resources.proofs.bits.spelled.Goals as goal

pub number-requires : goal.number-requires
number-requires c = let t = total c.args.bits.unused c.args.bits.bytes.now c.requires.valid in omega (arith, t.0, t.1, c.requires.few)

pub returns : goal.returns
returns c =
    ap (λ (k : ℕ). k / 2 ^ c.args.bits.unused) c.number.ensures.value ∙ first_bits c.args.bits.unused c.args.bits.bytes.now c.requires.valid c.number.ensures.bytes
