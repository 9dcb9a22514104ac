use Rattle.std.proofs.Common.{◌≡◌, ◌+◌, ◌/◌, ℕ, ltb, length, ap, ◌∙◌, arith}
use Rattle.resources.proofs.BitLaws.{longer_bytes}
use Rattle.resources.proofs.bits.is_longer.Goals as goal

pub returns : goal.returns
returns c =
    let sum : c.from.result + c.from-2.result ≡ c.args.width + c.args.bits.unused = omega (arith, c.from.ensures, c.from-2.ensures) in
    ap (λ (k : ℕ). ltb (k / 8) (length c.args.bits.bytes.now)) sum ∙ longer_bytes c.args.bits.unused c.args.bits.bytes.now c.args.width c.requires
