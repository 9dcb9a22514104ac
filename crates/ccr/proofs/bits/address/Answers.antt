use Rattle.std.proofs.Common.{◌<◌, ◌^◌, ℕ, subst, sym, arith}
use Rattle.prefixes.specs.Address.{HasNoHostBits}
use Rattle.der_lite.specs.Der.{bit_count}
use Rattle.der_lite.specs.Cursors.{bits_content}
use Rattle.payloads.proofs.RoaAddresses.{shifted, address_bound, no_host_bits}
use Rattle.ccr.proofs.bits.address.Goals as goal

pub returns-clause-value : goal.returns-clause-value
returns-clause-value c =
    shifted c.args.bits.unused c.args.bits.bytes.now c.args.width c.requires.valid c.number.ensures.bytes c.requires.within c.requires.narrow c.number.result _
    c.number.ensures.value (omega (arith, c.from.ensures, c.from-2.ensures))

pub returns-clause-in_family : goal.returns-clause-in_family
returns-clause-in_family c =
    subst (λ (n : ℕ). n < 2 ^ c.args.width) (sym (returns-clause-value c))
    (address_bound c.args.bits.unused c.args.bits.bytes.now c.args.width c.requires.valid c.number.ensures.bytes c.requires.within)

pub returns-clause-no_host_bits : goal.returns-clause-no_host_bits
returns-clause-no_host_bits c =
    subst (λ (n : ℕ). HasNoHostBits c.args.width n (bit_count (bits_content c.args.bits))) (sym (returns-clause-value c))
    (no_host_bits c.args.bits.unused c.args.bits.bytes.now c.args.width c.requires.valid c.number.ensures.bytes c.requires.within)
