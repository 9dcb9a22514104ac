use Rattle.std.proofs.Common.{◌∙◌, ap, arith}
use Rattle.der_lite.specs.Values.{bits_value, bits_number}
use Rattle.der_lite.specs.Cursors.{bits_content}
use Rattle.payloads.proofs.RoaAddresses.{prefix_is}
use Rattle.ccr.proofs.bits.prefix_of.Goals as goal

pub returns : goal.returns
returns g c =
    let content = bits_content c.args.bits in
    prefix_is content g.F.Family.WIDTH c.address.result _ c.unwrap.result c.requires (omega (arith, c.if-bits-width.false, c.from-width.ensures, c.from.ensures, c.WIDTH.ensures))
    (rw c.unwrap.ensures at c.new.ensures.ok) (c.address.ensures.value ∙ ap (bits_number (bits_value content)) c.WIDTH-2.ensures) (omega (arith, c.from-2.ensures))
