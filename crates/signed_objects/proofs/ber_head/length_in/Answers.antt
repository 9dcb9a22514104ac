use Rattle.std.proofs.Common.{◌<◌, length, get_or, sym, arith}
use Rattle.der_lite.proofs.Integers.{number_next}
use Rattle.signed_objects.proofs.LongLengths.{too_long}
use Rattle.signed_objects.proofs.ber_head.length_in.Goals as goal

pub returns-then-length-ge16777216 : goal.returns-then-length-ge16777216
returns-then-length-ge16777216 c =
    let l = c.loop-octet in
    let bytes = c.args.octets.now in
    let here : l.octet-index < length bytes = omega (arith, c.loop-octet-test.true, l.auto.octet-index-end) in
    sym (too_long bytes l.octet-index (get_or bytes l.octet-index 0) (number_next bytes l.octet-index here) (omega (arith, l.invariant.0, c.if-length-ge16777216.true)))

pub loop-octet-preserved : goal.loop-octet-preserved
loop-octet-preserved c =
    let l = c.loop-octet in
    let bytes = c.args.octets.now in
    let here : l.octet-index < length bytes = omega (arith, c.loop-octet-test.true, l.auto.octet-index-end) in (
      omega (arith, number_next bytes l.octet-index here, l.invariant.0, c.from.ensures),
      omega (arith, c.if-length-ge16777216.false, c.from.ensures, c.type_inv.octets l.octet-index),
    )
