use Rattle.der_lite.specs.Der.{number}
use Rattle.points.proofs.PayloadOrders.{ordered, is_above}
use Rattle.points.proofs.numbers.is_higher.Goals as goal

pub returns : goal.returns
returns c =
    let one = c.without_zeros-one in
    let other = c.without_zeros-other in
    let by = ordered one.result.now other.result.now one.ensures.bytes other.ensures.bytes one.ensures.fewest other.ensures.fewest in
    let above = is_above (number c.args.one.now) (number c.args.other.now) in
    cc
