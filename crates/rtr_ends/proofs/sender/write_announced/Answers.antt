use Rattle.rtr_ends.proofs.Words.{nat_lt, ◌≡◌, ap, arith, length, true, ◌<◌, nat_tests, size_of_listing}
use Rattle.rtr_ends.proofs.sender.write_announced.Goals as goal

pub returns-in-Some-clause-low : goal.returns-in-Some-clause-low
returns-in-Some-clause-low c = λ _.
    let test : true ≡ nat_lt c.args.place (length c.as_slice.result.now) = c.in-Some.ensures.lookup.0 in
    let low : c.args.place < length c.as_slice.result.now = grind (arith, nat_tests) in
    omega (arith, low, size_of_listing c.args.set.now, ap length c.as_slice.ensures.value, c.as_slice.ensures.set.within_limit)
