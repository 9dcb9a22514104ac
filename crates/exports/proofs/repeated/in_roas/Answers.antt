use Rattle.std.proofs.Common.{◌≡◌, ap, arith, length, suc}
use Rattle.json.proofs.Grammar.{after_end_array-shorter}
use Rattle.exports.proofs.repeated.in_roas.Goals as goal

pub returns : goal.returns
returns c =
    let less = after_end_array-shorter c.loop-alloc.reader c.take_end_array.new.self c.loop-alloc-test.ensures in
    let long : length c.args.reader.now ≡ suc (length c.next.new.self) = ap length c.in-Some.ensures.value in
    omega (arith, less, long, c.loop-alloc.invariant)
