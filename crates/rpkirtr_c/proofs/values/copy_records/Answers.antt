use Rattle.std.proofs.Common.{◌≡◌, ◌<◌, ◌++◌, length, map, take, drop, set, ap, subst, ◌∙◌, arith}
use Rattle.rpkirtr_c.specs.Spelled.{record_of}
use Rattle.rpkirtr_c.proofs.Copied.{copied_more}
use Rattle.rpkirtr_c.proofs.values.copy_records.Goals as goal

pub loop-i-preserved : goal.loop-i-preserved
loop-i-preserved c =
    let low : c.loop-i.i < length c.args.list.now = omega (arith, c.loop-i-test.true, c.min-count.ensures) in
    let room : c.loop-i.i < length c.args.room.now = omega (arith, c.loop-i-test.true, c.min-count.ensures) in
    ap (set c.loop-i.room c.loop-i.i) c.record_of.ensures.1 ∙ copied_more record_of c.loop-i.i c.args.list.now c.args.room.now c.loop-i.room c.index-list-i.result c.index-list-i.is low room c.loop-i.invariant

pub returns : goal.returns
returns c =
    let all : c.loop-i.i ≡ c.min-count.result = omega (arith, c.loop-i-test.false, c.loop-i.auto.i-end) in
    (omega (arith, c.min-count.ensures), subst (λ n. c.loop-i.room ≡ map record_of (take n c.args.list.now) ++ drop n c.args.room.now) all c.loop-i.invariant)
