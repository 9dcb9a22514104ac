use Rattle.std.proofs.Common.{◌∙◌, length, refl}
use Rattle.std.proofs.lemmas.Option.{slice_get_read}
use Rattle.sources.proofs.Counts.{one_more_counts}
use Rattle.sources.proofs.listed.counting.Goals as goal

pub loop-index-preserved : goal.loop-index-preserved
loop-index-preserved c =
    let here = slice_get_read c.args.records.now (length c.args.records.now) c.loop-index.index c.index-records-index.result refl c.loop-index-test.true c.index-records-index.is in
    c.in_ok-push_if.ensures ∙ one_more_counts c.args.now c.args.records.now c.args.lasts.now c.loop-index.index c.index-records-index.result c.is_counting.result c.loop-index.left.items c.ranges.now.fits here c.is_counting.ensures c.loop-index.invariant
