use Rattle.payload_lists.proofs.ListText.{text-more}
use Rattle.payload_lists.proofs.listing.write_list.Goals as goal

pub loop-index-preserved : goal.loop-index-preserved
loop-index-preserved c =
    text-more c.args.records.now c.loop-index.index c.index-records-index.result _ _ _ c.loop-index-test.true c.index-records-index.is c.loop-index.invariant c.in_ok-push_comma.ensures c.in_ok-push_entry.ensures
