use Rattle.std.proofs.Common.{subst, sym}
use Rattle.feed.specs.Feed.{IsRefused}
use Rattle.feed.specs.declared.fault.FeedFault.{FeedFault}
use Rattle.feed.proofs.TakingOffers.{is_refused, is_taken, one_more}
use Rattle.feed.proofs.offers.take_all.Goals as goal

pub returns-in-Err : goal.returns-in-Err
returns-in-Err c = record {
  taken = tt;
  refused = subst (λ (fault : FeedFault). IsRefused c.args.now c.args.offers.now fault) (sym c.at.ensures)
      (is_refused c.args.now c.args.offers.now c.loop-i.i c.loop-i-test.true c.loop-i.repository c.in-Err.fault c.loop-i.invariant c.in-Err.ensures.judged);
}

pub loop-i-preserved : goal.loop-i-preserved
loop-i-preserved c =
    one_more c.args.now c.args.offers.now c.loop-i.i c.loop-i-test.true c.loop-i.repository c.offer.new.self c.loop-i.invariant
    (is_taken c.args.now c.args.offers.now c.loop-i.i c.loop-i-test.true c.loop-i.repository c.offer.new.self c.in-Ok.field-0 c.in-Ok.ensures.judged c.in-Ok.ensures.held)
