use Rattle.std.proofs.Common.{◌∙◌, arith, refl}
use Rattle.rtr_server.proofs.NoticeLaws as laws
use Rattle.rtr_server.proofs.server.notify_all.Goals as goal

pub loop-number-init : goal.loop-number-init
loop-number-init g c = record { len = refl; notifies = laws.notified_none g.S.VersionStore.holds c.args.slots.now.items c.args.cache.now; count = refl }

pub loop-number-preserved : goal.loop-number-preserved
loop-number-preserved g c = record {
  len = c.notify_at.ensures.len ∙ c.loop-number.invariant.len;
  notifies = laws.notified_more g.S.VersionStore.holds c.args.slots.now.items c.args.cache.now c.loop-number.number _ (omega arith) c.loop-number.slots.items c.notify_at.new.slots.items c.loop-number.cache c.notify_at.new.cache
      c.loop-number.invariant.notifies c.notify_at.ensures.others c.notify_at.ensures.told;
  count = c.notify_at.ensures.count ∙ c.loop-number.invariant.count;
}
