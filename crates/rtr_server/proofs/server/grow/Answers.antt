use Rattle.std.proofs.Common.{◌∙◌, ap}
use Rattle.rtr_server.specs.Clients.{clients_in, slot_at}
use Rattle.rtr_server.proofs.PlaceLaws as laws
use Rattle.rtr_server.proofs.server.grow.Goals as goal

pub loop-slots-preserved : goal.loop-slots-preserved
loop-slots-preserved g c = record {
  kept = λ d. ap (λ s. slot_at s d) c.in_ok-push.ensures.items ∙ laws.push_none c.loop-slots.slots.items d ∙ c.loop-slots.invariant.kept d;
  count = ap clients_in c.in_ok-push.ensures.items ∙ laws.count_none c.loop-slots.slots.items ∙ c.loop-slots.invariant.count;
}
