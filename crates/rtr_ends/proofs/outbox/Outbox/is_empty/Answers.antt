use Rattle.rtr_ends.proofs.OutboxLaws.{all_pulled}
use Rattle.rtr_ends.proofs.outbox.Outbox.is_empty.Goals as goal

pub returns : goal.returns
returns c = all_pulled _ _ _ _ c.self.view_is c.self.invariant c.len.ensures.value
