use Rattle.std.proofs.Common.{◌∙◌, ◌+◌, Some, ap, slice_set, sym}
use Rattle.rtr_server.specs.Clients.{slot_at}
use Rattle.rtr_server.proofs.PlaceLaws as laws
use Rattle.rtr_server.proofs.server.put_at.Goals as goal

pub returns-clause-more : goal.returns-clause-more
returns-clause-more g c = λ none.
    let free = c.grow.ensures.kept c.number-number.result ∙ ap (slot_at c.args.slots.now.items) c.number-number.ensures ∙ none in
    laws.count_one c.grow.new.slots.items c.number-number.result c.in_ok-slot.slot c.in_ok-grow.ensures.room free ∙ ap (λ n. n + 1) c.grow.ensures.count

pub returns-clause-others : goal.returns-clause-others
returns-clause-others g c = λ d other. laws.set_others c.grow.new.slots.items c.number-number.result c.in_ok-slot.slot d (λ is. other (is ∙ c.number-number.ensures)) ∙ c.grow.ensures.kept d

pub returns-clause-placed : goal.returns-clause-placed
returns-clause-placed g c =
    ap (slot_at (slice_set c.grow.new.slots.items c.number-number.result (Some c.in_ok-slot.slot))) (sym c.number-number.ensures) ∙ laws.slot_set c.grow.new.slots.items c.number-number.result c.in_ok-slot.slot c.in_ok-grow.ensures.room
    ∙ ap (λ x. Some x) (c.in_ok-slot.ensures.ok ∙ c.new.ensures)
