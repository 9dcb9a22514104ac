use Rattle.rtr_ends.proofs.NumberLaws.{frees, room_for_one, when_ok}
use Rattle.rtr_ends.proofs.numbers.FreeNumbers.put.Goals as goal

pub returns : goal.returns
returns c = λ taken was at.
    let ok = c.push.ensures.succeeds (room_for_one taken c.args.self.now was c.args.number at) in
    frees taken c.args.self.now (record { numbers = c.push.new.self }) was c.args.number at (when_ok c.push.result _ ok c.push.ensures.len) c.push.ensures.capacity (when_ok c.push.result _ ok c.push.ensures.heap_order was.order)
    (when_ok c.push.result _ ok c.push.ensures.permutation)
