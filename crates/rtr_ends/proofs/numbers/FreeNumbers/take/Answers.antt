use Rattle.std.proofs.Common.{sym}
use Rattle.rtr_ends.proofs.NumberLaws.{takes_least, takes_none}
use Rattle.rtr_ends.proofs.numbers.FreeNumbers.take.Goals as goal

pub returns-in-None : goal.returns-in-None
returns-in-None c = λ taken was.
    takes_none taken c.args.self.now (record { numbers = c.pop.new.self }) was c.in-None.ensures.none (sym c.args.self.now.numbers.data.ok.0) c.in-None.ensures.unchanged.0 c.in-None.ensures.unchanged.1 c.pop.ensures.capacity

pub returns-in-Some : goal.returns-in-Some
returns-in-Some c = λ taken was.
    let greatest = c.in-Some.ensures.heap_order was.order in
    takes_least taken c.args.self.now (record { numbers = c.pop.new.self }) was c.in-Some.least.0 c.in-Some.ensures.len c.pop.ensures.capacity greatest.0 greatest.1 c.in-Some.ensures.permutation
