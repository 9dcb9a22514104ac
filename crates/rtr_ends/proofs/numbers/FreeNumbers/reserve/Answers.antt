use Rattle.rtr_ends.proofs.NumberLaws.{adds_taken, on_ok}
use Rattle.rtr_ends.proofs.numbers.FreeNumbers.reserve.Goals as goal

pub returns-clause-room : goal.returns-clause-room
returns-clause-room c =
    on_ok c.reserve.result c.reserve.ensures.ok (λ room taken was low. adds_taken taken c.args.self.now (record { numbers = c.reserve.new.self }) was c.args.count c.reserve.ensures.items room low)
