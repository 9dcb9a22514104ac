use Rattle.rtr_ends.proofs.Words.{arith, empty}
use Rattle.rtr_ends.proofs.StagingLaws.{announced_fit}
use Rattle.rtr_ends.proofs.staging.Staging.lead_from_nothing.Goals as goal

pub returns-clause-too_many : goal.returns-clause-too_many
returns-clause-too_many c b st e =
    let fits = announced_fit empty b c.args.self st in
    let over = c.into_set.ensures.too_many e in
    absurd (omega (arith, fits, over))
