use Rattle.rtr_ends.proofs.Words.{arith, err_from_is_err_and, TooMany}
use Rattle.rtr_ends.proofs.StagingLaws.{announced_fit, led_fits, same_error, withdrawn_fit}
use Rattle.rtr_ends.proofs.staging.Staging.lead.Goals as goal

pub returns-in_err-withdraw-clause-too_many : goal.returns-in_err-withdraw-clause-too_many
returns-in_err-withdraw-clause-too_many c b st e =
    let fits = withdrawn_fit c.args.base.now b c.args.self st c.len-records.ensures.set.within_limit in
    let p = err_from_is_err_and c.from_residual.result c.from_residual.ensures.1 in
    let over = c.into_set.ensures.too_many (same_error c.from_residual.result c.into_set.result p.0 _ TooMany p.1 p.2 c.in_err-withdraw.was e) in
    absurd (omega (arith, fits, over))

pub returns-in_err-announce-clause-too_many : goal.returns-in_err-announce-clause-too_many
returns-in_err-announce-clause-too_many c b st e =
    let fits = announced_fit c.args.base.now b c.args.self st in
    let p = err_from_is_err_and c.from_residual-in_err-announce.result c.from_residual-in_err-announce.ensures.1 in
    let over = c.into_set-2.ensures.too_many (same_error c.from_residual-in_err-announce.result c.into_set-2.result p.0 _ TooMany p.1 p.2 c.in_err-announce.was e) in
    absurd (omega (arith, fits, over))

pub returns-clause-too_many : goal.returns-clause-too_many
returns-clause-too_many c b st e =
    let fits = led_fits c.args.base.now b c.args.self st in
    let over = rw (c.in_ok-withdraw.ensures.ok, c.in_ok-announce.ensures.ok) at (c.apply.ensures.too_many e) in
    absurd (omega (arith, fits, over))
