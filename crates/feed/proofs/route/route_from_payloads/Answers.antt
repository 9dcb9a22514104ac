use Rattle.std.proofs.Common.{ap, Err}
use Rattle.std.proofs.lemmas.Result.{err_from_is_err_and}
use Rattle.feed.proofs.PayloadsInUse.{is_used, set_refused, state_over}
use Rattle.feed.proofs.route.route_from_payloads.Goals as goal

pub returns-in_err-set-clause-refused : goal.returns-in_err-set-clause-refused
returns-in_err-set-clause-refused c =
    let p = err_from_is_err_and c.from_residual-in_err-set.result c.from_residual-in_err-set.ensures.1 in
    rw (p.1, p.2)
    (set_refused c.args.now c.args.offers.now c.in_ok-repository.repository c.in_ok-payloads.field-0.items c.in_err-set.field-0.0 c.in_ok-repository.ensures.taken c.in_ok-payloads.ensures
    (λ e. c.in_err-set.ensures.too_many.0 (ap Err e)))

pub returns-clause-fed : goal.returns-clause-fed
returns-clause-fed c =
    let done = c.in_ok-router.ensures in
    record {
      set = c.in_ok-set.set;
      used = is_used c.args.now c.args.offers.now c.in_ok-repository.repository c.in_ok-payloads.field-0.items c.in_ok-set.set c.in_ok-repository.ensures.taken c.in_ok-payloads.ensures c.in_ok-set.ensures.ok;
      within_limit = done.within_limit.within_limit;
      wire = done.sent;
      state_is = state_over c.in_ok-set.set c.in_ok-router.router c.args.route.now c.route_state-state.result done.table c.route_state-state.ensures;
    }
