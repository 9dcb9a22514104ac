use Rattle.std.proofs.Common.{rules, ◌≡◌, Some, arith}
use Rattle.rpkirtr_c.proofs.router.rpkirtr_router_receive.Goals as goal

pub returns-clause-call : goal.returns-clause-call
returns-clause-call c =
    let before : c.args.h.now.value ≡ Some c.deref_mut.result.now = grind arith in
    let after : c.shut.result.value ≡ Some c.receive.new.self = grind arith in
    rw before (rw after (search rules, c.receive.ensures.receives))
