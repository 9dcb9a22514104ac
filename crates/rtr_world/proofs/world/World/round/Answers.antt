use Rattle.std.proofs.lemmas.Result.{err_from_is_err_and}
use Rattle.rtr_world.proofs.Rounds.{ends_so, first_fails, second_fails, third_fails}
use Rattle.rtr_world.proofs.world.World.round.Goals as goal

pub returns-in_err-on : goal.returns-in_err-on
returns-in_err-on c = λ made history l s found.
    rw (err_from_is_err_and c.from_residual.result c.from_residual.ensures.1).1 (first_fails made history c.args.router c.args.self.now l s found c.on.new.self c.on.result c.on.ensures _ _ c.in_err-on.was)

pub returns-in_err-on-2 : goal.returns-in_err-on-2
returns-in_err-on-2 c = λ made history l s found.
    rw (err_from_is_err_and c.from_residual-in_err-on-2.result c.from_residual-in_err-on-2.ensures.1).1
    (second_fails made history c.args.router c.args.self.now l s found c.on.new.self c.on.result c.on.ensures c.in_ok-on.was c.on-2.new.self c.on-2.result c.on-2.ensures _ _ c.in_err-on-2.was)

pub returns-in_err-on-3 : goal.returns-in_err-on-3
returns-in_err-on-3 c = λ made history l s found.
    rw (err_from_is_err_and c.from_residual-in_err-on-3.result c.from_residual-in_err-on-3.ensures.1).1
    (third_fails made history c.args.router c.args.self.now l s found c.on.new.self c.on.result c.on.ensures c.in_ok-on.was c.on-2.new.self c.on-2.result c.on-2.ensures c.in_ok-on-2.was c.on-3.new.self c.on-3.result c.on-3.ensures _ _ c.in_err-on-3.was)

pub returns : goal.returns
returns c = λ made history l s found.
    ends_so made history c.args.router c.args.self.now l s found c.on.new.self c.on.result c.on.ensures c.in_ok-on.was c.on-2.new.self c.on-2.result c.on-2.ensures c.in_ok-on-2.was
    c.on-3.new.self c.on-3.result c.on-3.ensures c.in_ok-on-3.was c.on-4.new.self c.on-4.result c.on-4.ensures
