use Rattle.std.proofs.lemmas.Result.{err_from_is_err_and}
use Rattle.rtr_world.proofs.CaughtUpLaws.{first_failed, not_connected, rests_at_once, rests_then}
use Rattle.rtr_world.proofs.world.World.reconnect.Goals as goal

pub returns-in_err-on : goal.returns-in_err-on
returns-in_err-on c = λ made history l s found.
    rw (err_from_is_err_and c.from_residual.result c.from_residual.ensures.1).1 (not_connected made history c.args.router c.args.self.now l s found c.on.new.self c.on.result c.on.ensures _ _ c.in_err-on.was)

pub returns-in_err-round : goal.returns-in_err-round
returns-in_err-round c = λ made history l s found.
    rw (err_from_is_err_and c.from_residual-in_err-round.result c.from_residual-in_err-round.ensures.1).1
    (first_failed made history c.args.router c.args.self.now l s found c.on.new.self c.on.result c.on.ensures c.in_ok-on.was c.round.new.self c.round.result (c.round.ensures made) _ _ c.in_err-round.was)

pub returns-in-Asked : goal.returns-in-Asked
returns-in-Asked c = λ made history l s found.
    rests_then made history c.args.router c.args.self.now l s found c.on.new.self c.on.result c.on.ensures c.in_ok-on.was c.round.new.self c.round.result (c.round.ensures made) c.in_ok-round.was c.link.result c.link.ensures
    c.in-Asked.is c.round-in-Asked.result c.round-in-Asked.new.self (c.round-in-Asked.ensures made)

pub returns-in_default : goal.returns-in_default
returns-in_default c = λ made history l s found.
    rests_at_once made history c.args.router c.args.self.now l s found c.on.new.self c.on.result c.on.ensures c.in_ok-on.was c.round.new.self c.round.result (c.round.ensures made) c.in_ok-round.was c.link.result c.link.ensures
    c.in_default.not-Asked
