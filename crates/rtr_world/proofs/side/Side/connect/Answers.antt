use Rattle.rtr_world.proofs.Words.{refl, err_from_is_err_and}
use Rattle.rtr_world.proofs.Connecting.{connect_fails, connected, served}
use Rattle.rtr_world.proofs.side.Side.connect.Goals as goal

pub returns-in_err-conn : goal.returns-in_err-conn
returns-in_err-conn c = λ w at s start h.
    let m = c.close.ensures w at s h in
    let p = err_from_is_err_and c.from_residual.result c.from_residual.ensures.1 in
    connect_fails w at s c.close.new.cache _ c.args.self.now c.close.new.self _ m c.from_residual.result c.open.result p.0 _ p.1 c.in_err-conn.was (c.open.ensures _ m.shows.serves) refl

pub returns : goal.returns
returns c = λ w at s start h.
    let m = c.close.ensures w at s h in
    let opens = c.open.ensures _ m.shows.serves in
    connected w at s c.close.new.cache c.open.new.self c.args.self.now c.close.new.self _ m c.in_ok-conn.conn c.current_or.result c.open.result c.in_ok-conn.was opens (c.connect.ensures.calls s.router m.shows.side.router)
    refl c.clear.ensures c.clear-2.ensures refl (c.current_or.ensures w _ start (served w m.now c.in_ok-conn.conn c.open.result c.open.new.self c.in_ok-conn.was opens))
