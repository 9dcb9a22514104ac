use Rattle.std.proofs.Common.{List, ℕ, nat_lt, subst, sym, arith}
use Rattle.feed.specs.Loopback.{Turned}
use Rattle.feed.proofs.Turns.{none_above, turned}
use Rattle.feed.proofs.loopback.turn.Goals as goal

pub returns : goal.returns
returns c = λ set gave took.
    subst (λ (wire : List ℕ). Turned set c.args.conn.now.0 (nat_lt 0 c.pull-ready.result) wire c.pull-ready.new.self c.hand_in.new.router) (sym c.in_ok-extend_from_slice.ensures.items)
    (turned set c.args.conn.now.0 c.args.wire.now.items c.args.cache.now gave _ c.pull-ready.new.out c.pull-ready.result c.pull-ready.new.self (c.pull-ready.ensures.gives _ gave.stands) c.hand_in.new.router (nat_lt 0 c.pull-ready.result)
    (let size = c.pull-ready.auto.out in omega (arith, size)) (none_above c.pull-ready.result) (c.in_ok-hand_in.ensures c.args.wire.now.items took))
