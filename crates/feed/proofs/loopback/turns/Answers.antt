use Rattle.std.proofs.Common.{Bool, subst}
use Rattle.feed.specs.Loopback.{Turned}
use Rattle.feed.proofs.loopback.turns.Goals as goal

pub returns-then-not-branch : goal.returns-then-not-branch
returns-then-not-branch c = λ set gave took.
    let i = c.loop-turn.invariant set gave took in
    subst (λ (moved : Bool). Turned set c.args.conn.now.0 moved c.turn.new.wire.items c.turn.new.cache c.turn.new.router) c.if-not-branch.true (c.in_ok-turn.ensures set i.0 i.1)

pub loop-turn-preserved : goal.loop-turn-preserved
loop-turn-preserved c = λ set gave took.
    let i = c.loop-turn.invariant set gave took in
    let t = c.in_ok-turn.ensures set i.0 i.1 in
    (t.gave, t.took)
