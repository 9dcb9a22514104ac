use Rattle.rtr_world.proofs.Words.{◌-◌, ◌≤◌, Ok, ◌∙◌, ap, arith, refl, err_from_is_err_and, conn_pulled}
use Rattle.rtr_world.specs.World.{timing}
use Rattle.rtr_world.proofs.MovedBytes.{nothing_sent, send_fails, sent_due, sent_more, sent_whole, so_far}
use Rattle.rtr_world.proofs.side.Side.send.Goals as goal

pub loop-left-init : goal.loop-left-init
loop-left-init c = record { conn = refl; few = omega arith; sent = λ w at s o h has is. nothing_sent w at s o c.args.cache.now c.args.self.now c.args.most h has }

pub loop-left-preserved : goal.loop-left-preserved
loop-left-preserved c =
    let few : c.in_ok-count.count ≤ c.loop-left.left = c.in_ok-count.ensures.few in
    record {
      conn = c.send_some.ensures.conn ∙ c.loop-left.invariant.conn;
      few = omega (arith, c.loop-left.invariant.few);
      sent = λ w at s o h has is.
          let sent = c.loop-left.invariant.sent w at s o h has is in
          sent_more w at s o c.args.most c.loop-left.left c.in_ok-count.count (c.loop-left.left - c.in_ok-count.count) c.args.self.now.conn c.loop-left.cache c.send_some.new.cache c.loop-left.self c.send_some.new.self sent
          c.send_some.result c.in_ok-count.was (c.send_some.ensures.sends w sent.moves.now (so_far w (c.args.most - c.loop-left.left) s o) (conn_pulled w.keep timing (c.args.most - c.loop-left.left) o) sent.moves.shows refl (c.loop-left.invariant.conn ∙ is)) c.loop-left.invariant.few (omega (arith, few));
    }

pub returns-in_err-count : goal.returns-in_err-count
returns-in_err-count c = λ w at s o h has is.
    let sent = c.loop-left.invariant.sent w at s o h has is in
    let p = err_from_is_err_and c.from_residual.result c.from_residual.ensures.1 in
    send_fails w at s o c.args.most c.loop-left.left (c.args.most - c.loop-left.left) c.args.self.now.conn c.loop-left.cache c.send_some.new.cache c.loop-left.self c.send_some.new.self sent c.send_some.result c.from_residual.result _ p.0 has c.in_err-count.was p.1
    (c.send_some.ensures.sends w sent.moves.now (so_far w (c.args.most - c.loop-left.left) s o) (conn_pulled w.keep timing (c.args.most - c.loop-left.left) o) sent.moves.shows refl (c.loop-left.invariant.conn ∙ is))

pub returns-then-count-eq0 : goal.returns-then-count-eq0
returns-then-count-eq0 c = λ w at s o h has is.
    let sent = c.loop-left.invariant.sent w at s o h has is in
    sent_due w at s o c.args.most c.loop-left.left c.args.self.now.conn c.loop-left.cache c.send_some.new.cache c.loop-left.self c.send_some.new.self sent c.send_some.result (c.in_ok-count.was ∙ ap (λ n. Ok n) c.if-count-eq0.true)
    (c.send_some.ensures.sends w sent.moves.now (so_far w (c.args.most - c.loop-left.left) s o) (conn_pulled w.keep timing (c.args.most - c.loop-left.left) o) sent.moves.shows refl (c.loop-left.invariant.conn ∙ is)) c.loop-left.invariant.few c.loop-left-test.true has

pub returns : goal.returns
returns c = λ w at s o h has is.
    let sent = c.loop-left.invariant.sent w at s o h has is in
    let none = c.loop-left-test.false in
    sent_whole w at s o c.args.most (c.args.most - c.loop-left.left) c.args.self.now.conn c.loop-left.cache c.loop-left.self has sent (omega (arith, none))
