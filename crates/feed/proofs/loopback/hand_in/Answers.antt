use Rattle.std.proofs.Common.{arith}
use Rattle.feed.proofs.Turns.{takes_piece}
use Rattle.feed.proofs.loopback.hand_in.Goals as goal

pub returns : goal.returns
returns c = λ wire took.
    takes_piece wire c.args.piece.now c.receive.result c.args.router.now c.receive.new.self took (λ i. omega (arith, c.type_inv.piece i)) c.receive.ensures.shown (omega (arith, c.if-receive-piece.false))
