use Rattle.std.proofs.Common.{arith}
use Rattle.feed.proofs.Turns.{asked}
use Rattle.feed.proofs.loopback.ask.Goals as goal

pub returns : goal.returns
returns c = λ set is stands.
    asked set c.args.conn.now.0 c.args.question.now c.receive.result c.receive.new.self (λ i. omega (arith, c.type_inv.question i)) is (c.receive.ensures.takes _ stands) (omega (arith, c.if-receive-question.false))
