use Rattle.rtr_ends.proofs.Words.{nat_lt, ◌≡◌, ◌∙◌, true, arith, nat_tests}
use Rattle.rtr_ends.proofs.SenderLaws.{due_some, due_answer}
use Rattle.rtr_ends.proofs.sender.Sender.is_due.Goals as goal

pub returns-then-self-len : goal.returns-then-self-len
returns-then-self-len c =
    let low : nat_lt c.args.self.now.pulled c.len.result ≡ true = grind (arith, nat_tests) in
    low ∙ due_some c.args.self.now (omega (arith, c.len.ensures.value))

pub returns-else-self-len : goal.returns-else-self-len
returns-else-self-len c = c.is_some.ensures ∙ due_answer c.args.self.now (omega (arith, c.len.ensures.value))
