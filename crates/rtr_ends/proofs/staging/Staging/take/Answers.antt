use Rattle.rtr_ends.proofs.staging.Staging.take.Goals as goal

pub returns-else-announce : goal.returns-else-announce
returns-else-announce c base b few st is = rw c.if-announce.false (c.withdraw.ensures c.args.most base b st is)
