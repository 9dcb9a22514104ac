use Rattle.std.proofs.Common.{arith}
use Rattle.std.proofs.lemmas.Bool.{leb-true, le-leb}
use Rattle.constraints.proofs.JudgeLaws.{shared}
use Rattle.constraints.proofs.judging.share.Goals as goal

pub returns : goal.returns
returns c =
    let a = c.args.range.now in
    let b = c.args.other.now in (
      λ t. shared a b (omega (arith, c.if-range.false)) (omega (arith, c.if-other.false)) (leb-true a.low b.high t) (omega (arith, c.if-range-other.false)),
      λ s. le-leb a.low b.high (omega (arith, s.1.0, s.2.1)),
    )
