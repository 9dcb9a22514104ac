use Rattle.std.proofs.Common.{◌∙◌, ap, arith, leb}
use Rattle.der_lite.proofs.Lengths.{fewest_alone, fewest_high, fewest_low}
use Rattle.der_lite.proofs.length.is_length.Goals as goal

pub returns-in-empty : goal.returns-in-empty
returns-in-empty c = fewest_alone c.args.first c.args.more.now (λ i. omega (arith, c.type_inv.more i)) c.requires c.in-empty.len_below

pub returns-then-highest-gt0 : goal.returns-then-highest-gt0
returns-then-highest-gt0 c =
    ap (leb 128) c.number.ensures
    ∙ fewest_high c.args.first c.args.more.now (λ i. omega (arith, c.type_inv.more i)) c.requires c.in-len1-up.len_at_least c.if-highest-gt0.true

pub returns-else-highest-gt0 : goal.returns-else-highest-gt0
returns-else-highest-gt0 c = fewest_low c.args.first c.args.more.now (λ i. omega (arith, c.type_inv.more i)) c.requires c.in-len1-up.len_at_least c.if-highest-gt0.false
