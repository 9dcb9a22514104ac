use Rattle.std.proofs.Common.{arith}
use Rattle.resources.proofs.LawProofs.{as_read}
use Rattle.resources.proofs.as_ids.read_as_ids.Goals as goal

pub returns : goal.returns
returns c = as_read c.args.value.now (λ i. omega (arith, c.type_inv.value i)) c.whole_as.result c.whole_as.ensures
