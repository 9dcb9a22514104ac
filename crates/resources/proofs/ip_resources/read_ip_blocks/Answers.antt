use Rattle.std.proofs.Common.{arith}
use Rattle.resources.proofs.LawProofs.{ip_read}
use Rattle.resources.proofs.ip_resources.read_ip_blocks.Goals as goal

pub returns : goal.returns
returns c = ip_read c.args.value.now (λ i. omega (arith, c.type_inv.value i)) c.whole_ip.result c.whole_ip.ensures
