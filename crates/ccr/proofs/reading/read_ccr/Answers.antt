use Rattle.std.proofs.Common.{arith}
use Rattle.ccr.proofs.Digests.{digest_of_read}
use Rattle.ccr.proofs.ExactCcr.{reads_file}
use Rattle.ccr.proofs.reading.read_ccr.Goals as goal

pub returns-clause-exact : goal.returns-clause-exact
returns-clause-exact c = reads_file (λ x. x) c.whole.result c.args.bytes.now (λ i. omega (arith, c.type_inv.bytes i)) c.whole.ensures

pub returns-clause-digest : goal.returns-clause-digest
returns-clause-digest c = digest_of_read c.whole.result c.args.bytes.now (λ i. omega (arith, c.type_inv.bytes i)) (returns-clause-exact c)
