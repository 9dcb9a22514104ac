use Rattle.ccr.proofs.Digests as digests
use Rattle.ccr.proofs.laws.hash_is_digest.Goals as goal

pub returns : goal.returns
returns c = digests.hash_is_digest
