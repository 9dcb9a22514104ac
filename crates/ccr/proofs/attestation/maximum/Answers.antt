use Rattle.ccr.proofs.Sets.{plain_right}
use Rattle.ccr.proofs.attestation.maximum.Goals as goal

pub returns-then-at_end-clause-right : goal.returns-then-at_end-clause-right
returns-then-at_end-clause-right c = plain_right c.args.prefix.now c.len.ensures.prefix
