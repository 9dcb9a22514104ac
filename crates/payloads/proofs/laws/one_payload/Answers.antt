use Rattle.payloads.proofs.RoaSets.{payload_law}
use Rattle.payloads.proofs.laws.one_payload.Goals as goal

pub returns : goal.returns
returns c = payload_law
