use Rattle.payloads.proofs.RoaSpellings.{refusal_law}
use Rattle.payloads.proofs.laws.roa_refuses_exactly.Goals as goal

pub returns : goal.returns
returns c = refusal_law
