use Rattle.payloads.proofs.ManifestSpellings.{manifest_law}
use Rattle.payloads.proofs.laws.manifest_refuses_exactly.Goals as goal

pub returns : goal.returns
returns c = manifest_law
