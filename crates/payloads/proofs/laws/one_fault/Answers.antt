use Rattle.payloads.proofs.RoaLaws.{roa_faults}
use Rattle.payloads.proofs.ManifestLaws.{manifest_faults}
use Rattle.payloads.proofs.laws.one_fault.Goals as goal

pub returns : goal.returns
returns c = (roa_faults, manifest_faults)
