use Rattle.payloads.proofs.RoaLaws.{roa_spellings}
use Rattle.payloads.proofs.ManifestLaws.{manifest_spellings}
use Rattle.payloads.proofs.laws.one_spelling.Goals as goal

pub returns : goal.returns
returns c = (roa_spellings, manifest_spellings)
