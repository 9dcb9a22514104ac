use Rattle.std.proofs.Common.{ap}
use Rattle.sha2.specs.Sha256.{sha256}
use Rattle.vrps.proofs.SetLaws.{same_set}
use Rattle.ccr.specs.Canonical.{canonical}
use Rattle.ccr.proofs.laws.same_vrps.Goals as goal

pub returns : goal.returns
returns c s t h = (ap canonical (same_set s t h), ap (λ x. sha256 (canonical x)) (same_set s t h))
