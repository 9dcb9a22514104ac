use Rattle.vrps.proofs.SetVersions.{names_itself, kept_is_itself, is_before_newer}
use Rattle.vrps.proofs.laws.serials_name_versions.Goals as goal

pub returns : goal.returns
returns c = record { names = names_itself; kept = kept_is_itself; before = is_before_newer }
