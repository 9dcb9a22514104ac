use Rattle.signed_objects.proofs.SameDer.{kept_law, read_law}
use Rattle.signed_objects.proofs.laws.der_is_kept.Goals as goal

pub returns-clause-kept : goal.returns-clause-kept
returns-clause-kept c = kept_law

pub returns-clause-read : goal.returns-clause-read
returns-clause-read c = read_law
