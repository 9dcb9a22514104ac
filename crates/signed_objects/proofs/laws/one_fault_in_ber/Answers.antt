use Rattle.signed_objects.proofs.BerLaws.{one_fault_law}
use Rattle.signed_objects.proofs.laws.one_fault_in_ber.Goals as goal

pub returns : goal.returns
returns c = one_fault_law
