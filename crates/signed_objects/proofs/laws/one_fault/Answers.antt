use Rattle.signed_objects.proofs.ObjectLaws.{fault_law}
use Rattle.signed_objects.proofs.laws.one_fault.Goals as goal

pub returns : goal.returns
returns c = fault_law
