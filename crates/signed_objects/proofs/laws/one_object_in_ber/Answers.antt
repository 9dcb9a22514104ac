use Rattle.signed_objects.proofs.BerLaws.{one_object_law}
use Rattle.signed_objects.proofs.laws.one_object_in_ber.Goals as goal

pub returns : goal.returns
returns c = one_object_law
