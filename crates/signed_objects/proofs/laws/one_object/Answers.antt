use Rattle.signed_objects.proofs.ObjectLaws.{object_law}
use Rattle.signed_objects.proofs.laws.one_object.Goals as goal

pub returns : goal.returns
returns c = object_law
