use Rattle.signed_objects.proofs.BerLaws.{content_law}
use Rattle.signed_objects.proofs.laws.one_content.Goals as goal

pub returns : goal.returns
returns c = content_law
