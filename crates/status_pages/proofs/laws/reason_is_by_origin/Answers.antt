use Rattle.status_pages.proofs.KindLaws.{origin_is_too_short}
use Rattle.status_pages.proofs.laws.reason_is_by_origin.Goals as goal

pub returns : goal.returns
returns c = origin_is_too_short
