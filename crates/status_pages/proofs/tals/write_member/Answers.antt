use Rattle.status_pages.specs.ApiStatus.{tal_member}
use Rattle.status_pages.proofs.Written.{three}
use Rattle.status_pages.proofs.tals.write_member.Goals as goal

pub returns : goal.returns
unfolding tal_member
returns g c = three c.write.result _ _ _ _ _ _ _ c.in_ok-write_all.ensures.bytes c.in_ok-write_json.ensures c.write.ensures.bytes
