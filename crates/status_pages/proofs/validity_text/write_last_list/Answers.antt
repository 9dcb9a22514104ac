use Rattle.status_pages.specs.ValidityText.{last_list}
use Rattle.status_pages.proofs.Written.{two}
use Rattle.status_pages.proofs.validity_text.write_last_list.Goals as goal

pub returns : goal.returns
unfolding last_list
returns g c = two c.write_all.result _ _ _ _ _ c.in_ok-write_listed.ensures c.write_all.ensures.bytes
