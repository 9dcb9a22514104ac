use Rattle.status_pages.specs.ValidityText.{lists_text}
use Rattle.status_pages.proofs.Written.{three}
use Rattle.status_pages.proofs.validity_text.write_lists.Goals as goal

pub returns : goal.returns
unfolding lists_text
returns g c = three c.write_last_list.result _ _ _ _ _ _ _ c.in_ok-write_listed.ensures c.in_ok-write_listed-2.ensures c.write_last_list.ensures
