use Rattle.status_pages.specs.ValidityText.{route_text}
use Rattle.status_pages.proofs.Written.{three}
use Rattle.status_pages.proofs.validity_text.write_route.Goals as goal

pub returns : goal.returns
unfolding route_text
returns g c = three c.write_prefix.result _ _ _ _ _ _ _ c.in_ok-write_all.ensures.bytes c.in_ok-write_origin.ensures c.write_prefix.ensures
