use Rattle.status_pages.specs.Export.{routinator_head}
use Rattle.status_pages.proofs.Written.{three}
use Rattle.status_pages.proofs.export.write_routinator_head_at.Goals as goal

pub returns : goal.returns
unfolding routinator_head
returns g c = three c.write_all-2.result _ _ _ _ _ _ _ c.in_ok-write.ensures.bytes c.in_ok-write_all.ensures.bytes c.write_all-2.ensures.bytes
