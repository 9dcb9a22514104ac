use Rattle.status_pages.proofs.HealthTexts.{then}
use Rattle.status_pages.proofs.health.write_rest.Goals as goal

pub returns : goal.returns
returns g c = then c.write_counts.result _ _ _ _ _ c.in_ok-write_version.ensures c.write_counts.ensures
