use Rattle.status_pages.proofs.HealthTexts.{one_more}
use Rattle.status_pages.specs.Health.{IsSourceText}
use Rattle.status_pages.proofs.health.write_sources.Goals as goal

pub loop-file-preserved : goal.loop-file-preserved
loop-file-preserved g c =
    one_more IsSourceText c.args.files.now c.loop-file.file-index c.file-item.result _ _ _ c.loop-file-test.true c.file-item.is
    c.loop-file.invariant c.in_ok-write_source.ensures
