use Rattle.status_pages.proofs.HealthTexts.{one_more}
use Rattle.status_pages.specs.Health.{IsAnchorText}
use Rattle.status_pages.proofs.health.write_anchors.Goals as goal

pub loop-anchor-preserved : goal.loop-anchor-preserved
loop-anchor-preserved g c =
    one_more (IsAnchorText c.args.path.now) c.args.anchors.now c.loop-anchor.anchor-index c.anchor-item.result _ _ _ c.loop-anchor-test.true c.anchor-item.is
    c.loop-anchor.invariant c.in_ok-write_anchor.ensures
