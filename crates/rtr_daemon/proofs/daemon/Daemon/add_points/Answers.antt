use Rattle.std.proofs.Common.{◌∙◌, ap, arith, get_or, length}
use Rattle.rtr_daemon.specs.Statuses.{IsPointStatus}
use Rattle.rtr_daemon.proofs.StatusLaws.{status_all, status_more, status_none}
use Rattle.rtr_daemon.proofs.daemon.Daemon.add_points.Goals as goal

pub loop-point-init : goal.loop-point-init
loop-point-init g c = status_none (λ i point shown. IsPointStatus point shown) c.args.self.now.points.items c.args.found.now.items

pub loop-point-preserved : goal.loop-point-preserved
loop-point-preserved g c =
    status_more (λ i point shown. IsPointStatus point shown) c.args.self.now.points.items c.loop-point.point-index c.point-item.result c.args.found.now.items c.loop-point.found.items c.push.new.self.items c.in_ok-point_status.field-0 (omega (arith, c.loop-point-test.true, ap length c.deref-point-items.ensures.value)) (c.point-item.is ∙ ap (λ xs. get_or xs c.loop-point.point-index c.point-item.result) c.deref-point-items.ensures.value) c.loop-point.invariant c.in_ok-point_status.ensures c.in_ok-push.ensures.items

pub returns : goal.returns
returns g c = status_all (λ i point shown. IsPointStatus point shown) c.args.self.now.points.items c.loop-point.point-index c.args.found.now.items c.loop-point.found.items (omega (arith, c.loop-point-test.false, ap length c.deref-point-items.ensures.value)) c.loop-point.invariant
