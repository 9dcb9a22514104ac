use Rattle.std.proofs.Common.{◌∙◌, ap, arith, get_or, length}
use Rattle.rtr_daemon.specs.Statuses.{IsExportStatus}
use Rattle.rtr_daemon.proofs.StatusLaws.{status_all, status_more, status_none}
use Rattle.rtr_daemon.proofs.daemon.Daemon.add_exports.Goals as goal

pub loop-export-init : goal.loop-export-init
loop-export-init g c = status_none (λ i export shown. IsExportStatus c.args.now c.args.self.now export shown) c.args.self.now.exports.items c.args.found.now.items

pub loop-export-preserved : goal.loop-export-preserved
loop-export-preserved g c =
    status_more (λ i export shown. IsExportStatus c.args.now c.args.self.now export shown) c.args.self.now.exports.items c.loop-export.export-index c.export-item.result c.args.found.now.items c.loop-export.found.items c.push.new.self.items c.in_ok-export_status.field-0 (omega (arith, c.loop-export-test.true, ap length c.deref-export-items.ensures.value)) (c.export-item.is ∙ ap (λ xs. get_or xs c.loop-export.export-index c.export-item.result) c.deref-export-items.ensures.value) c.loop-export.invariant c.in_ok-export_status.ensures c.in_ok-push.ensures.items

pub returns : goal.returns
returns g c = status_all (λ i export shown. IsExportStatus c.args.now c.args.self.now export shown) c.args.self.now.exports.items c.loop-export.export-index c.args.found.now.items c.loop-export.found.items (omega (arith, c.loop-export-test.false, ap length c.deref-export-items.ensures.value)) c.loop-export.invariant
