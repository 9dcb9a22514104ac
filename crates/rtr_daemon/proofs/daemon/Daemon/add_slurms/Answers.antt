use Rattle.std.proofs.Common.{◌∙◌, ap, arith, get_or, length}
use Rattle.rtr_daemon.specs.Statuses.{IsSlurmStatus}
use Rattle.rtr_daemon.proofs.StatusLaws.{status_all, status_more, status_none}
use Rattle.rtr_daemon.proofs.daemon.Daemon.add_slurms.Goals as goal

pub loop-at-init : goal.loop-at-init
loop-at-init g c = status_none (IsSlurmStatus c.args.self.now) c.args.self.now.slurms.items c.args.found.now.items

pub loop-at-preserved : goal.loop-at-preserved
loop-at-preserved g c =
    status_more (IsSlurmStatus c.args.self.now) c.args.self.now.slurms.items c.loop-at.at c.slurm-item.result c.args.found.now.items c.loop-at.found.items c.push.new.self.items c.in_ok-slurm_status.field-0 (omega (arith, c.loop-at-test.true, ap length c.deref-slurm-items.ensures.value)) (c.slurm-item.is ∙ ap (λ xs. get_or xs c.loop-at.at c.slurm-item.result) c.deref-slurm-items.ensures.value) c.loop-at.invariant c.in_ok-slurm_status.ensures c.in_ok-push.ensures.items

pub returns : goal.returns
returns g c = status_all (IsSlurmStatus c.args.self.now) c.args.self.now.slurms.items c.loop-at.at c.args.found.now.items c.loop-at.found.items (omega (arith, c.loop-at-test.false, ap length c.deref-slurm-items.ensures.value)) c.loop-at.invariant
