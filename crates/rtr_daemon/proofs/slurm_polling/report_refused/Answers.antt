use Rattle.std.proofs.Common.{◌≡◌, ◌∙◌, ◌⊎◌, arith, get_or, inl}
use Rattle.std.specs.Prelude.{None, Some}
use Rattle.rtr_daemon.specs.SlurmRefusals.{IsNotedAt}
use Rattle.rtr_daemon.proofs.ContentLaws.{loads_kept}
use Rattle.rtr_daemon.proofs.SlurmRefusalLaws.{notes_more, one_noted, waits_for, waits_still}
use Rattle.rtr_daemon.proofs.slurm_polling.report_refused.Goals as goal
use Rattle.rtr_daemon.proofs.slurm_polling.report_refused.Goals.{then-at-index, else-at-index}

pub loop-at-preserved : goal.loop-at-preserved
loop-at-preserved g c =
    let refusal = c.args.refusal in
    let files = c.loop-at.slurms in
    let at = c.loop-at.at in
    let old = c.index-slurms-at.result in
    let new = c.report_one_refused.new.file in
    let one = c.report_one_refused.ensures in
    let kept = loads_kept files at old new one.loads in
    let count = c.loop-at.auto.slurms in
    let waiting = c.loop-at.invariant.own in
    let own : (c.if-at-index.own ≡ None) ⊎ ((at ≡ refusal.index) × (c.if-at-index.own ≡ Some refusal.why)) = elim c.if-at-index.branch [
      | then-at-index w ↦ waits_for refusal.why at refusal.index c.if-at-index.own c.loop-at.why (w.own-is ∙ w.take-own.ensures.value) w.if-at-index.true waiting
      | else-at-index w ↦ inl w.own-is
    ] in
    let left : (c.if-at-index.why ≡ None) ⊎ (c.if-at-index.why ≡ Some refusal.why) = elim c.if-at-index.branch [
      | then-at-index w ↦ inl (w.why-is ∙ w.take-own.ensures.after)
      | else-at-index w ↦ waits_still refusal.why c.if-at-index.why c.loop-at.why w.why-is waiting
    ] in
    record {
      loads = (kept.0 ∙ c.loop-at.invariant.loads.0, kept.1 ∙ c.loop-at.invariant.loads.1);
      refusals =
          notes_more (IsNotedAt refusal.index refusal.stamp refusal.why) c.args.slurms.now files at old new (omega (arith, c.loop-at-test.true, count)) c.loop-at.invariant.refusals
          (one_noted refusal.index refusal.stamp refusal.why at c.if-at-index.own (get_or files at old) new own one.other one.own);
      own = left;
    }
