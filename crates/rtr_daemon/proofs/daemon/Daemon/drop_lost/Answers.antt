use Rattle.std.proofs.Common.{inl, inr, refl}
use Rattle.rtr_daemon.proofs.WaitingLaws.{none_notified}
use Rattle.rtr_daemon.proofs.daemon.Daemon.drop_lost.Goals.{then-now-self-via-then-now-self, then-now-self-via-else-now-self+then-not-waiting}
use Rattle.rtr_daemon.proofs.daemon.Daemon.drop_lost.Goals as goal

pub returns-then-now-self-clause-looks : goal.returns-then-now-self-clause-looks
returns-then-now-self-clause-looks g c =
    elim c.then-now-self.branch [
      | then-now-self-via-then-now-self w ↦ inl (inl w.if-now-self.true, (λ t. refl), refl)
      | then-now-self-via-else-now-self+then-not-waiting w ↦ inl (inr (none_notified c.args.self.now.clients w.waiting.result w.if-not-waiting.true w.waiting.ensures.covers), (λ t. refl), refl)
    ]
