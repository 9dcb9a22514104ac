use Rattle.std.proofs.Common.{subst, sym, ◌∙◌, ap}
use Rattle.std.specs.Prelude.{max}
use Rattle.rtr_daemon.specs.Closing.{WakesFor}
use Rattle.rtr_daemon.proofs.WaitingLaws.{wakes_for_blocked, wakes_for_others}
use Rattle.rtr_daemon.proofs.daemon.Daemon.next_of_clients.Goals as goal

pub returns-then-waiting : goal.returns-then-waiting
returns-then-waiting g c token entry known = wakes_for_blocked c.args.self.now.next_round c.args.self.now.readings entry

pub returns : goal.returns
returns g c token entry known =
    subst (λ time. WakesFor c.args.self.now.next_round c.args.self.now.readings time entry) (sym (c.max.ensures ∙ ap (λ n. max n c.args.self.now.next_round) c.min-next.ensures))
    (wakes_for_others c.waiting-waiting.result c.args.self.now.next_round c.args.self.now.readings c.next_reading.result c.unwrap_or-silent.result entry c.if-waiting.false c.next_reading.ensures c.unwrap_or-silent.ensures (c.waiting-waiting.ensures.covers token entry known))
