use Rattle.std.proofs.Common.{◌∙◌, ap, refl}
use Rattle.std.specs.Prelude.{min}
use Rattle.rtr_daemon.proofs.DueLaws.{earliest_in_time}
use Rattle.rtr_daemon.proofs.daemon.Daemon.next_moment.Goals as goal

pub returns : goal.returns
returns g c =
    let d = c.args.self.now in
    let clients = c.next_of_clients.result in
    let pending = c.next_of_pending.result in
    let failure = c.next_of_failure.result in
    let listeners = c.next_of_listeners.result in
    earliest_in_time d c.args.millis d.next_check clients pending failure listeners c.min-4.result refl c.next_of_clients.ensures c.next_of_pending.ensures c.next_of_failure.ensures c.next_of_listeners.ensures
    (c.min-4.ensures ∙ ap (λ n. min n listeners) (c.min-3.ensures ∙ ap (λ n. min n failure) (c.min-2.ensures ∙ ap (λ n. min n pending) c.min.ensures)))
