use Rattle.std.proofs.Common.{subst, sym}
use Rattle.std.specs.Prelude.{Some}
use Rattle.rtr_daemon.specs.Accepting.{AreTriedBy}
use Rattle.rtr_daemon.proofs.AcceptLaws.{tried_at}
use Rattle.rtr_daemon.proofs.daemon.Daemon.next_of_listeners.Goals as goal

pub returns : goal.returns
returns g c ready =
    let listeners = c.args.self.now.listeners.listeners.items in
    subst (λ time. AreTriedBy (Some time) listeners) (sym c.unwrap_or.ensures) (tried_at c.next_accept.result 18446744073709551615 listeners (c.next_accept.ensures ready))
