-- So far each listener is open.
use Rattle.std.proofs.Common.{◌≡◌}
use Rattle.std.specs.Prelude.{replicate}
use Rattle.rtr_daemon.specs.Starting.{open_listener}
use Rattle.rtr_daemon.proofs.accepting.Listeners.new.Given as goal

abbrev pub invariant-loop-listener : goal.invariant-loop-listener
invariant-loop-listener l = l.listeners.items ≡ replicate l._listener open_listener
