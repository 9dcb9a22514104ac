-- The listeners before this one are resumed, and all others are as they were.
use Rattle.std.proofs.Common.{◌≡◌, ◌++◌, drop, map, take}
use Rattle.rtr_daemon.specs.Accepting.{resume}
use Rattle.rtr_daemon.proofs.accepting.Listeners.resume_all.Given as goal

abbrev pub invariant-loop-listener : goal.invariant-loop-listener
invariant-loop-listener l = l.listener-items ≡ map resume (take l.listener-index l.initial.listener-items) ++ drop l.listener-index l.initial.listener-items
