-- Each token is above those before. So far no client is lost, none leaves the queue, and what waits is found of the clients before the next token.
use Rattle.rtr_daemon.specs.Known.{SameClients}
use Rattle.rtr_daemon.specs.Queue.{QueuesBehind}
use Rattle.rtr_daemon.proofs.WaitingLaws.{FoundBefore}
use Rattle.rtr_daemon.proofs.WakeLaws.{left_from}
use Rattle.rtr_daemon.proofs.client_table.ClientTable.wake_blocked.Given as goal

abbrev pub invariant-loop-at : goal.invariant-loop-at
invariant-loop-at l = record { clients : SameClients l.initial.self l.self; queue : QueuesBehind l.initial.self.queue.items l.self; found : FoundBefore l.initial.self l.self l.waiting l.at }

abbrev pub decreases-loop-at : goal.decreases-loop-at
decreases-loop-at l = left_from l.at
