-- So far the clients of the tokens before the next one are queued.
use Rattle.std.proofs.Common.{ℕ}
use Rattle.rtr_daemon.specs.Known.{SameClients}
use Rattle.rtr_daemon.specs.Queue.{IsQueued, QueuesBehind}
use Rattle.rtr_daemon.proofs.WakeLaws.{IsBefore, left_from}
use Rattle.rtr_daemon.proofs.client_table.ClientTable.wake_all.Given as goal

abbrev pub invariant-loop-next : goal.invariant-loop-next
invariant-loop-next l = record { clients : SameClients l.initial.self l.self; queue : QueuesBehind l.initial.self.queue.items l.self; so_far : (token : ℕ) → IsBefore token l.next → IsQueued l.self token }

abbrev pub decreases-loop-next : goal.decreases-loop-next
decreases-loop-next l = left_from l.next
