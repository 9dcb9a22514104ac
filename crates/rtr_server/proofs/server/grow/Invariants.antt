-- All clients are as they were.
use Rattle.std.proofs.Common.{◌≡◌, ◌+◌, ◌-◌, length}
use Rattle.rtr_server.specs.Clients.{KeepsAll, clients_in}
use Rattle.rtr_server.proofs.server.grow.Given as goal

abbrev pub invariant-loop-slots : goal.invariant-loop-slots
invariant-loop-slots g l = record {
  kept : KeepsAll l.initial.slots.items l.slots.items;
  count : clients_in l.slots.items ≡ clients_in l.initial.slots.items;
}

abbrev pub decreases-loop-slots : goal.decreases-loop-slots
decreases-loop-slots g l = (l.number + 1) - length l.slots.items
