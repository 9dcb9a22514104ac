-- Each client below the number was notified, or a notify to it is pending.
use Rattle.std.proofs.Common.{◌≡◌, length}
use Rattle.rtr_server.specs.Clients.{NotifiesBelow, clients_in}
use Rattle.rtr_server.proofs.server.notify_all.Given as goal

abbrev pub invariant-loop-number : goal.invariant-loop-number
invariant-loop-number g l = record {
  len : length l.slots.items ≡ length l.initial.slots.items;
  notifies : NotifiesBelow g.S.VersionStore.holds l.initial.slots.items l.initial.cache l.number l.slots.items l.cache;
  count : clients_in l.slots.items ≡ clients_in l.initial.slots.items;
}
