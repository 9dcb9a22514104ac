-- Which clients are noted as queued.
use Rattle.std.specs.Prelude.{◌≡◌, ℕ, true, List, Some, nat_eq, not}
use Rattle.std.specs.BTreeMap.{BTreeMap, get, values}
use Rattle.std.specs.List.{count_by, list_any}
use Rattle.std.specs.Ordering.{nat_cmp}
use Rattle.rtr_daemon.specs.declared.client_entry.ClientEntry.{ClientEntry}

-- The poll token of each client that is noted as queued is in the queue.
abbrev pub AreNoted : BTreeMap ℕ ClientEntry → List ℕ → Type 0
AreNoted clients queue = (token : ℕ) (entry : ClientEntry) → get nat_cmp clients token ≡ Some entry → entry.is_queued ≡ true → list_any (nat_eq token) queue ≡ true

-- how many clients are not noted as queued
abbrev pub unqueued : BTreeMap ℕ ClientEntry → ℕ
unqueued clients = count_by (λ entry. not entry.is_queued) (values clients)
