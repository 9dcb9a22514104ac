-- Clients are queued, one poll token after another.
use Rattle.std.proofs.Common.{◌≡◌, ℕ, ◌<◌, ◌≤◌, ◌+◌, ◌-◌, ◌⊎◌, List, ◌++◌, inl, inr, subst, sym, ap, ◌∙◌, arith}
use Rattle.std.specs.Prelude.{Bool, true, false, if◌then◌else◌, is_some, length, IfOk, OnErr, Result, Ok, Err, Contains, IsSome, Option, None, Some, cond, nat_eq, not, option_map, ⊤}
use Rattle.std.specs.BTreeMap.{BTreeMap, IsUnchanged, btree_map_len, get, is_at}
use Rattle.std.specs.List.{sum_by}
use Rattle.std.specs.Map.{lookup, remove_entry, set_value, values_of}
use Rattle.std.specs.Option.{unwrap_or}
use Rattle.std.proofs.lemmas.List.Sums.{count_by-le-length}
use Rattle.std.proofs.lemmas.Map.Entries.{length-values_of, sum_by-remove_entry, sum_by-set_value}
use Rattle.std.specs.Ordering.{nat_cmp}
use Rattle.std.proofs.lemmas.Bool.{cases_lt, eqb-true, false≢true}
use Rattle.std.proofs.lemmas.List.{append_assoc}
use Rattle.std.proofs.lemmas.List.Elements.{Contains-append_left}
use Rattle.std.proofs.lemmas.Map.Views.{Contains-from_any}
use Rattle.rtr_daemon.specs.Notes.{AreNoted, unqueued}
use Rattle.rtr_daemon.specs.Known.{SameClients, client_at, known_at}
use Rattle.rtr_daemon.specs.Queue.{IsFirstFrom, IsQueued, QueuesBehind}
use Rattle.rtr_daemon.specs.declared.client_entry.ClientEntry.{ClientEntry}
use Rattle.rtr_daemon.specs.declared.client_table.ClientTable.{ClientTable}

-- a token is before the next one
abbrev pub IsBefore : ℕ → Option ℕ → Type 0
IsBefore token None = ⊤
IsBefore token (Some next) = token < next

-- how many tokens there are from the next one on, in 64 bits
abbrev pub left_from : Option ℕ → ℕ
left_from None = 0
left_from (Some next) = 18446744073709551616 - next

pub behind_on : (queue : List ℕ) (a b : ClientTable) → QueuesBehind queue a → QueuesBehind a.queue.items b → QueuesBehind queue b
behind_on queue a b first second = (first.0 ++ second.0, second.1 ∙ ap (λ q. q ++ second.0) first.1 ∙ append_assoc queue first.0 second.0)

-- A client that was queued stays so.
pub still_queued : (a b : ClientTable) (token : ℕ) → known_at b token ≡ known_at a token → QueuesBehind a.queue.items b → IsQueued a token → IsQueued b token
still_queued a b token same behind queued there =
    subst (λ q. Contains q token) (sym behind.1) (Contains-append_left a.queue.items behind.0 token (queued (subst IsSome (ap (λ known. option_map (λ entry. entry.client) known) same) there)))

-- The client of the next token is queued, and all before it are.
pub woken_on : (table mid : ClientTable) (token : ℕ) (after : Option ℕ) → ((t : ℕ) → t < token → IsQueued table t) → SameClients table mid → QueuesBehind table.queue.items mid → IsQueued mid token → IsFirstFrom mid (token + 1) after → (t : ℕ) → IsBefore t after → IsQueued mid t
woken_on table mid token after so_far same behind woken first t before there = by (cases_lt t token) where
  absent : token + 1 ≤ t → (o : Option ℕ) → IsFirstFrom mid (token + 1) o → IsBefore t o → client_at mid t ≡ None
  absent later None none earlier = none t later
  absent later (Some next) h earlier = h.1 t later earlier

  at : (token < t) ⊎ (t ≤ token) → token ≤ t → Contains mid.queue.items t
  at (inl less) more = absurd (false≢true (subst IsSome (absent (omega (arith, less)) after first before) there))
  at (inr most) more = let is : t ≡ token = omega (arith, more, most) in subst (IsQueued mid) (sym is) woken there

  by : (t < token) ⊎ (token ≤ t) → Contains mid.queue.items t
  by (inl less) = subst (λ q. Contains q t) (sym behind.1) (Contains-append_left table.queue.items behind.0 t (so_far t less (subst IsSome (ap (λ known. option_map (λ entry. entry.client) known) (same t)) there)))
  by (inr more) = at (cases_lt token t) more

-- 1 for a client that is not noted as queued, otherwise 0
abbrev pub waits : ClientEntry → ℕ
waits entry = cond (not entry.is_queued) 1 0

-- A client is noted otherwise than before.
pub unqueued_put : (old new : BTreeMap ℕ ClientEntry) (token : ℕ) (before after : ClientEntry) → Some before ≡ get nat_cmp old token → new.entries ≡ set_value (is_at (nat_cmp token)) old.entries after → unqueued new + waits before ≡ unqueued old + waits after
unqueued_put old new token before after got put = ap (λ es. sum_by waits (values_of es) + waits before) put ∙ sum_by-set_value waits (is_at (nat_cmp token)) old.entries before after (sym got)

-- A client is inserted, or memory runs out: at most one more than all were is not queued.
pub unqueued_inserted : {B : Type 0} (old new : BTreeMap ℕ ClientEntry) (result : Result (Option ClientEntry) B) → IfOk result (λ before. btree_map_len new ≡ btree_map_len old + (if is_some before then 0 else 1)) → OnErr result (IsUnchanged old new) → unqueued new ≤ btree_map_len old + 1
unqueued_inserted old new (Ok before) len same =
    let within = count_by-le-length (λ entry. not entry.is_queued) (values_of new.entries) in
    let many : length (values_of new.entries) ≡ length new.entries = length-values_of new.entries in
    by (is_some before) len within many
  where
    by : (is : Bool) → length new.entries ≡ length old.entries + (if is then 0 else 1) → unqueued new ≤ length (values_of new.entries) → length (values_of new.entries) ≡ length new.entries → unqueued new ≤ length old.entries + 1
    by true len within many = omega (arith, len, within, many)
    by false len within many = omega (arith, len, within, many)
unqueued_inserted old new (Err error) len same =
    let within = count_by-le-length (λ entry. not entry.is_queued) (values_of new.entries) in
    let many : length (values_of new.entries) ≡ length new.entries = length-values_of new.entries in
    let is : length new.entries ≡ length old.entries = ap length same in
    omega (arith, within, many, is)

-- A client is removed.
pub unqueued_removed : (old new : BTreeMap ℕ ClientEntry) (token : ℕ) → new.entries ≡ remove_entry (is_at (nat_cmp token)) old.entries → unqueued new ≤ unqueued old
unqueued_removed old new token removed =
    let sum : sum_by waits (values_of new.entries) + unwrap_or (option_map waits (lookup (is_at (nat_cmp token)) old.entries)) 0 ≡ sum_by waits (values_of old.entries) = ap (λ es. sum_by waits (values_of es) + unwrap_or (option_map waits (lookup (is_at (nat_cmp token)) old.entries)) 0) removed ∙ sum_by-remove_entry waits (is_at (nat_cmp token)) old.entries in
    omega (arith, sum)

-- A client that is noted as queued is in the queue.
pub noted_in : (clients : BTreeMap ℕ ClientEntry) (queue : List ℕ) (token : ℕ) (entry : ClientEntry) → AreNoted clients queue → get nat_cmp clients token ≡ Some entry → entry.is_queued ≡ true → Contains queue token
noted_in clients queue token entry noted got is = Contains-from_any {eq = nat_eq} eqb-true token queue (noted token entry got is)
