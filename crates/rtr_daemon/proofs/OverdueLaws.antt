-- Clients are closed, one poll token after another.
use Rattle.std.proofs.Common.{◌≡◌, ℕ, List, ◌<◌, ◌≤◌, ◌+◌, ◌⊎◌, inl, inr, ap, refl, subst, sym, ◌∙◌, arith}
use Rattle.std.specs.Prelude.{Bool, true, false, if◌then◌else◌, Option, None, Some, option_map}
use Rattle.std.proofs.lemmas.Bool.{cases_lt}
use Rattle.rtr_daemon.specs.Closing.{ClosesBy, ClosesClients, ClosesOverdue, LooksIfDue, TriesBlocked}
use Rattle.rtr_daemon.specs.Due.{OnlyClients}
use Rattle.rtr_daemon.specs.Known.{OtherClients, SameClients, known_at}
use Rattle.rtr_daemon.specs.Losing.{lines_noted}
use Rattle.rtr_daemon.specs.Queue.{IsFirstFrom, IsQueued, QueuesBehind}
use Rattle.rtr_daemon.specs.SocketCalls.{SocketCalls}
use Rattle.rtr_daemon.specs.declared.client_entry.ClientEntry.{ClientEntry}
use Rattle.rtr_daemon.specs.declared.client_table.ClientTable.{ClientTable}
use Rattle.rtr_daemon.specs.Waiting.{is_blocked_client}
use Rattle.rtr_daemon.specs.declared.daemon.Daemon.{Daemon}
use Rattle.rtr_daemon.specs.declared.daemon.Plan.{Plan}
use Rattle.rtr_daemon.specs.declared.losing.Readings.{Readings}
use Rattle.tcp_table.specs.Columns.{endpoint_of}
use Rattle.tcp_table.specs.Loss.{unanswered_after}
use Rattle.tcp_table.specs.Tables.{bytes_of}
use Rattle.tcp_table.specs.declared.line.TcpLine.{TcpLine}
use Rattle.rtr_daemon.proofs.WakeLaws.{IsBefore, still_queued}

-- a token is not before the next one
abbrev pub IsFrom : ℕ → Option ℕ → Type 0
IsFrom token None = ⊥
IsFrom token (Some next) = next ≤ token

-- What is known of the clients before the next token has become so. All others are as they were.
pub record ChangesBefore (to : Option ClientEntry → Option ClientEntry) (old new : ClientTable) (next : Option ℕ) : Type 0 where
  pub changed : (t : ℕ) → IsBefore t next → known_at new t ≡ to (known_at old t)
  pub left : (t : ℕ) → IsFrom t next → known_at new t ≡ known_at old t

unknown : (client : Option ClientEntry) → option_map (λ entry. entry.client) client ≡ None → client ≡ None
unknown None is = refl
unknown (Some entry) is = absurd (let never : option_map (λ e. e.client) (Some entry) ≡ None = is in cc)

-- There is no client at the tokens before the next one.
pub absent : (table : ClientTable) (least : ℕ) (next : Option ℕ) → IsFirstFrom table least next → (t : ℕ) → least ≤ t → IsBefore t next → known_at table t ≡ None
absent table least None none t more before = unknown (known_at table t) (none t more)
absent table least (Some next) first t more before = unknown (known_at table t) (first.1 t more before)

pub none_changed : (to : Option ClientEntry → Option ClientEntry) (table : ClientTable) (next : Option ℕ) → to None ≡ None → IsFirstFrom table 0 next → ChangesBefore to table table next
none_changed to table next nothing first = record {
  changed = λ t before. let gone = absent table 0 next first t (omega arith) before in gone ∙ sym (ap to gone ∙ nothing);
  left = λ t from. refl;
}

-- The client of the next token is changed so.
pub changed_on : (to : Option ClientEntry → Option ClientEntry) (old table mid : ClientTable) (token : ℕ) (after : Option ℕ) → to None ≡ None → ChangesBefore to old table (Some token) → OtherClients token table mid → known_at mid token ≡ to (known_at table token) → IsFirstFrom mid (token + 1) after → ChangesBefore to old mid after
changed_on to old table mid token after nothing so_far others one first = record { changed = before; left = λ t from. others t (λ e. apart t e (later t after first from)) ∙ so_far.left t (omega (arith, later t after first from)) } where
  later : (t : ℕ) (o : Option ℕ) → IsFirstFrom mid (token + 1) o → IsFrom t o → token < t
  later t None none from = absurd from
  later t (Some next) h from = let least = h.0 in omega (arith, least, from)

  apart : (t : ℕ) → t ≡ token → token < t → ⊥
  apart t e less = absurd (omega (arith, e, less))

  before : (t : ℕ) → IsBefore t after → known_at mid t ≡ to (known_at old t)
  before t is = by (cases_lt t token) (cases_lt token t) where
    by : (t < token) ⊎ (token ≤ t) → (token < t) ⊎ (t ≤ token) → known_at mid t ≡ to (known_at old t)
    by (inl less) more = others t (λ e. absurd (omega (arith, e, less))) ∙ so_far.changed t less
    by (inr most) (inl less) =
        let gone = absent mid (token + 1) after first t (omega (arith, less)) is in
        let was = so_far.left t most in
        let old_gone = sym was ∙ sym (others t (λ e. apart t e less)) ∙ gone in
        gone ∙ sym (ap to old_gone ∙ nothing)
    by (inr most) (inr least) = at (omega (arith, most, least)) where
      at : t ≡ token → known_at mid t ≡ to (known_at old t)
      at is = ap (known_at mid) is ∙ one ∙ ap to (so_far.left token (omega arith)) ∙ sym (ap (λ u. to (known_at old u)) is)

-- All clients were seen.
pub all_changed : (to : Option ClientEntry → Option ClientEntry) (old new : ClientTable) → ChangesBefore to old new None → (t : ℕ) → known_at new t ≡ to (known_at old t)
all_changed to old new so_far t = so_far.changed t tt

-- Overdue clients are closed, and then no client changes.
pub closed_then : (now : ℕ) (plan : Plan) (a b c : ClientTable) → ClosesOverdue now plan a b → SameClients b c → ClosesOverdue now plan a c
closed_then now plan a b c closed same = λ t. same t ∙ closed t

-- Lost clients are closed, and then no client changes.
pub looks_then : {W : Type 0} (calls : SocketCalls W) (now stall : ℕ) (readings after : Readings) (a b c : ClientTable) → SameClients b c → LooksIfDue calls now stall readings a after b → LooksIfDue calls now stall readings a after c
looks_then {W} calls now stall readings after a b c same (inl (none, kept, is)) = inl (none, (λ t. same t ∙ kept t), is)
looks_then {W} calls now stall readings after a b c same (inr l) = inr (record { before = l.before; tables = l.tables; after = l.after; shown = l.shown; closed = by l.tables l.closed; next = l.next }) where
  by : (tables : Option (List ℕ)) → ClosesBy tables now stall a b → ClosesBy tables now stall a c
  by None kept = λ t. same t ∙ kept t
  by (Some lines) (inl closed) = inl (λ t. same t ∙ closed t)
  by (Some lines) (inr kept) = inr (λ t. same t ∙ kept t)

-- What the system's tables show of a client does not change whether it is queued.
pub same_place : (lines : List TcpLine) (now : ℕ) (entry : ClientEntry) → (lines_noted lines now entry).is_queued ≡ entry.is_queued
same_place lines now entry = by entry.is_notified where
  by : (notified : Bool) → (if notified then record entry { unanswered = unanswered_after entry.unanswered (bytes_of (endpoint_of entry.local) (endpoint_of entry.address) lines) now } else entry).is_queued ≡ entry.is_queued
  by true = refl
  by false = refl

-- Overdue clients were closed, then lost ones, then no client changed.
pub closes_on : {S T W : Type 0} (calls : SocketCalls W) (ticks : ℕ → Type 0) (now round : ℕ) (a left mid : Daemon S T) (woken : ClientTable) (new : Daemon S T) → ((at : ℕ) × ticks at × ClosesOverdue at a.plan a.clients left.clients) → OnlyClients (record a { next_round = round }) left
    → LooksIfDue calls now left.plan.stall left.readings left.clients mid.readings mid.clients → SameClients mid.clients woken → SameClients woken new.clients → new.readings ≡ mid.readings → ClosesClients calls ticks now a new
closes_on calls ticks now round a left mid woken new closed only looks first second readings = record {
  at = closed.0;
  ticked = closed.1;
  left = left.clients;
  overdue = closed.2;
  lost =
      subst (λ r. LooksIfDue calls now a.plan.stall a.readings left.clients r new.clients) (sym readings)
      (looks_then calls now a.plan.stall a.readings mid.readings left.clients mid.clients new.clients (λ t. second t ∙ first t)
      (subst (λ span. LooksIfDue calls now span a.readings left.clients mid.readings mid.clients) (ap (λ d. d.plan.stall) only)
      (subst (λ r. LooksIfDue calls now left.plan.stall r left.clients mid.readings mid.clients) (ap (λ d. d.readings) only) looks)));
}

-- Blocked clients were queued, then no client changed, and the queue has grown at its end.
pub tried_on : (mid woken new : ClientTable) → SameClients mid woken → SameClients woken new → QueuesBehind woken.queue.items new → ((token : ℕ) → is_blocked_client (known_at mid token) ≡ true → IsQueued woken token) → TriesBlocked new
tried_on mid woken new first second behind tries token blocked =
    still_queued woken new token (second token) behind (tries token (subst (λ known. is_blocked_client known ≡ true) (second token ∙ first token) blocked))
