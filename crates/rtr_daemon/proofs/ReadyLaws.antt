-- What is ready, one answer after another, and who is queued for it.
use Rattle.std.proofs.Common.{◌≡◌, ℕ, ◌+◌, ◌⊎◌, List, [], ◌∷◌, ◌++◌, length, inl, inr, refl, subst, sym, ap, ◌∙◌, arith, length-append}
use Rattle.std.specs.Prelude.{Contains, Some}
use Rattle.std.proofs.lemmas.List.{append-nil}
use Rattle.std.proofs.lemmas.List.Elements.{Contains-append_cases}
use Rattle.points.proofs.Named.{contains_cases}
use Rattle.rtr_daemon.specs.Known.{SameClients}
use Rattle.rtr_daemon.specs.Queue.{IsQueued, QueuesBehind}
use Rattle.rtr_daemon.specs.Accepting.{noted}
use Rattle.rtr_daemon.specs.Readiness.{QueuesReady, TellsEach, all_noted}
use Rattle.rtr_daemon.specs.SocketCalls.{SocketCalls}
use Rattle.rtr_daemon.specs.declared.client_table.ClientTable.{ClientTable}
use Rattle.rtr_daemon.specs.declared.environment.Ready.{Ready}
use Rattle.rtr_daemon.specs.declared.environment.Ready.TheVariants.{Connection}
use Rattle.rtr_daemon.specs.declared.environment.Ready.TheVariants as what
use Rattle.rtr_daemon.specs.declared.accepting.Listener.{Listener}
use Rattle.rtr_daemon.proofs.WakeLaws.{behind_on, still_queued}

-- So far this many were ready, and the clients among them are queued.
pub record ReadySoFar {W : Type 0} (calls : SocketCalls W) (before : W) (old : ClientTable) (listeners : List Listener) (now : ClientTable) (heard : List Listener) (after : W) (count : ℕ) : Type 0 where
  pub told : List Ready
  pub each : TellsEach calls before told after
  pub many : length told ≡ count
  pub queues : QueuesReady told old now
  pub notes : heard ≡ all_noted told listeners

not_in_none : (x : Ready) → Contains [] x → ⊥
not_in_none x among = absurd (omega (arith, among.1))

-- None was ready yet.
pub ready_none : {W : Type 0} (calls : SocketCalls W) (before : W) (table : ClientTable) (listeners : List Listener) → ReadySoFar calls before table listeners table listeners before 0
ready_none calls before table listeners = record {
  told = [];
  each = refl;
  many = refl;
  queues = record { woken = λ token among. absurd (not_in_none (Connection token) among); clients = λ token. refl; queue = ([], sym (append-nil table.queue.items)) };
  notes = refl;
}

-- One more was noted.
noted_more : (told : List Ready) (ready : Ready) (listeners : List Listener) → all_noted (told ++ ready ∷ []) listeners ≡ noted ready (all_noted told listeners)
noted_more [] ready listeners = refl
noted_more (first ∷ told) ready listeners = noted_more told ready (noted first listeners)

-- One more was ready.
tells_more : {W : Type 0} (calls : SocketCalls W) (before : W) (told : List Ready) (last : W) (next : Ready) (after : W) → TellsEach calls before told last → calls.tells last (Some next) after → TellsEach calls before (told ++ next ∷ []) after
tells_more calls before [] last next after so_far told = (after, subst (λ w. calls.tells w (Some next) after) so_far told, refl)
tells_more calls before (first ∷ told) last next after so_far tells = (so_far.0, so_far.1, tells_more calls so_far.0 told last next after so_far.2 tells)

-- A listener is ready: nobody is queued.
pub queues_listener : (listener : ℕ) (table : ClientTable) → QueuesReady (what.Listener listener ∷ []) table table
queues_listener listener table = record { woken = λ token among. alone token (contains_cases (Connection token) (what.Listener listener) [] among); clients = λ token. refl; queue = ([], sym (append-nil table.queue.items)) } where
  alone : (token : ℕ) → (what.Listener listener ≡ Connection token) ⊎ Contains [] (Connection token) → IsQueued table token
  alone token (inl is) = absurd (let never : what.Listener listener ≡ Connection token = is in cc)
  alone token (inr none) = absurd (not_in_none (Connection token) none)

-- A connection is ready: its client is queued.
pub queues_connection : (token : ℕ) (old now : ClientTable) → SameClients old now → QueuesBehind old.queue.items now → IsQueued now token → QueuesReady (Connection token ∷ []) old now
queues_connection token old now same behind queued = record { woken = λ other among. alone other (contains_cases (Connection other) (Connection token) [] among); clients = same; queue = behind } where
  alone : (other : ℕ) → (Connection token ≡ Connection other) ⊎ Contains [] (Connection other) → IsQueued now other
  alone other (inl is) = let both : Connection token ≡ Connection other = is in let other_is : token ≡ other = cc in subst (IsQueued now) other_is queued
  alone other (inr none) = absurd (not_in_none (Connection other) none)

queues_more : (told : List Ready) (ready : Ready) (old mid now : ClientTable) → QueuesReady told old mid → QueuesReady (ready ∷ []) mid now → QueuesReady (told ++ ready ∷ []) old now
queues_more told ready old mid now h one = record { woken = woken; clients = λ token. one.clients token ∙ h.clients token; queue = behind_on old.queue.items mid now h.queue one.queue } where
  by : (token : ℕ) → Contains told (Connection token) ⊎ Contains (ready ∷ []) (Connection token) → IsQueued now token
  by token (inl before) = still_queued mid now token (one.clients token) one.queue (h.woken token before)
  by token (inr last) = one.woken token last

  woken : (token : ℕ) → Contains (told ++ ready ∷ []) (Connection token) → IsQueued now token
  woken token among = by token (Contains-append_cases told (ready ∷ []) (Connection token) among)

pub ready_more : {W : Type 0} (calls : SocketCalls W) (before : W) (old mid now : ClientTable) (listeners heard new : List Listener) (last after : W) (count : ℕ) (ready : Ready) → ReadySoFar calls before old listeners mid heard last count → calls.tells last (Some ready) after → QueuesReady (ready ∷ []) mid now
    → new ≡ noted ready heard → ReadySoFar calls before old listeners now new after (count + 1)
ready_more calls before old mid now listeners heard new last after count ready h tells one hears = record {
  told = h.told ++ ready ∷ [];
  each = tells_more calls before h.told last ready after h.each tells;
  many = length-append h.told (ready ∷ []) ∙ ap (λ n. n + 1) h.many;
  queues = queues_more h.told ready old mid now h.queues one;
  notes = hears ∙ ap (noted ready) h.notes ∙ sym (noted_more h.told ready listeners);
}
