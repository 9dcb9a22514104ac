-- Dropping versions that could not be replaced in time.
use Rattle.std.proofs.Common.{◌≡◌, ◌⊎◌, ◌≤◌, ◌<◌, ◌-◌, ◌∙◌, ℕ, arith, inl, inr, sym, subst, ap, refl}
use Rattle.std.specs.Prelude.{false, List, Option, None, Some}
use Rattle.std.specs.Prelude.{◌+◌, ◌%◌, ◌^◌, Bool, true, [], ◌∷◌, length, if◌then◌else◌}
use Rattle.vrps.specs.Instance.{Instance, NumberedSet, versions, versions_from}
use Rattle.vrps.specs.Serial.{serial_at}
use Rattle.vrps.specs.Store.{is_current, published}
use Rattle.vrps.specs.Stores.{newest}
use Rattle.vrps.specs.VrpSet.{VrpSet}
use Rattle.rtr_ends.specs.CacheState.{CacheCall, CacheState, Close, Notify, Open, Publish, Pull, Receive, ran}
use Rattle.rtr_server.specs.Clients.{Past, present}
use Rattle.rtr_server.specs.Clients.{made as made_of}
use Rattle.rtr_daemon.specs.Due.{DropsIfLate, DropsLate, OnlyClients, OnlyServed, expire_millis}
use Rattle.rtr_daemon.specs.Known.{NoClients}
use Rattle.rtr_daemon.specs.Serving.{BeginsAnew, Continues, Drops, EndsEmpty, IsMadeWith, new_past, without_versions}
use Rattle.rtr_daemon.specs.declared.cache_settings.CacheSettings.{CacheSettings}
use Rattle.rtr_daemon.specs.declared.client_entry.ClientEntry.{ClientEntry}
use Rattle.rtr_daemon.specs.declared.daemon.Daemon.{Daemon}
use Rattle.rtr_daemon.specs.declared.service.Service.{Service}
use Rattle.rtr_daemon.proofs.ServiceLaws.{stays, then_on}

-- each client is closed
abbrev pub to_none : Option ClientEntry → Option ClientEntry
to_none client = None

-- A step that publishes nothing, and then the versions are dropped.
pub then_drops : {S T : Type 0} (holds : ℕ → Instance → S → Type 0) (remaining contents : T → Option (List ℕ)) (a b c : Service S T) → Continues holds remaining contents a b → Drops holds remaining contents b c → Drops holds remaining contents a c
then_drops holds remaining contents a b c on drops p is =
    let one = on p is in
    let two = drops one.0 one.2 in (
      two.0,
      record {
        calls = two.1.calls;
        first = two.1.first ∙ ap without_versions one.3;
        keep = two.1.keep ∙ one.1.keep;
        timing = two.1.timing ∙ one.1.timing;
        most = two.1.most ∙ one.1.most;
      },
      two.2,
      two.3 ∙ one.4,
    )

-- old with what is served of new
abbrev with_served : {S T : Type 0} → Daemon S T → Daemon S T → Daemon S T
with_served old new = record old {
  service = record old.service { server = new.service.server; families = new.service.families; is_pending = new.service.is_pending };
  clients = new.clients;
  has_closed = new.has_closed;
  statistics = new.statistics;
  has_parted = new.has_parted;
}

-- Clients are closed, and then the versions may be dropped.
pub then_either : {S T : Type 0} (holds : ℕ → Instance → S → Type 0) (remaining contents : T → Option (List ℕ)) (a b c : Service S T) → Continues holds remaining contents a b → Continues holds remaining contents b c ⊎ Drops holds remaining contents b c → Continues holds remaining contents a c ⊎ Drops holds remaining contents a c
then_either holds remaining contents a b c on (inl more) = inl (then_on holds remaining contents a b c on more)
then_either holds remaining contents a b c on (inr drops) = inr (then_drops holds remaining contents a b c on drops)

-- Clients are closed, and then only the server, what is pending and the statistics change.
pub served_by : {S T : Type 0} (a b e : Daemon S T) (s : Service S T) → OnlyClients a b → b.statistics.failure ≡ a.statistics.failure → b.clients.queue ≡ a.clients.queue → s ≡ record b.service { server = s.server; families = s.families; is_pending = s.is_pending }
    → (b.service.is_pending ≡ true → s.is_pending ≡ true) → e ≡ record b { service = s; statistics = e.statistics } → e.statistics.failure ≡ b.statistics.failure → OnlyServed a e
served_by {S} {T} a b e s only failure queue s_is pending e_is e_failure = record {
  rest = subst (λ z. e ≡ with_served z e) only (subst (λ z. z ≡ with_served b z) (sym e_is) (ap (λ t. record b { service = t; statistics = e.statistics }) s_is));
  failure = e_failure ∙ failure;
  pending = λ waits. ap {A = Daemon S T} (λ d. d.service.is_pending) e_is ∙ pending (ap {A = Daemon S T} (λ d. d.service.is_pending) only ∙ waits);
  queue = ap {A = Daemon S T} (λ d. d.clients.queue) e_is ∙ queue;
}

-- Nothing has changed.
pub served_same : {S T : Type 0} (a : Daemon S T) → OnlyServed a a
served_same a = record { rest = refl; failure = refl; pending = λ waits. waits; queue = refl }

-- Nothing is done: publication does not fail, or has failed for less than the Expire Interval.
pub keeps : {S T : Type 0} (ticks : ℕ → Type 0) (holds : ℕ → Instance → S → Type 0) (remaining contents : T → Option (List ℕ)) (a : Daemon S T) → DropsLate ticks holds remaining contents a.failing a a → DropsIfLate ticks holds remaining contents a a
keeps ticks holds remaining contents a late = record { goes = inl (stays holds remaining contents a.service); late = late; clients = inl refl; rest = served_same a }

pub late_none : {S T : Type 0} (ticks : ℕ → Type 0) (holds : ℕ → Instance → S → Type 0) (remaining contents : T → Option (List ℕ)) (failing : Option ℕ) (a : Daemon S T) → None ≡ failing → DropsLate ticks holds remaining contents failing a a
late_none ticks holds remaining contents failing a none = subst (λ failing. DropsLate ticks holds remaining contents failing a a) none refl

pub late_early : {S T : Type 0} (ticks : ℕ → Type 0) (holds : ℕ → Instance → S → Type 0) (remaining contents : T → Option (List ℕ)) (failing : Option ℕ) (since now : ℕ) (a : Daemon S T) → failing ≡ Some since → ticks now → now - since < expire_millis a
    → DropsLate ticks holds remaining contents failing a a
late_early ticks holds remaining contents failing since now a is ticked less =
    subst (λ failing. DropsLate ticks holds remaining contents failing a a) (sym is) (now, ticked, λ early. refl, λ long. absurd (omega (arith, less, long)))

-- Publication has failed for the Expire Interval.
pub late_long : {S T : Type 0} (ticks : ℕ → Type 0) (holds : ℕ → Instance → S → Type 0) (remaining contents : T → Option (List ℕ)) (failing : Option ℕ) (since now : ℕ) (a e : Daemon S T) → failing ≡ Some since → ticks now → expire_millis a ≤ now - since
    → EndsEmpty holds remaining contents a.service e.service ⊎ NoClients e.clients → DropsLate ticks holds remaining contents failing a e
late_long ticks holds remaining contents failing since now a e is ticked long drops =
    subst (λ failing. DropsLate ticks holds remaining contents failing a e) (sym is) (now, ticked, λ early. absurd (omega (arith, early, long)), λ late. drops)

-- ---- a cache that begins anew

none_newest : (start : ℕ) (sets : List VrpSet) → None ≡ newest (versions_from start sets) → sets ≡ []
none_newest start [] none = refl
none_newest start (set ∷ older) none = absurd (cc)

-- Without a current version there is none.
pub no_sets : (i : Instance) → None ≡ newest (versions i) → i.sets ≡ []
no_sets i none = none_newest i.start i.sets none

next_after : (start : ℕ) (sets : List VrpSet) (found : NumberedSet) → Some found ≡ newest (versions_from start sets) → (found.serial + 1) % 2 ^ 32 ≡ serial_at start (length sets)
next_after start [] found is = absurd (cc)
next_after start (set ∷ older) found is = ap (λ v. (v.serial + 1) % 2 ^ 32) (let same : found ≡ record { serial = serial_at start (length older); set = set } = cc in same) ∙ omega arith

-- The serial after that of the current version is that of the next one.
pub next_serial : (i : Instance) (found : NumberedSet) → Some found ≡ newest (versions i) → (found.serial + 1) % 2 ^ 32 ≡ serial_at i.start (length i.sets)
next_serial i found is = next_after i.start i.sets found is

published_session0 : (set : VrpSet) (i : Instance) → (published set i).session0 ≡ i.session0
published_session0 set i = by (is_current i.sets set) where
  by : (b : Bool) → (if b then i else record i { sets = set ∷ i.sets }).session0 ≡ i.session0
  by true = refl
  by false = refl

-- No call changes the session of version 0.
pub ran_session0 : (calls : List CacheCall) (m : CacheState) → (ran calls m).cache.session0 ≡ m.cache.session0
ran_session0 [] m = refl
ran_session0 (Publish set ∷ calls) m = published_session0 set (ran calls m).cache ∙ ran_session0 calls m
ran_session0 (Open c ∷ calls) m = ran_session0 calls m
ran_session0 (Close c ∷ calls) m = ran_session0 calls m
ran_session0 (Receive c wanting piece ∷ calls) m = ran_session0 calls m
ran_session0 (Pull c most ∷ calls) m = ran_session0 calls m
ran_session0 (Notify c ∷ calls) m = ran_session0 calls m

-- The new cache begins anew.
pub begins_anew : (settings : CacheSettings) (session session0 serial : ℕ) (found : NumberedSet) (p : Past) → IsMadeWith settings session0 p → Some found ≡ newest (versions (present p).cache) → found.serial ≡ serial → session ≡ (present p).cache.session
    → BeginsAnew p (new_past settings session session0 ((serial + 1) % 2 ^ 32) p.begun)
begins_anew settings session session0 serial found p made is serial_is session_is = record {
  calls = refl;
  first = (λ k. record { session = session_is k; session0 = zero_is k; start = start_is k; sets = [] });
  keep = sym made.keep;
  timing = sym made.timing;
  most = sym made.most;
} where
  zero_is : session0 ≡ (present p).cache.session0
  zero_is = sym (ran_session0 p.calls (made_of p) ∙ made.session0_is)

  start_is : (serial + 1) % 2 ^ 32 ≡ serial_at (present p).cache.start (length (present p).cache.sets)
  start_is = ap (λ n. (n + 1) % 2 ^ 32) (sym serial_is) ∙ next_serial (present p).cache found is
