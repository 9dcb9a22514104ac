-- The parts of a turn, and what it does by the clock.
use Rattle.std.proofs.lemmas.Bool.{cases_lt}
use Rattle.std.proofs.Common.{◌≡◌, ℕ, ◌+◌, ◌-◌, ◌≤◌, ◌<◌, ◌⊎◌, inl, inr, subst, sym, ◌∙◌, ap, refl, arith}
use Rattle.std.specs.Prelude.{false, true, max, min, IfErr, IfOk, Option, None, Some, Result, Ok, Err}
use Rattle.rtr_daemon.specs.declared.versions.PublishReport.{PublishReport}
use Rattle.rtr_daemon.specs.declared.refusal.Refusal.{Refusal}
use Rattle.rtr_daemon.specs.declared.statistics.Failure.{Failure}
use Rattle.session_names.specs.Runs.{may_publish}
use Rattle.rtr_daemon.specs.Files.{FollowsEach, FollowsSlurms, loads_of, marks_of, names_of, paths_of}
use Rattle.rtr_daemon.specs.SlurmRefusals.{SlurmRefusalsFollow}
use Rattle.rtr_daemon.specs.Ages.{AreJudged, IsOldAfter, ages_of}
use Rattle.rtr_daemon.specs.DiskAnswers.{DiskAnswers}
use Rattle.rtr_daemon.specs.Due.{DoesWhatIsDue, FailsToPublish, FailureNoted, HasNoFailure, HasRound, IsBetween, IsChecked, IsInTime, IsKept, IsReadyAfter, JudgesAges, KeepsFiles, NextAfter, NextPoll, OnlyAdmitted, OnlyClients, OnlyFiles, OnlyNotes, OnlyPolled, PollsAll, PublishesIfDue, SamePaths, WakesIfPublished, drop_time, failing_since, second_of_pace}
use Rattle.rtr_daemon.specs.Accepting.{AreTriedBy}
use Rattle.rtr_daemon.specs.Closing.{ClosesClients, ClosesOverdue, LooksIfDue, WakesFor}
use Rattle.rtr_daemon.specs.Known.{known_at}
use Rattle.rtr_daemon.specs.declared.client_entry.ClientEntry.{ClientEntry}
use Rattle.rtr_daemon.proofs.AcceptLaws.{tried_earlier}
use Rattle.rtr_daemon.specs.SocketCalls.{SocketCalls}
use Rattle.rtr_daemon.specs.PointOffers.{OffersEach, points_of}
use Rattle.rtr_daemon.specs.Queue.{WakesIfNew}
use Rattle.rtr_daemon.specs.Times.{later_by}
use Rattle.rtr_daemon.specs.Serving.{IsFresh, IsOfSecond, IsReason, OnlySources, PacesSo, StaysFresh}
use Rattle.vrps.specs.declared.store.Published.{Published}
use Rattle.vrps.specs.declared.store.Published.TheVariants.{New, Unchanged}
use Rattle.rtr_daemon.specs.declared.client_table.ClientTable.{ClientTable}
use Rattle.rtr_daemon.specs.declared.daemon.Daemon.{Daemon}
use Rattle.rtr_daemon.specs.declared.service.Service.{Service}

-- old with the clients of new
abbrev pub with_clients : {S T : Type 0} → Daemon S T → Daemon S T → Daemon S T
with_clients old new = record old { service = record old.service { server = new.service.server }; clients = new.clients; has_closed = new.has_closed; statistics = new.statistics; has_parted = new.has_parted }

-- One part after another changes only clients.
pub only_on : {S T : Type 0} (a b c : Daemon S T) → OnlyClients a b → OnlyClients b c → OnlyClients a c
only_on a b c first second = subst (λ z. c ≡ with_clients z c) first second

-- Clients were closed, then the system's tables were read and clients closed by them.
pub only_looked : {S T : Type 0} (a : Daemon S T) (round : ℕ) (b c : Daemon S T) → OnlyClients (record a { next_round = round }) b → OnlyClients (record b { readings = c.readings }) c → OnlyClients (record a { next_round = round; readings = c.readings }) c
only_looked {S} {T} a round b c first second = subst (λ (z : Daemon S T). c ≡ with_clients (record z { readings = c.readings }) c) first second

-- old with what was admitted to new
abbrev pub with_admitted : {S T : Type 0} → Daemon S T → Daemon S T → Daemon S T
with_admitted old new = record (with_clients old new) { listeners = new.listeners }

pub admitted_on : {S T : Type 0} (a b c : Daemon S T) → OnlyAdmitted a b → OnlyAdmitted b c → OnlyAdmitted a c
admitted_on a b c first second = subst (λ z. c ≡ with_admitted z c) first second

-- Pauses were ended.
pub resumed_only : {S T : Type 0} (a b : Daemon S T) → b ≡ record a { listeners = b.listeners; has_closed = false } → OnlyAdmitted a b
resumed_only a b h = subst (λ z. z ≡ with_admitted a z) (sym h) refl

-- Then clients are queued.
pub then_queued : {S T : Type 0} (a b : Daemon S T) (table : ClientTable) → OnlyClients a b → OnlyClients a (record b { clients = table })
then_queued {S} {T} a b table only = ap {A = Daemon S T} (λ d. record d { clients = table }) only

-- One part after another changes only the sources.
pub sources_on : {S T : Type 0} (a b c : Service S T) → OnlySources a b → OnlySources b c → OnlySources a c
sources_on a b c first second = subst (λ z. c ≡ record z { sources = c.sources; is_pending = c.is_pending; current_at = c.current_at; has_points = c.has_points }) first second

-- When a version is published depends on the pace alone, and on when the daemon was opened.
pub publishes_from : {S T : Type 0} (clock ticks : ℕ → Type 0) (held : ℕ) (a b c : Daemon S T) → b.service.pace ≡ a.service.pace → b.started ≡ a.started → b.opened ≡ a.opened → b.failing ≡ a.failing
    → PublishesIfDue clock ticks held b c → PublishesIfDue clock ticks held a c
publishes_from clock ticks held a b c pace started opened failing (inl done) = inl done
publishes_from clock ticks held a b c pace started opened failing (inr (inl f)) =
    inr (inl (record { now = f.now; answered = f.answered; tried = f.tried; ticked = f.ticked; since = f.since ∙ ap (λ z. Some (failing_since f.tried z)) failing; failure = f.failure; kept = f.kept; reason = f.reason; held = f.held }))
publishes_from clock ticks held a b c pace started opened failing (inr (inr waits)) = inr (inr (record { millis = waits.millis; ticked = waits.ticked; reason = by waits.reason; failing = waits.failing ∙ failing })) where
  by : (waits.millis < held) ⊎ (may_publish b.service.pace (second_of_pace b.started b.opened waits.millis) ≡ false) → (waits.millis < held) ⊎ (may_publish a.service.pace (second_of_pace a.started a.opened waits.millis) ≡ false)
  by (inl early) = inl early
  by (inr same) = inr (rw (sym pace, sym started, sym opened) same)

-- When files are polled next depends on the pace before, on the settings, and on when the daemon was opened.
pub next_from : {S T : Type 0} (ticks : ℕ → Type 0) (time : ℕ) (a b c : Daemon S T) → b.service.pace ≡ a.service.pace → b.plan ≡ a.plan → b.started ≡ a.started → b.opened ≡ a.opened → NextPoll ticks time b c → NextPoll ticks time a c
next_from ticks time a b c pace plan started opened (inl same) = inl (same.0 ∙ pace, same.1)
next_from ticks time a b c pace plan started opened (inr p) = inr (record {
  began = p.began;
  ticked = p.ticked;
  paced = subst (λ second. c.service.pace ≡ Some (second_of_pace second a.opened p.began)) started (subst (λ millis. c.service.pace ≡ Some (second_of_pace b.started millis p.began)) opened p.paced);
  ended = p.ended;
  answered = p.answered;
  next_check = subst (λ settings. c.next_check ≡ later_by settings.check (max p.ended p.began)) plan p.next_check;
})

-- That clients are woken depends on the pace before alone.
pub wakes_from : {S T : Type 0} (a b c : Daemon S T) → b.service.pace ≡ a.service.pace → b.is_ready ≡ a.is_ready → WakesIfPublished b c → WakesIfPublished a c
wakes_from a b c pace ready (inl same) = inl (same.0 ∙ pace, same.1 ∙ ready)
wakes_from a b c pace ready (inr woke) = inr woke

-- A publication was tried: no version is new, or all clients are woken.
pub woken_by : {S T : Type 0} (a new : Daemon S T) (s : Service S T) (second : ℕ) (tried : Result PublishReport Refusal) → PacesSo (Some tried) second a.service.pace s.pace → IfOk tried (λ report. WakesIfNew report.published a.clients new.clients) → IfOk tried (λ report. IsReadyAfter report.published a.is_ready new.is_ready) → IfErr tried (λ refusal. new.is_ready ≡ a.is_ready) → OnlyNotes (record a { service = s }) new
    → WakesIfPublished a new
woken_by a new s second (Err refusal) paced wakes ready unready only = inl (ap (λ d. d.service.pace) only ∙ paced, unready)
woken_by {S} {T} a new s second (Ok report) paced wakes ready unready only = by report.published paced wakes ready where
  by : (published : Published) → IsOfSecond published second a.service.pace s.pace → WakesIfNew published a.clients new.clients → IsReadyAfter published a.is_ready new.is_ready → WakesIfPublished a new
  by (New serial) paced wakes ready = inr (wakes.each, ready)
  by Unchanged paced wakes ready = inl (ap (λ d. d.service.pace) only ∙ paced, ready)

-- A publication was tried: no version is new, or the next poll is one interval later.
pub postponed_by : {S T : Type 0} (ticks : ℕ → Type 0) (a new : Daemon S T) (s : Service S T) (began second : ℕ) (tried : Result PublishReport Refusal) → ticks began → second ≡ second_of_pace a.started a.opened began → PacesSo (Some tried) second a.service.pace s.pace
    → IfOk tried (λ report. NextAfter ticks began report.published (record a { service = s }) new) → IfErr tried (λ refusal. new.next_check ≡ a.next_check) → OnlyNotes (record a { service = s }) new → NextPoll ticks a.next_check a new
postponed_by ticks a new s began second (Err refusal) ticked is paced later same only = inl (ap (λ d. d.service.pace) only ∙ paced, same)
postponed_by {S} {T} ticks a new s began second (Ok report) ticked is paced later same only = by report.published paced later where
  by : (published : Published) → IsOfSecond published second a.service.pace s.pace → NextAfter ticks began published (record a { service = s }) new → NextPoll ticks a.next_check a new
  by (New serial) paced after = inr (record { began = began; ticked = ticked; paced = ap (λ d. d.service.pace) only ∙ paced ∙ ap (λ n. Some n) is; ended = after.0; answered = after.1; next_check = after.2 })
  by Unchanged paced after = inl (ap (λ d. d.service.pace) only ∙ paced, after)

polls_to : {S T W : Type 0} (answers : DiskAnswers W) (clock ticks : ℕ → Type 0) (a b c : Daemon S T) → c.service.sources ≡ b.service.sources → marks_of c.exports.items ≡ marks_of b.exports.items → ages_of c.exports.items ≡ ages_of b.exports.items → c.slurms ≡ b.slurms
    → c.is_old ≡ b.is_old → PollsAll answers clock ticks a b → PollsAll answers clock ticks a c
polls_to answers clock ticks a b c same marks ages slurms old p = record {
  followed = p.followed;
  excepted = p.excepted;
  exports = subst (λ since. FollowsEach answers clock ticks a.plan.shrink a.exports.items since a.service.sources p.followed) (sym marks) p.exports;
  slurms = subst (λ z. FollowsSlurms answers a.slurms.items (loads_of z.items) p.followed p.excepted) (sym slurms) p.slurms;
  slurm_refusals = subst (λ z. SlurmRefusalsFollow answers a.slurms.items z.items) (sym slurms) p.slurm_refusals;
  points = subst (OffersEach answers clock a.points.items p.excepted) (sym same) p.points;
  judged = subst (λ s. AreJudged clock a.plan.max_age s (ages_of c.exports.items)) (sym same) (subst (AreJudged clock a.plan.max_age b.service.sources) (sym ages) p.judged);
  is_old = subst (IsOldAfter a.plan.max_age a.is_old (ages_of c.exports.items)) (sym old) (subst (λ all. IsOldAfter a.plan.max_age a.is_old all b.is_old) (sym ages) p.is_old);
}

-- A round, after a check
pub record Round {S T W : Type 0} (calls : SocketCalls W) (clock ticks : ℕ → Type 0) (now : ℕ) (b d : Daemon S T) : Type 0 where
  pub fresh : IsFresh clock b.service → IsFresh clock d.service
  pub has : b.next_round ≤ now → HasRound calls clock ticks now b.held_until b d
  pub idle : now < b.next_round → d ≡ b
  pub kept : KeepsFiles b d
  pub next : NextPoll ticks b.next_check b d
  pub wakes : WakesIfPublished b d

-- Which clients are closed depends on those that are there, on the settings, and on when the system's tables are read next.
closes_from : {S T W : Type 0} (calls : SocketCalls W) (ticks : ℕ → Type 0) (now : ℕ) (a b d : Daemon S T) → b.plan ≡ a.plan → (b.clients ≡ a.clients) × (b.readings ≡ a.readings) → ClosesClients calls ticks now b d → ClosesClients calls ticks now a d
closes_from calls ticks now a b d plan same c = record {
  at = c.at;
  ticked = c.ticked;
  left = c.left;
  overdue = subst (λ p. ClosesOverdue c.at p a.clients c.left) plan (subst (λ t. ClosesOverdue c.at b.plan t c.left) same.0 c.overdue);
  lost = subst (λ p. LooksIfDue calls now p.stall a.readings c.left d.readings d.clients) plan (subst (λ r. LooksIfDue calls now b.plan.stall r c.left d.readings d.clients) same.1 c.lost);
}

-- What is due: a check, and a round.
pub due_of : {S T W : Type 0} (answers : DiskAnswers W) (calls : SocketCalls W) (clock ticks : ℕ → Type 0) (now : ℕ) (a b d : Daemon S T) → ticks now → (a.next_check ≤ now → PollsAll answers clock ticks a b) → (a.next_check ≤ now → IsFresh clock b.service) → SamePaths a b → IsChecked now a b → Round calls clock ticks now b d
    → DoesWhatIsDue answers calls clock ticks a d
due_of {S} {T} answers calls clock ticks now a b d ticked polls fresh paths checked r = record {
  now = now;
  ticked = ticked;
  due = λ is. record {
    polls = polls_to answers clock ticks a b d r.kept.sources (ap (λ e. marks_of e.items) r.kept.exports) (ap (λ e. ages_of e.items) r.kept.exports) r.kept.slurms r.kept.is_old (polls is);
    fresh = r.fresh (fresh is);
    round =
        let has = r.has (early_enough is) in
        record {
          closes = closes_from calls ticks now a b d checked.rest.0 checked.clients has.closes;
          tries = has.tries;
          publishes = publishes_from clock ticks now a b d checked.pace checked.rest.1 checked.rest.2 checked.failing (subst (λ held. PublishesIfDue clock ticks held b d) (checked.held_until is) has.publishes);
          next_round = has.next_round;
        };
    next_poll = next_from ticks (later_by a.plan.check now) a b d checked.pace checked.rest.0 checked.rest.1 checked.rest.2 (subst (λ time. NextPoll ticks time b d) (checked.next_check is) r.next);
    paths = record {
      exports = ap (λ e. names_of e.items) r.kept.exports ∙ paths.exports;
      slurms = ap (λ e. paths_of e.items) r.kept.slurms ∙ paths.slurms;
      points = ap (λ e. points_of e.items) r.kept.points ∙ paths.points;
    };
  };
  between = λ is. between_of (checked.between is);
  wakes = wakes_from a b d checked.pace checked.ready r.wakes;
  listeners = r.kept.listeners ∙ checked.listeners;
  rest = (r.kept.rest.0 ∙ checked.rest.0, r.kept.rest.1 ∙ checked.rest.1, r.kept.rest.2 ∙ checked.rest.2);
} where
  early_enough : a.next_check ≤ now → b.next_round ≤ now
  early_enough is = let at : b.next_round ≡ now = checked.next_round is in omega (arith, at)

  between_of : b ≡ a → IsBetween calls clock ticks now a d
  between_of same = again (subst (λ z. Round calls clock ticks now z d) same r) where
    again : Round calls clock ticks now a d → IsBetween calls clock ticks now a d
    again s = record { kept = s.kept; next_poll = s.next; round = s.has; early = s.idle }

-- old with the files of new, and what is noted of them
abbrev pub with_files : {S T : Type 0} → Daemon S T → Daemon S T → Daemon S T
with_files old new = record old {
  service = record old.service { sources = new.service.sources; is_pending = new.service.is_pending; current_at = new.service.current_at; has_points = new.service.has_points };
  exports = new.exports;
  slurms = new.slurms;
  points = new.points;
  statistics = new.statistics;
  clock_behind = new.clock_behind;
}

-- One part after another changes only files.
pub files_on : {S T : Type 0} (a b c : Daemon S T) → OnlyFiles a b → OnlyFiles b c → OnlyFiles a c
files_on a b c first second = subst (λ z. c ≡ with_files z c) first second

-- What was judged of the clock, and of ages
pub clock_only : {S T : Type 0} (a b : Daemon S T) → b ≡ record a { clock_behind = b.clock_behind } → OnlyFiles a b
clock_only a b h = subst (λ z. z ≡ with_files a z) (sym h) refl

-- old with what a poll changes
abbrev pub with_polled : {S T : Type 0} → Daemon S T → Daemon S T → Daemon S T
with_polled old new = record (with_files old new) { is_old = new.is_old }

-- After the files, ages are judged.
pub polled_on : {S T : Type 0} (clock : ℕ → Type 0) (a b c : Daemon S T) → OnlyFiles a b → JudgesAges clock b c → OnlyPolled a c
polled_on clock a b c only h =
    let last : c ≡ with_polled b c = subst (λ z. z ≡ with_polled b z) (sym h.rest) refl in
    subst (λ z. c ≡ with_polled z c) only last

-- A poll by its parts: the clock, exports, local exceptions, publication points, and ages
pub record Parts {S T W : Type 0} (answers : DiskAnswers W) (clock ticks : ℕ → Type 0) (a b c d e f : Daemon S T) : Type 0 where
  pub judged : b ≡ record a { clock_behind = b.clock_behind }
  pub exports : FollowsEach answers clock ticks b.plan.shrink b.exports.items (marks_of c.exports.items) b.service.sources c.service.sources
  pub names : names_of c.exports.items ≡ names_of b.exports.items
  pub after_exports : (c.slurms ≡ b.slurms) × (c.points ≡ b.points)
  pub slurms : FollowsSlurms answers c.slurms.items (loads_of d.slurms.items) c.service.sources d.service.sources
  pub slurm_refusals : SlurmRefusalsFollow answers c.slurms.items d.slurms.items
  pub slurm_paths : paths_of d.slurms.items ≡ paths_of c.slurms.items
  pub after_slurms : (d.exports ≡ c.exports) × (d.points ≡ c.points)
  pub points : OffersEach answers clock d.points.items d.service.sources e.service.sources
  pub point_paths : points_of e.points.items ≡ points_of d.points.items
  pub after_points : (e.exports ≡ d.exports) × (e.slurms ≡ d.slurms)
  pub only : OnlyFiles a e
  pub ages : JudgesAges clock e f

pub polls_of : {S T W : Type 0} (answers : DiskAnswers W) (clock ticks : ℕ → Type 0) (a b c d e f : Daemon S T) → Parts answers clock ticks a b c d e f → PollsAll answers clock ticks a f
polls_of answers clock ticks a b c d e f p =
    let at_start : FollowsEach answers clock ticks a.plan.shrink a.exports.items (marks_of c.exports.items) a.service.sources c.service.sources =
    subst (λ z. FollowsEach answers clock ticks z.plan.shrink z.exports.items (marks_of c.exports.items) z.service.sources c.service.sources) p.judged p.exports in
    let marks : marks_of f.exports.items ≡ marks_of c.exports.items =
    p.ages.marks ∙ ap (λ z. marks_of z.items) p.after_points.0 ∙ ap (λ z. marks_of z.items) p.after_slurms.0 in
    let slurms : c.slurms ≡ a.slurms = p.after_exports.0 ∙ ap (λ z. z.slurms) p.judged in
    let points : d.points ≡ a.points = p.after_slurms.1 ∙ p.after_exports.1 ∙ ap (λ z. z.points) p.judged in
    let last : f.service.sources ≡ e.service.sources = ap (λ z. z.service.sources) p.ages.rest in
    record {
      followed = c.service.sources;
      excepted = d.service.sources;
      exports = subst (λ since. FollowsEach answers clock ticks a.plan.shrink a.exports.items since a.service.sources c.service.sources) (sym marks) at_start;
      slurms =
          subst (λ z. FollowsSlurms answers z.items (loads_of f.slurms.items) c.service.sources d.service.sources) slurms
          (subst (λ z. FollowsSlurms answers c.slurms.items (loads_of z.items) c.service.sources d.service.sources) (sym (ap (λ z. z.slurms) p.ages.rest ∙ p.after_points.1)) p.slurms);
      slurm_refusals =
          subst (λ z. SlurmRefusalsFollow answers z.items f.slurms.items) slurms
          (subst (λ z. SlurmRefusalsFollow answers c.slurms.items z.items) (sym (ap (λ z. z.slurms) p.ages.rest ∙ p.after_points.1)) p.slurm_refusals);
      points = subst (OffersEach answers clock a.points.items d.service.sources) (sym last) (subst (λ z. OffersEach answers clock z.items d.service.sources e.service.sources) points p.points);
      judged =
          subst (λ s. AreJudged clock a.plan.max_age s (ages_of f.exports.items)) (sym last)
          (subst (λ plan. AreJudged clock plan.max_age e.service.sources (ages_of f.exports.items)) (ap (λ z. z.plan) p.only) p.ages.judged);
      is_old =
          subst (λ before. IsOldAfter a.plan.max_age before (ages_of f.exports.items) f.is_old) (ap (λ z. z.is_old) p.only)
          (subst (λ plan. IsOldAfter plan.max_age e.is_old (ages_of f.exports.items) f.is_old) (ap (λ z. z.plan) p.only) p.ages.is_old);
    }

pub same_paths_of : {S T W : Type 0} (answers : DiskAnswers W) (clock ticks : ℕ → Type 0) (a b c d e f : Daemon S T) → Parts answers clock ticks a b c d e f → SamePaths a f
same_paths_of answers clock ticks a b c d e f p = record {
  exports =
      p.ages.names ∙ ap (λ z. names_of z.items) p.after_points.0 ∙ ap (λ z. names_of z.items) p.after_slurms.0 ∙ p.names
      ∙ ap (λ z. names_of z.exports.items) p.judged;
  slurms =
      ap (λ z. paths_of z.slurms.items) p.ages.rest ∙ ap (λ z. paths_of z.items) p.after_points.1 ∙ p.slurm_paths ∙ ap (λ z. paths_of z.items) p.after_exports.0
      ∙ ap (λ z. paths_of z.slurms.items) p.judged;
  points =
      ap (λ z. points_of z.points.items) p.ages.rest ∙ p.point_paths ∙ ap (λ z. points_of z.items) p.after_slurms.1 ∙ ap (λ z. points_of z.items) p.after_exports.1
      ∙ ap (λ z. points_of z.points.items) p.judged;
}

-- The reason of a failure that is kept
kept_failure : (refusal : Refusal) (failure : Option Failure) → IsKept refusal failure → (f : Failure) × (failure ≡ Some f) × (f.why ≡ refusal)
kept_failure refusal None kept = absurd kept
kept_failure refusal (Some f) kept = (f, refl, kept)

-- Publication failed, and that was noted.
pub fails_on : {S T : Type 0} (clock ticks : ℕ → Type 0) (a new : Daemon S T) (s : Service S T) (now tried : ℕ) (refusal : Refusal) → clock now → ticks tried → s.sources ≡ a.service.sources → IsReason now a.service.sources refusal → OnlyNotes (record a { service = s }) new → FailureNoted refusal tried (record a { service = s }) new → FailsToPublish clock ticks a new
fails_on clock ticks a new s now tried refusal answered ticked same reason only noted =
    let f = kept_failure refusal new.statistics.failure noted.kept in
    let sources : new.service.sources ≡ a.service.sources = ap (λ d. d.service.sources) only ∙ same in
    record { now = now; answered = answered; tried = tried; ticked = ticked; since = noted.since; failure = f.0; kept = f.1; reason = subst (λ r. IsReason now new.service.sources r) (sym f.2) (subst (λ z. IsReason now z refusal) (sym sources) reason); held = noted.held }

-- A publication was tried: no version is pending, or it failed.
pub tried_due : {S T : Type 0} (clock ticks : ℕ → Type 0) (held : ℕ) (a new : Daemon S T) (s : Service S T) (now began : ℕ) (tried : Result PublishReport Refusal) → clock now → ticks began → s.sources ≡ a.service.sources → IfOk tried (λ x. s.is_pending ≡ false) → IfErr tried (λ r. IsReason now a.service.sources r) → OnlyNotes (record a { service = s }) new
    → IfErr tried (λ r. FailureNoted r began (record a { service = s }) new) → IfOk tried (λ x. HasNoFailure new) → PublishesIfDue clock ticks held a new
tried_due clock ticks held a new s now began (Ok report) answered ticked same done fails only noted none = inl (ap (λ d. d.service.is_pending) only ∙ done, none)
tried_due clock ticks held a new s now began (Err refusal) answered ticked same done fails only noted none = inr (inl (fails_on clock ticks a new s now began refusal answered ticked same fails only noted))

-- What was published, and what was noted of it, leaves the files.
pub published_kept : {S T : Type 0} (a new : Daemon S T) (s : Service S T) → s.sources ≡ a.service.sources → s.settings ≡ a.service.settings → OnlyNotes (record a { service = s }) new → KeepsFiles a new
published_kept a new s same settings only = record {
  sources = ap (λ d. d.service.sources) only ∙ same;
  exports = ap (λ d. d.exports) only;
  slurms = ap (λ d. d.slurms) only;
  points = ap (λ d. d.points) only;
  is_old = ap (λ d. d.is_old) only;
  listeners = ap (λ d. d.listeners) only;
  rest = (ap (λ d. d.plan) only, ap (λ d. d.started) only, ap (λ d. d.opened) only, ap (λ d. d.service.settings) only ∙ settings);
}

fresh_on : {S T : Type 0} (clock : ℕ → Type 0) (a b : Service S T) (now : ℕ) → clock now → StaysFresh now a b → IsFresh clock a → IsFresh clock b
fresh_on clock a b now answered (inl (at, pending)) (inl waits) = inl (pending ∙ waits)
fresh_on clock a b now answered (inl (at, pending)) (inr known) = inr (subst clock (sym at) known)
fresh_on clock a b now answered (inr at) fresh = inr (subst clock (sym at) answered)

pub published_fresh : {S T : Type 0} (clock : ℕ → Type 0) (a new : Daemon S T) (s : Service S T) (now : ℕ) → clock now → StaysFresh now a.service s → OnlyNotes (record a { service = s }) new → IsFresh clock a.service → IsFresh clock new.service
published_fresh clock a new s now answered stays only fresh = subst (IsFresh clock) (sym (ap (λ d. d.service) only)) (fresh_on clock a.service s now answered stays fresh)

pub clients_fresh : {S T : Type 0} (clock : ℕ → Type 0) (a b : Daemon S T) → OnlyClients a b → IsFresh clock a.service → IsFresh clock b.service
clients_fresh clock a b only fresh = subst (λ z. IsFresh clock z.service) (sym only) (again fresh) where
  again : IsFresh clock a.service → IsFresh clock (with_clients a b).service
  again (inl waits) = inl waits
  again (inr known) = inr known

-- Clients, and then what leaves the files
pub clients_kept : {S T : Type 0} (a b c : Daemon S T) → OnlyClients a b → KeepsFiles b c → KeepsFiles a c
clients_kept a b c only kept = again (subst (λ z. KeepsFiles z c) only kept) where
  again : KeepsFiles (with_clients a b) c → KeepsFiles a c
  again k = record { sources = k.sources; exports = k.exports; slurms = k.slurms; points = k.points; is_old = k.is_old; listeners = k.listeners; rest = k.rest }

-- A poll, when the next one was noted, and what has expired
pub polled_then : {S T W : Type 0} (answers : DiskAnswers W) (clock ticks : ℕ → Type 0) (a b c d : Daemon S T) → b ≡ record a { next_check = b.next_check; next_round = b.next_round; held_until = b.held_until } → PollsAll answers clock ticks b c
    → d.service.sources ≡ c.service.sources → marks_of d.exports.items ≡ marks_of c.exports.items → ages_of d.exports.items ≡ ages_of c.exports.items → d.slurms ≡ c.slurms → d.is_old ≡ c.is_old → PollsAll answers clock ticks a d
polled_then answers clock ticks a b c d times polls same marks ages slurms old =
    let p = subst (λ z. PollsAll answers clock ticks z c) times polls in
    let at_start : PollsAll answers clock ticks a c = record { followed = p.followed; excepted = p.excepted; exports = p.exports; slurms = p.slurms; slurm_refusals = p.slurm_refusals; points = p.points; judged = p.judged; is_old = p.is_old } in
    polls_to answers clock ticks a c d same marks ages slurms old at_start

-- A turn that waits until a time is due then, or does not wait.
pub wait_until : {S T : Type 0} (d : Daemon S T) (millis time : ℕ) → IsInTime d millis time → IsInTime d millis (millis + (time - millis)) ⊎ (time - millis ≡ 0)
wait_until d millis time is = by (cases_lt time millis) where
  by : (time < millis) ⊎ (millis ≤ time) → IsInTime d millis (millis + (time - millis)) ⊎ (time - millis ≡ 0)
  by (inl past) = inr (omega (arith, past))
  by (inr later) = let at : time ≡ millis + (time - millis) = omega (arith, later) in inl (subst (IsInTime d millis) at is)

-- The earliest of several times is in time for all.
pub earliest_in_time : {S T : Type 0} (d : Daemon S T) (millis check clients pending failure listeners time : ℕ) → check ≡ d.next_check → ((token : ℕ) (entry : ClientEntry) → known_at d.clients token ≡ Some entry → WakesFor d.next_round d.readings clients entry) → (d.service.is_pending ≡ true → d.held_until ≤ millis → pending ≤ d.next_round)
    → ((since : ℕ) → d.failing ≡ Some since → failure ≤ drop_time since d) → (d.is_ready ≡ true → AreTriedBy (Some listeners) d.listeners.listeners.items) → time ≡ min (min (min (min check clients) pending) failure) listeners → IsInTime d millis time
earliest_in_time d millis check clients pending failure listeners time check_is of_clients of_pending of_failure of_listeners is = record {
  check = omega (arith, check_is, is);
  round = λ pends held. let by = of_pending pends held in omega (arith, by, is);
  drop = λ since fails. let by = of_failure since fails in let least : time ≤ failure = omega (arith, is) in omega (arith, by, least);
  clients = λ token entry known. let w = of_clients token entry known in let least : time ≤ clients = omega (arith, is) in record {
    blocked = λ b. let by = w.blocked b in omega (arith, by, least);
    silent = λ b. let by = w.silent b in omega (arith, by, least);
    notified = λ b. let by = w.notified b in omega (arith, by, least);
  };
  paused = λ ready. tried_earlier listeners time d.listeners.listeners.items (omega (arith, is)) (of_listeners ready);
}
