-- What a turn does that is due by the clock. Times are milliseconds of the monotonic clock.
use Rattle.std.specs.Prelude.{◌≡◌, ◌⊎◌, ◌<◌, ◌≤◌, ◌+◌, ◌-◌, ◌*◌, ◌/◌, ◌&&◌, ℕ, Bool, max, min, true, false, List, [], Option, None, Some, unwrap_or, if◌then◌else◌}
use Rattle.vrps.specs.Instance.{Instance}
use Rattle.session_names.specs.Runs.{may_publish}
use Rattle.sources.specs.declared.sources.Sources.{Sources}
use Rattle.rtr_daemon.specs.Accepting.{AreTriedBy, AsksEach, resumed}
use Rattle.rtr_daemon.specs.Ages.{AreJudged, IsOldAfter, ages_of}
use Rattle.rtr_daemon.specs.DiskAnswers.{DiskAnswers}
use Rattle.rtr_daemon.specs.Files.{FollowsEach, FollowsSlurms, loads_of, marks_of, names_of, paths_of}
use Rattle.rtr_daemon.specs.Closing.{ClosesClients, TriesBlocked, WakesFor}
use Rattle.rtr_daemon.specs.Newcomers.{AddsAccepted}
use Rattle.rtr_daemon.specs.PointOffers.{OffersEach, points_of}
use Rattle.rtr_daemon.specs.Known.{NoClients, known_at}
use Rattle.rtr_daemon.specs.Queue.{AreQueued, QueuesBehind, ServesEach}
use Rattle.rtr_daemon.specs.Readiness.{TakesReady}
use Rattle.rtr_daemon.specs.Serving.{Continues, Drops, EndsEmpty, IsFresh, IsReason}
use Rattle.rtr_daemon.specs.SlurmRefusals.{SlurmRefusalsFollow}
use Rattle.rtr_daemon.specs.SocketCalls.{SocketCalls}
use Rattle.rtr_daemon.specs.Times.{later_by}
use Rattle.rtr_server.specs.declared.stream.Call.{Call}
use Rattle.vrps.specs.declared.store.Published.{Published}
use Rattle.vrps.specs.declared.store.Published.TheVariants.{New, Unchanged}
use Rattle.rtr_daemon.specs.declared.client_entry.ClientEntry.{ClientEntry}
use Rattle.rtr_daemon.specs.declared.daemon.Daemon.{Daemon}
use Rattle.rtr_daemon.specs.declared.daemon.StopReason.{StopReason}
use Rattle.rtr_daemon.specs.declared.daemon.StopReason.TheVariants.{Once, Old}
use Rattle.rtr_daemon.specs.declared.refusal.Refusal.{Refusal}
use Rattle.rtr_daemon.specs.declared.statistics.Failure.{Failure}

-- Only clients have changed, what is counted of them, and whether one was closed.
abbrev pub OnlyClients : {S T : Type 0} → Daemon S T → Daemon S T → Type 0
OnlyClients old new =
    new ≡ record old { service = record old.service { server = new.service.server }; clients = new.clients; has_closed = new.has_closed; statistics = new.statistics; has_parted = new.has_parted }

-- So it is, and listeners have changed.
abbrev pub OnlyAdmitted : {S T : Type 0} → Daemon S T → Daemon S T → Type 0
OnlyAdmitted old new =
    new
    ≡ record old {
      service = record old.service { server = new.service.server };
      clients = new.clients;
      listeners = new.listeners;
      has_closed = new.has_closed;
      statistics = new.statistics;
      has_parted = new.has_parted;
    }

-- Only what was read of the files has changed, and what is noted of them.
abbrev pub OnlyFiles : {S T : Type 0} → Daemon S T → Daemon S T → Type 0
OnlyFiles old new =
    new
    ≡ record old {
      service = record old.service { sources = new.service.sources; is_pending = new.service.is_pending; current_at = new.service.current_at; has_points = new.service.has_points };
      exports = new.exports;
      slurms = new.slurms;
      points = new.points;
      statistics = new.statistics;
      clock_behind = new.clock_behind;
    }

-- So after a poll, and whether an export is too old.
abbrev pub OnlyPolled : {S T : Type 0} → Daemon S T → Daemon S T → Type 0
OnlyPolled old new =
    new
    ≡ record old {
      service = record old.service { sources = new.service.sources; is_pending = new.service.is_pending; current_at = new.service.current_at; has_points = new.service.has_points };
      exports = new.exports;
      slurms = new.slurms;
      points = new.points;
      statistics = new.statistics;
      clock_behind = new.clock_behind;
      is_old = new.is_old;
    }

-- Only what is noted of a publication has changed.
abbrev pub OnlyNotes : {S T : Type 0} → Daemon S T → Daemon S T → Type 0
OnlyNotes old new =
    new ≡ record old { statistics = new.statistics; clients = new.clients; is_ready = new.is_ready; next_check = new.next_check; held_until = new.held_until; failing = new.failing }

-- The reason of a failure is kept.
abbrev pub IsKept : Refusal → Option Failure → Type 0
IsKept refusal None = ⊥
IsKept refusal (Some failure) = failure.why ≡ refusal

-- since when publication fails, if it fails at a time: since the first failure without a success in between
abbrev pub failing_since : ℕ → Option ℕ → ℕ
failing_since millis failing = unwrap_or failing millis

-- Publication does not fail, and no failure is kept.
abbrev pub HasNoFailure : {S T : Type 0} → Daemon S T → Type 0
HasNoFailure d = (d.failing ≡ None) × (d.statistics.failure ≡ None)

-- A failure is kept with its reason, and since when publication fails. It is tried again at the next poll of the files.
pub record FailureNoted {S T : Type 0} (refusal : Refusal) (millis : ℕ) (old new : Daemon S T) : Type 0 where
  pub kept : IsKept refusal new.statistics.failure
  pub held : new.held_until ≡ new.next_check
  pub since : new.failing ≡ Some (failing_since millis old.failing)

-- Whether an export is old was judged.
pub record JudgesAges {S T : Type 0} (clock : ℕ → Type 0) (old new : Daemon S T) : Type 0 where
  pub names : names_of new.exports.items ≡ names_of old.exports.items
  pub marks : marks_of new.exports.items ≡ marks_of old.exports.items
  pub judged : AreJudged clock old.plan.max_age old.service.sources (ages_of new.exports.items)
  pub is_old : IsOldAfter old.plan.max_age old.is_old (ages_of new.exports.items) new.is_old
  pub rest : new ≡ record old { exports = new.exports; is_old = new.is_old }

-- Which records have expired was judged.
pub record JudgesExpiry {S T : Type 0} (old new : Daemon S T) : Type 0 where
  pub names : names_of new.exports.items ≡ names_of old.exports.items
  pub marks : marks_of new.exports.items ≡ marks_of old.exports.items
  pub ages : ages_of new.exports.items ≡ ages_of old.exports.items
  pub rest :
      new
      ≡ record old {
        service = record old.service { is_pending = new.service.is_pending; current_at = new.service.current_at; judged_at = new.service.judged_at };
        exports = new.exports;
      }

-- The sources are unchanged, the paths too, whether an export is too old, and the listeners.
pub record KeepsFiles {S T : Type 0} (old new : Daemon S T) : Type 0 where
  pub sources : new.service.sources ≡ old.service.sources
  pub exports : new.exports ≡ old.exports
  pub slurms : new.slurms ≡ old.slurms
  pub points : new.points ≡ old.points
  pub is_old : new.is_old ≡ old.is_old
  pub listeners : new.listeners ≡ old.listeners
  pub rest : (new.plan ≡ old.plan) × (new.started ≡ old.started) × (new.opened ≡ old.opened) × (new.service.settings ≡ old.service.settings)

-- The second of the pace at a time: the second of the start, and the seconds since, in 64 bits.
abbrev pub second_of_pace : ℕ → ℕ → ℕ → ℕ
second_of_pace started opened millis = min (started + (millis - opened) / 1000) 18446744073709551615

-- When files are polled next after a publication that began at a time: if a version is new, one interval after that time, or after another one that
-- the clock answered, if that is later.
abbrev pub NextAfter : {S T : Type 0} → (ℕ → Type 0) → ℕ → Published → Daemon S T → Daemon S T → Type 0
NextAfter ticks began (New serial) old new = (ended : ℕ) × ticks ended × (new.next_check ≡ later_by old.plan.check (max ended began))
NextAfter ticks began Unchanged old new = new.next_check ≡ old.next_check

-- A version was published at a time that the clock answered. The next poll of the files is one interval later than that, or than another time that
-- the clock answered, if that is later (RFC 8210 section 8.2).
pub record Postpones {S T : Type 0} (ticks : ℕ → Type 0) (old new : Daemon S T) : Type 0 where
  pub began : ℕ
  pub ticked : ticks began
  pub paced : new.service.pace ≡ Some (second_of_pace old.started old.opened began)
  pub ended : ℕ
  pub answered : ticks ended
  pub next_check : new.next_check ≡ later_by old.plan.check (max ended began)

-- When files are polled next: at this time, or one interval after a version that was published.
abbrev pub NextPoll : {S T : Type 0} → (ℕ → Type 0) → ℕ → Daemon S T → Daemon S T → Type 0
NextPoll ticks time old new = ((new.service.pace ≡ old.service.pace) × (new.next_check ≡ time)) ⊎ Postpones ticks old new

-- the Expire Interval of a daemon (RFC 8210 section 6), in milliseconds
abbrev pub expire_millis : {S T : Type 0} → Daemon S T → ℕ
expire_millis d = d.service.settings.timing.expire * 1000

-- When versions are dropped at the latest if publication has failed since a time: at the end of the Expire Interval, or in the next round if that is
-- later. A turn before that, for a client, drops them too if the interval is over.
abbrev pub drop_time : {S T : Type 0} → ℕ → Daemon S T → ℕ
drop_time since d = max (later_by (expire_millis d) since) d.next_round

-- A time is early enough for all that is due. It is not after the next poll of the files. If a version is pending and is not held back, it is not
-- after the next round. If publication fails, it is not after the time at which versions are dropped. For each client it is as `WakesFor` says. If
-- routers are admitted, it is not after the end of the pause of a listener at which a connection may be pending.
pub record IsInTime {S T : Type 0} (d : Daemon S T) (millis time : ℕ) : Type 0 where
  pub check : time ≤ d.next_check
  pub round : d.service.is_pending ≡ true → d.held_until ≤ millis → time ≤ d.next_round
  pub drop : (since : ℕ) → d.failing ≡ Some since → time ≤ drop_time since d
  pub clients : (token : ℕ) (entry : ClientEntry) → known_at d.clients token ≡ Some entry → WakesFor d.next_round d.readings time entry
  pub paused : d.is_ready ≡ true → AreTriedBy (Some time) d.listeners.listeners.items

-- How long a turn waits at most: not at all if a client is queued or something is due, and otherwise until something is due.
pub record IsWait {S T : Type 0} (d : Daemon S T) (millis wait : ℕ) : Type 0 where
  pub queued : ¬ (d.clients.queue.items ≡ []) → wait ≡ 0
  pub due : IsInTime d millis (millis + wait) ⊎ (wait ≡ 0)

-- A pending version waits: an earlier publication failed and is not tried again before this time, or the last version is of this second of the pace.
pub record Waits {S T : Type 0} (ticks : ℕ → Type 0) (held : ℕ) (old new : Daemon S T) : Type 0 where
  pub millis : ℕ
  pub ticked : ticks millis
  pub reason : (millis < held) ⊎ (may_publish old.service.pace (second_of_pace old.started old.opened millis) ≡ false)
  pub failing : new.failing ≡ old.failing

-- Publication failed for a reason, which is kept for the status, and since when. It is tried again at the next poll of the files.
pub record FailsToPublish {S T : Type 0} (clock ticks : ℕ → Type 0) (old new : Daemon S T) : Type 0 where
  pub now : ℕ
  pub answered : clock now
  pub tried : ℕ
  pub ticked : ticks tried
  pub since : new.failing ≡ Some (failing_since tried old.failing)
  pub failure : Failure
  pub kept : new.statistics.failure ≡ Some failure
  pub reason : IsReason now new.service.sources failure.why
  pub held : new.held_until ≡ new.next_check

-- No version is pending, publication does not fail, and no failure is kept; or it failed; or the version waits.
abbrev pub PublishesIfDue : {S T : Type 0} → (ℕ → Type 0) → (ℕ → Type 0) → ℕ → Daemon S T → Daemon S T → Type 0
PublishesIfDue clock ticks held old new =
    ((new.service.is_pending ≡ false) × HasNoFailure new) ⊎ FailsToPublish clock ticks old new ⊎ Waits ticks held old new

-- Nothing is done while publication does not fail, or has failed for less than the Expire Interval. After that no version is left. If memory for an empty
-- cache runs out, the versions stay, but all clients are closed.
abbrev pub DropsLate : {S T : Type 0} → (ℕ → Type 0) → (ℕ → Instance → S → Type 0) → (T → Option (List ℕ)) → (T → Option (List ℕ)) → Option ℕ → Daemon S T → Daemon S T → Type 0
DropsLate ticks holds remaining contents None old new = new ≡ old
DropsLate ticks holds remaining contents (Some since) old new =
    (now : ℕ) × ticks now × (now - since < expire_millis old → new ≡ old)
    × (expire_millis old ≤ now - since → EndsEmpty holds remaining contents old.service new.service ⊎ NoClients new.clients)

-- Only the server and its clients have changed, what is counted of them, and whether a version is pending. The failure of publications is kept.
pub record OnlyServed {S T : Type 0} (old new : Daemon S T) : Type 0 where
  pub rest :
      new
      ≡ record old {
        service = record old.service { server = new.service.server; families = new.service.families; is_pending = new.service.is_pending };
        clients = new.clients;
        has_closed = new.has_closed;
        statistics = new.statistics;
        has_parted = new.has_parted;
      }
  pub failure : new.statistics.failure ≡ old.statistics.failure
  pub pending : old.service.is_pending ≡ true → new.service.is_pending ≡ true
  pub queue : new.clients.queue ≡ old.clients.queue

-- Versions that could not be replaced in time are dropped, and all clients are closed: routers would otherwise begin the Expire Interval again with data
-- that have expired.
pub record DropsIfLate {S T : Type 0} (ticks : ℕ → Type 0) (holds : ℕ → Instance → S → Type 0) (remaining contents : T → Option (List ℕ)) (old new : Daemon S T) : Type 0 where
  pub goes : Continues holds remaining contents old.service new.service ⊎ Drops holds remaining contents old.service new.service
  pub late : DropsLate ticks holds remaining contents old.failing old new
  pub clients : (new ≡ old) ⊎ NoClients new.clients
  pub rest : OnlyServed old new

-- Routers are admitted from the first version on.
abbrev pub IsReadyAfter : Published → Bool → Bool → Type 0
IsReadyAfter (New serial) old new = new ≡ true
IsReadyAfter Unchanged old new = new ≡ old

-- No version was published, and routers are admitted if they were before. Or one was: each client is in the queue then, and routers are admitted. The
-- second of the pace changes with each version.
abbrev pub WakesIfPublished : {S T : Type 0} → Daemon S T → Daemon S T → Type 0
WakesIfPublished old new = ((new.service.pace ≡ old.service.pace) × (new.is_ready ≡ old.is_ready)) ⊎ (AreQueued new.clients × (new.is_ready ≡ true))

-- Why a daemon stops, if it does: one router was served and it serves one alone, or an export is too old and it stops then.
abbrev pub end_of : {S T : Type 0} → Daemon S T → Option StopReason
end_of d = if d.plan.once && d.has_parted then Some Once else if d.plan.stops_when_old && d.is_old then Some Old else None

-- Each file and each publication point was polled, in this order: exports, local exceptions, publication points. Then the ages of the exports were
-- judged.
pub record PollsAll {S T W : Type 0} (answers : DiskAnswers W) (clock ticks : ℕ → Type 0) (old new : Daemon S T) : Type 0 where
  pub followed : Sources
  pub excepted : Sources
  pub exports : FollowsEach answers clock ticks old.plan.shrink old.exports.items (marks_of new.exports.items) old.service.sources followed
  pub slurms : FollowsSlurms answers old.slurms.items (loads_of new.slurms.items) followed excepted
  pub slurm_refusals : SlurmRefusalsFollow answers old.slurms.items new.slurms.items
  pub points : OffersEach answers clock old.points.items excepted new.service.sources
  pub judged : AreJudged clock old.plan.max_age new.service.sources (ages_of new.exports.items)
  pub is_old : IsOldAfter old.plan.max_age old.is_old (ages_of new.exports.items) new.is_old

-- The sources are watched at the same paths.
pub record SamePaths {S T : Type 0} (old new : Daemon S T) : Type 0 where
  pub exports : names_of new.exports.items ≡ names_of old.exports.items
  pub slurms : paths_of new.slurms.items ≡ paths_of old.slurms.items
  pub points : points_of new.points.items ≡ points_of old.points.items

-- When files are polled next after a check, and when a pending version is published next. Between polls nothing has changed.
pub record IsChecked {S T : Type 0} (now : ℕ) (old new : Daemon S T) : Type 0 where
  pub next_check : old.next_check ≤ now → new.next_check ≡ later_by old.plan.check now
  pub next_round : old.next_check ≤ now → new.next_round ≡ now
  pub held_until : old.next_check ≤ now → new.held_until ≡ now
  pub pace : new.service.pace ≡ old.service.pace
  pub failing : new.failing ≡ old.failing
  pub settings : new.service.settings ≡ old.service.settings
  pub ready : new.is_ready ≡ old.is_ready
  pub listeners : new.listeners ≡ old.listeners
  pub clients : (new.clients ≡ old.clients) × (new.readings ≡ old.readings)
  pub rest : (new.plan ≡ old.plan) × (new.started ≡ old.started) × (new.opened ≡ old.opened)
  pub between : now < old.next_check → new ≡ old

-- A round: overdue and lost clients are closed, blocked ones are tried, and a pending version is published. The next round is a second later.
pub record HasRound {S T W : Type 0} (calls : SocketCalls W) (clock ticks : ℕ → Type 0) (now held : ℕ) (old new : Daemon S T) : Type 0 where
  pub closes : ClosesClients calls ticks now old new
  pub tries : TriesBlocked new.clients
  pub publishes : PublishesIfDue clock ticks held old new
  pub next_round : new.next_round ≡ later_by 1000 now

-- The files are polled. Then a version is pending, or the newest one is the set of the sources at a second of this poll. A round follows. The next
-- poll is one interval later, or one interval after a new version.
pub record Polls {S T W : Type 0} (answers : DiskAnswers W) (calls : SocketCalls W) (clock ticks : ℕ → Type 0) (now : ℕ) (old new : Daemon S T) : Type 0 where
  pub polls : PollsAll answers clock ticks old new
  pub fresh : IsFresh clock new.service
  pub round : HasRound calls clock ticks now now old new
  pub next_poll : NextPoll ticks (later_by old.plan.check now) old new
  pub paths : SamePaths old new

-- No file is polled. There is a round if it is time for one. Otherwise nothing has changed.
pub record IsBetween {S T W : Type 0} (calls : SocketCalls W) (clock ticks : ℕ → Type 0) (now : ℕ) (old new : Daemon S T) : Type 0 where
  pub kept : KeepsFiles old new
  pub next_poll : NextPoll ticks old.next_check old new
  pub round : old.next_round ≤ now → HasRound calls clock ticks now old.held_until old new
  pub early : now < old.next_round → new ≡ old

-- What a turn does by the clock, at a time that the clock answered.
pub record DoesWhatIsDue {S T W : Type 0} (answers : DiskAnswers W) (calls : SocketCalls W) (clock ticks : ℕ → Type 0) (old new : Daemon S T) : Type 0 where
  pub now : ℕ
  pub ticked : ticks now
  pub due : old.next_check ≤ now → Polls answers calls clock ticks now old new
  pub between : now < old.next_check → IsBetween calls clock ticks now old new
  pub wakes : WakesIfPublished old new
  pub listeners : new.listeners ≡ old.listeners
  pub rest : (new.plan ≡ old.plan) × (new.started ≡ old.started) × (new.opened ≡ old.opened)

-- First the clock was read. The sockets were waited for, at most as long as `IsWait` says from that time. Then they were asked for all that is ready:
-- clients that are ready were queued, and listeners noted.
pub record Awakes {S T W : Type 0} (calls : SocketCalls W) (reads : W → ℕ → W → Type 0) (ticks : ℕ → Type 0) (start : W) (old new : Daemon S T) : Type 0 where
  pub millis : ℕ
  pub ticked : ticks millis
  pub wait : ℕ
  pub is : IsWait old millis wait
  pub before : W
  pub read : reads start millis before
  pub woken : W
  pub after : W
  pub waits : calls.waits before wait woken
  pub ready : TakesReady calls woken old.clients old.listeners.listeners.items new.clients new.listeners.listeners.items after
  pub service : new.service ≡ old.service
  pub only : OnlyAdmitted old new

-- Each listener was asked for connections, and their clients are queued after those that were. No client is changed but those whose connections were
-- accepted. Before the first version none is asked.
pub record Accepts {S T W : Type 0} (calls : SocketCalls W) (ticks : ℕ → Type 0) (old new : Daemon S T) : Type 0 where
  pub asks : old.is_ready ≡ true → AsksEach calls ticks (resumed old.has_closed old.listeners.listeners.items) new.listeners.listeners.items
  pub queue : QueuesBehind old.clients.queue.items new.clients
  pub clients : AddsAccepted calls ticks old.clients new.clients
  pub closed : old.is_ready ≡ false → new.service ≡ old.service
  pub only : OnlyAdmitted old new

-- Each client that was in the queue had one turn, in its order. One that may do more is in the queue again, behind those that were.
pub record ServesQueue {S T : Type 0} (ticks : ℕ → Type 0) (holds : ℕ → Instance → S → Type 0) (remaining contents : T → Option (List ℕ)) (answers : T → Option (List Call)) (old new : Daemon S T) : Type 0 where
  pub turns : ServesEach ticks holds remaining contents answers old.clients.queue.items old new
  pub only : OnlyClients old new

-- A turn, in this order: it waits for the sockets, drops versions if that is due, accepts connections, serves clients, and does what is due by the
-- clock.
pub record TakesTurn {S T W : Type 0} (answers : DiskAnswers W) (calls : SocketCalls W) (reads : W → ℕ → W → Type 0) (clock ticks : ℕ → Type 0) (holds : ℕ → Instance → S → Type 0) (remaining contents : T → Option (List ℕ))
    (stream : T → Option (List Call)) (start : W) (old new : Daemon S T) : Type 0 where
  pub awake : Daemon S T
  pub left : Daemon S T
  pub admitted : Daemon S T
  pub served : Daemon S T
  pub awakes : Awakes calls reads ticks start old awake
  pub drops : DropsIfLate ticks holds remaining contents awake left
  pub accepts : Accepts calls ticks left admitted
  pub serves : ServesQueue ticks holds remaining contents stream admitted served
  pub due : DoesWhatIsDue answers calls clock ticks served new

-- So it does, from some state of the environment.
abbrev pub Turns : {S T W : Type 0} → DiskAnswers W → SocketCalls W → (W → ℕ → W → Type 0) → (ℕ → Type 0) → (ℕ → Type 0) → (ℕ → Instance → S → Type 0) → (T → Option (List ℕ)) → (T → Option (List ℕ)) → (T → Option (List Call)) → Daemon S T → Daemon S T → Type 0
Turns {S} {T} {W} answers calls reads clock ticks holds remaining contents stream old new = (start : W) × TakesTurn answers calls reads clock ticks holds remaining contents stream start old new
