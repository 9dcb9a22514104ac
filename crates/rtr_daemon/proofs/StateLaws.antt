-- The state was judged, after what is due was done: only which reasons were logged has changed.
use Rattle.std.proofs.Common.{◌≡◌, ℕ, inl, inr, subst, sym}
use Rattle.rtr_daemon.specs.Due.{KeepsFiles, NextPoll, PublishesIfDue, WakesIfPublished}
use Rattle.rtr_daemon.specs.declared.daemon.Daemon.{Daemon}
use Rattle.rtr_daemon.specs.declared.unwell.UnwellReasons.{UnwellReasons}

abbrev pub with_unwell : {S T : Type 0} → Daemon S T → UnwellReasons → Daemon S T
with_unwell d reasons = record d { unwell = reasons }

due_on : {S T : Type 0} (clock ticks : ℕ → Type 0) (held : ℕ) (a b : Daemon S T) (u : UnwellReasons) → PublishesIfDue clock ticks held a b → PublishesIfDue clock ticks held a (with_unwell b u)
due_on clock ticks held a b u (inl done) = inl done
due_on clock ticks held a b u (inr (inl f)) = inr (inl (record { now = f.now; answered = f.answered; tried = f.tried; ticked = f.ticked; since = f.since; failure = f.failure; kept = f.kept; reason = f.reason; held = f.held }))
due_on clock ticks held a b u (inr (inr waits)) = inr (inr (record { millis = waits.millis; ticked = waits.ticked; reason = waits.reason; failing = waits.failing }))

pub judged_due : {S T : Type 0} (clock ticks : ℕ → Type 0) (held : ℕ) (a b c : Daemon S T) → c ≡ with_unwell b c.unwell → PublishesIfDue clock ticks held a b → PublishesIfDue clock ticks held a c
judged_due clock ticks held a b c same due = subst (PublishesIfDue clock ticks held a) (sym same) (due_on clock ticks held a b c.unwell due)

pub judged_wakes : {S T : Type 0} (a b c : Daemon S T) → c ≡ with_unwell b c.unwell → WakesIfPublished a b → WakesIfPublished a c
judged_wakes {S} {T} a b c same wakes = subst (WakesIfPublished a) (sym same) (on wakes) where
  on : WakesIfPublished a b → WakesIfPublished a (with_unwell b c.unwell)
  on (inl paced) = inl paced
  on (inr woke) = inr woke

pub judged_kept : {S T : Type 0} (a b c : Daemon S T) → c ≡ with_unwell b c.unwell → KeepsFiles a b → KeepsFiles a c
judged_kept {S} {T} a b c same k = subst (KeepsFiles a) (sym same) (record { sources = k.sources; exports = k.exports; slurms = k.slurms; points = k.points; is_old = k.is_old; listeners = k.listeners; rest = k.rest })

pub judged_next : {S T : Type 0} (ticks : ℕ → Type 0) (time : ℕ) (a b c : Daemon S T) → c ≡ with_unwell b c.unwell → NextPoll ticks time a b → NextPoll ticks time a c
judged_next {S} {T} ticks time a b c same next = subst (NextPoll ticks time a) (sym same) (on next) where
  on : NextPoll ticks time a b → NextPoll ticks time a (with_unwell b c.unwell)
  on (inl kept) = inl kept
  on (inr p) = inr (record { began = p.began; ticked = p.ticked; paced = p.paced; ended = p.ended; answered = p.answered; next_check = p.next_check })
