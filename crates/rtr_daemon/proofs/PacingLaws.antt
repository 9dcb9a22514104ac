-- The versions of a daemon are those of a run.
use Rattle.std.proofs.Common.{◌≡◌, ℕ, zero, suc, ◌+◌, ◌-◌, ◌^◌, ◌<◌, ◌≤◌, true, nat_lt, List, [], ◌∷◌, ◌++◌, length, All, Some, arith, refl, subst, sym, ap, ◌∙◌, length-append}
use Rattle.std.proofs.lemmas.Bool.Decides.{nat_tests}
use Rattle.session_names.specs.Names.{first_serial}
use Rattle.session_names.specs.Runs.{ArePaced, may_publish}
use Rattle.session_names.proofs.RunLaws.{restart_at_once_is_later}
use Rattle.vrps.specs.Serial.{is_before, serial_at}
use Rattle.vrps.proofs.SetVersions.{is_before_newer}
use Rattle.rtr_daemon.specs.Pacing.{DropsLater, DropsPaced, RestartsLater, StaysPaced, last_of}

-- One time more
paced_more : (last now : ℕ) (times : List ℕ) → ArePaced (Some last) times → nat_lt (last_of last times) now ≡ true → ArePaced (Some last) (times ++ now ∷ [])
paced_more last now [] paced later = (later, tt)
paced_more last now (time ∷ times) paced later = (paced.0, paced_more time now times paced.1 later)

last_more : (last now : ℕ) (times : List ℕ) → last_of last (times ++ now ∷ []) ≡ now
last_more last now [] = refl
last_more last now (time ∷ times) = last_more time now times

pub stays_paced : StaysPaced
stays_paced run pace i set now h later = record {
  waits = paced_more run.start now run.moments h.waits (subst (λ p. may_publish p now ≡ true) h.last later);
  dropped = h.dropped;
  each = length-append run.moments (now ∷ []) ∙ (let n : length run.moments ≡ h.dropped + length i.sets = h.each in omega (arith, n));
  last = ap (λ n. Some n) (sym (last_more run.start now run.moments));
  start = h.start;
}

-- a serial that is counted from another one
again_at : (start before after : ℕ) → serial_at (serial_at start before) after ≡ serial_at start (before + after)
again_at start before after = omega arith

pub drops_paced : DropsPaced
drops_paced run pace i h = record {
  waits = h.waits;
  dropped = h.dropped + length i.sets;
  each = (let n : length run.moments ≡ h.dropped + length i.sets = h.each in omega (arith, n));
  last = h.last;
  start = ap (λ s. serial_at s (length i.sets)) h.start ∙ again_at (first_serial run.start) h.dropped (length i.sets);
}

pub drops_later : DropsLater
drops_later i m n less half =
    let steps = (length i.sets + n) - m in
    let whole : m + steps ≡ length i.sets + n = omega (arith, less) in
    let ahead = is_before_newer i.start m steps (omega (arith, less)) (omega (arith, half)) in
    let last : serial_at i.start (m + steps) ≡ serial_at (serial_at i.start (length i.sets)) n = ap (λ k. serial_at i.start k) whole ∙ sym (again_at i.start (length i.sets) n) in
    subst (λ b. is_before (serial_at i.start m) b ≡ true) last ahead

lt_from : (a b : ℕ) → nat_lt a b ≡ true → a < b
lt_from a b h = grind (arith, nat_tests)

-- No time is after the last one.
from_start : (last : ℕ) (times : List ℕ) → ArePaced (Some last) times → last ≤ last_of last times
from_start last [] paced = omega arith
from_start last (time ∷ times) paced = omega (arith, lt_from last time paced.0, from_start time times paced.1)

at_most_last : (last : ℕ) (times : List ℕ) → ArePaced (Some last) times → All (λ time. time ≤ last_of last times) times
at_most_last last [] paced k d lt = absurd (omega (arith, lt))
at_most_last last (time ∷ times) paced zero d lt = from_start time times paced.1
at_most_last last (time ∷ times) paced (suc k) d lt = at_most_last time times paced.1 k d (omega (arith, lt))

same_last : (a b : ℕ) → Some a ≡ Some b → a ≡ b
same_last a b e = cc

-- the serial of a version of an instance, counted from the first serial of its run
serial_of : (start dropped m first : ℕ) → first ≡ serial_at (first_serial start) dropped → serial_at first m ≡ serial_at (first_serial start) (dropped + m)
serial_of start dropped m first h = ap (λ s. serial_at s m) h ∙ again_at (first_serial start) dropped m

pub restarts_later : RestartsLater
restarts_later first second pace pace' i j h h' ended half m n lt lt' =
    let last = same_last pace (last_of first.start first.moments) h.last in
    let last' = same_last pace' (last_of second.start second.moments) h'.last in
    let ends : All (λ time. time ≤ second.start) first.moments = λ k d less. omega (arith, at_most_last first.start first.moments h.waits k d less, last, ended) in
    let within : All (λ time. time < first.start + 2 ^ 31) second.moments = λ k d less. omega (arith, at_most_last second.start second.moments h'.waits k d less, last', half) in
    let serials = serial_of first.start h.dropped m i.start h.start in
    let serials' = serial_of second.start h'.dropped n j.start h'.start in
    subst (λ s. is_before s (serial_at j.start n) ≡ true) (sym serials)
    (subst (λ s. is_before (serial_at (first_serial first.start) (h.dropped + m)) s ≡ true) (sym serials')
    (restart_at_once_is_later first second h.waits h'.waits ends within (h.dropped + m) (h'.dropped + n) (omega (arith, lt, h.each)) (omega (arith, lt', h'.each))))
