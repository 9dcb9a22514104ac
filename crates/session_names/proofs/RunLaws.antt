-- Serials are not ahead of the clock, so those of a later run are later.
use Rattle.std.proofs.Common.{◌≡◌, ℕ, zero, suc, ◌+◌, ◌-◌, ◌^◌, ◌<◌, ◌≤◌, true, nat_lt, List, [], ◌∷◌, length, All, None, Some, arith, subst, sym}
use Rattle.std.proofs.lemmas.Bool.Decides.{nat_tests}
use Rattle.vrps.specs.Serial.{serial_at, is_before}
use Rattle.vrps.proofs.SetVersions.{is_before_newer}
use Rattle.session_names.specs.Names.{first_serial}
use Rattle.session_names.specs.Runs.{ArePaced, RestartIsLater, RestartAtOnceIsLater}

-- ---- moments of a list

first_of : (P : ℕ → Type 0) (now : ℕ) (later : List ℕ) → All P (now ∷ later) → P now
first_of P now later h = h 0 now (omega arith)

rest_of : (P : ℕ → Type 0) (now : ℕ) (later : List ℕ) → All P (now ∷ later) → All P later
rest_of P now later h = λ k d lt. h (suc k) d (omega (arith, lt))

at_most : (end : ℕ) (moments : List ℕ) → All (λ now. now ≤ end) moments → All (λ now. now < suc end) moments
at_most end moments h = λ k d lt. omega (arith, h k d lt)

-- ---- serials and moments

lt_from : (a b : ℕ) → nat_lt a b ≡ true → a < b
lt_from a b h = grind (arith, nat_tests)

-- The versions after one that was published: the last time is at least as many seconds later as there are versions.
behind : (last end : ℕ) (moments : List ℕ) → ArePaced (Some last) moments → All (λ now. now < end) moments → (i : ℕ) → i < length moments → suc (last + i) < end
behind last end [] paced ends i h = absurd (omega (arith, h))
behind last end (now ∷ later) paced ends zero h = omega (arith, lt_from last now paced.0, first_of (λ n. n < end) now later ends)
behind last end (now ∷ later) paced ends (suc i) h =
    omega (arith, lt_from last now paced.0, behind now end later paced.1 (rest_of (λ n. n < end) now later ends) i (omega (arith, h)))

-- The same from the start of a run, whose first version may be published in that second
behind_start : (start end : ℕ) (moments : List ℕ) → ArePaced None moments → All (λ now. start ≤ now) moments → All (λ now. now < end) moments → (i : ℕ) → i < length moments → start + i < end
behind_start start end [] paced begun ends i h = absurd (omega (arith, h))
behind_start start end (now ∷ later) paced begun ends zero h = omega (arith, first_of (λ n. start ≤ n) now later begun, first_of (λ n. n < end) now later ends)
behind_start start end (now ∷ later) paced begun ends (suc i) h =
    omega (arith, first_of (λ n. start ≤ n) now later begun, behind now end later paced.1 (rest_of (λ n. n < end) now later ends) i (omega (arith, h)))

-- the serial of a version, counted from nothing
from_nothing : (start i : ℕ) → serial_at (first_serial start) i ≡ serial_at 0 (start + i)
from_nothing start i = omega arith

-- two numbers less than 2^31 apart
is_later : (start i start' j : ℕ) → start + i < start' + j → start' + j < start + i + 2 ^ 31 → is_before (serial_at (first_serial start) i) (serial_at (first_serial start') j) ≡ true
is_later start i start' j some few =
    let steps = (start' + j) - (start + i) in
    let whole : start + i + steps ≡ start' + j = omega (arith, some) in
    let ahead = is_before_newer 0 (start + i) steps (omega (arith, some)) (omega (arith, few)) in
    let second : serial_at 0 (start + i + steps) ≡ serial_at (first_serial start') j = omega (arith, whole) in
    subst (λ a. is_before a (serial_at (first_serial start') j) ≡ true) (sym (from_nothing start i))
    (subst (λ b. is_before (serial_at 0 (start + i)) b ≡ true) second ahead)

pub restart_is_later : RestartIsLater
restart_is_later first second run run' ended half i j h h' =
    let before = behind_start first.start second.start first.moments run.paced run.begun ended i h in
    let within = behind_start second.start (first.start + 2 ^ 31) second.moments run'.paced run'.begun half j h' in
    is_later first.start i second.start j (omega (arith, before)) (omega (arith, within))

pub restart_at_once_is_later : RestartAtOnceIsLater
restart_at_once_is_later first second run run' ended half i j h h' =
    let before = behind first.start (suc second.start) first.moments run (at_most second.start first.moments ended) i h in
    let within = behind second.start (first.start + 2 ^ 31) second.moments run' half j h' in
    is_later first.start i second.start j (omega (arith, before)) (omega (arith, within))
