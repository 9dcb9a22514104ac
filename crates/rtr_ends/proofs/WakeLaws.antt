-- When a router next has something to do.
use Rattle.rtr_ends.proofs.Words.{◌≡◌, ◌+◌, ◌-◌, ◌<◌, ◌≤◌, ◌^◌, ◌||◌, nat_lt, not, min, ℕ, Bool, true, false, [], ◌∷◌, length, Option, Some, None, if◌then◌else◌, refl, sym, ap, ◌∙◌, subst, arith, nat_tests}
use Rattle.std.proofs.Common.{◌↔◌, SomeIff}
use Rattle.rtr_ends.specs.LinkRules.{Router, ask}
use Rattle.rtr_ends.specs.Router.{Noted, and_then, asks_if, clocked, expired, ticks_at}
use Rattle.rtr_ends.specs.RouterLink.{is_due}
use Rattle.rtr_ends.specs.Seen.{ShowsRouter, seen_link, seen_versions}
use Rattle.rtr_ends.specs.Transcript.{At, is_over, later}
use Rattle.rtr_ends.specs.Wake.{IsQuietAt, WakesAt, is_reached}
use Rattle.rtr_ends.specs.declared.machine.Machine.{Machine}
use Rattle.rtr_ends.proofs.Effects.{by_clock}
use Rattle.rtr_ends.proofs.MachineCells.{seen_so, ticks}
use Rattle.rtr_ends.proofs.TableLaws.{false_true}

-- More than expire has passed exactly from the moment behind it on.
pub passes : (expire moment at now : ℕ) → at ≡ moment + expire + 1 → nat_lt expire (now - moment) ≡ not (nat_lt now at)
passes expire moment at now e = by_test (nat_lt expire (now - moment)) (nat_lt now at) refl refl
  where
    by_test : (s t : Bool) → nat_lt expire (now - moment) ≡ s → nat_lt now at ≡ t → s ≡ not t
    by_test true true x y =
        let over : expire < now - moment = grind (arith, nat_tests) in let ahead : now < at = grind (arith, nat_tests) in absurd (omega (arith, e, over, ahead))
    by_test true false x y = refl
    by_test false true x y = refl
    by_test false false x y =
        let within : now - moment ≤ expire = grind (arith, nat_tests) in let reached : at ≤ now = grind (arith, nat_tests) in absurd (omega (arith, e, within, reached))

-- It is at no moment if that is none.
pub never : (expire moment now : ℕ) → now < 2 ^ 64 → 2 ^ 64 ≤ moment + expire + 1 → nat_lt expire (now - moment) ≡ false
never expire moment now fits late = by_test (nat_lt expire (now - moment)) refl
  where
    by_test : (s : Bool) → nat_lt expire (now - moment) ≡ s → s ≡ false
    by_test true x = let over : expire < now - moment = grind (arith, nat_tests) in absurd (omega (arith, fits, late, over))
    by_test false x = refl

past : (n : ℕ) → ¬ (n < 2 ^ 64) → 2 ^ 64 ≤ n
past n h = by_test (nat_lt n (2 ^ 64)) refl
  where
    by_test : (b : Bool) → nat_lt n (2 ^ 64) ≡ b → 2 ^ 64 ≤ n
    by_test true x = let below : n < 2 ^ 64 = grind (arith, nat_tests) in absurd (h below)
    by_test false x = grind (arith, nat_tests)

pub over_last : (expire moment last : ℕ) (result : Option ℕ) → last ≡ moment + expire → SomeIff result (last + 1 < 2 ^ 64) (last + 1) → (now : ℕ) → now < 2 ^ 64 → nat_lt expire (now - moment) ≡ is_reached result now
over_last expire moment last (Some at) e h now fits = passes expire moment at now (h.1 ∙ ap (λ n. n + 1) e)
over_last expire moment last None e h now fits = never expire moment now fits (let late : 2 ^ 64 ≤ last + 1 = past (last + 1) h in omega (arith, e, late))

pub over_never : (expire moment : ℕ) → ¬ (moment + expire < 2 ^ 64) → (now : ℕ) → now < 2 ^ 64 → nat_lt expire (now - moment) ≡ false
over_never expire moment h now fits = never expire moment now fits (let late : 2 ^ 64 ≤ moment + expire = past (moment + expire) h in omega (arith, late))

-- The first of two is reached if either is.
pub first_reached : (one other least now : ℕ) → least ≡ min one other → not (nat_lt now least) ≡ (not (nat_lt now one) || not (nat_lt now other))
first_reached one other least now e = by_test (nat_lt now least) (nat_lt now one) (nat_lt now other) refl refl refl
  where
    by_test : (s t u : Bool) → nat_lt now least ≡ s → nat_lt now one ≡ t → nat_lt now other ≡ u → not s ≡ (not t || not u)
    by_test true true true x y z = refl
    by_test true true false x y z =
        let ahead : now < least = grind (arith, nat_tests) in let reached : other ≤ now = grind (arith, nat_tests) in absurd (omega (arith, e, ahead, reached))
    by_test true false u x y z =
        let ahead : now < least = grind (arith, nat_tests) in let reached : one ≤ now = grind (arith, nat_tests) in absurd (omega (arith, e, ahead, reached))
    by_test false false u x y z = refl
    by_test false true false x y z = refl
    by_test false true true x y z =
        let reached : least ≤ now = grind (arith, nat_tests) in let one_ahead : now < one = grind (arith, nat_tests) in let other_ahead : now < other = grind (arith, nat_tests)
        in absurd (omega (arith, e, reached, one_ahead, other_ahead))

abbrev advanced : ℕ → Router → Router
advanced now r = record r { now = later r.now now }

module _ (now : ℕ) (r : Router) where
  -- What has not expired stays.
  stays : is_over r.version (later r.now now) ≡ false → clocked now r ≡ advanced now r
  unfolding clocked
  stays h = ap (λ b. if b then expired r.link (advanced now r) else advanced now r) h

  ticked : (n : Router) → clocked now r ≡ n → ticks_at now r ≡ and_then (At now ∷ []) (asks_if (is_due n.link n.due n.now) n)
  unfolding ticks_at
  ticked n e = ap (λ (x : Router). and_then (At now ∷ []) (asks_if (is_due x.link x.due x.now) x)) e

  -- Nothing expires and nothing is due: only the clock changes.
  quiet : is_over r.version (later r.now now) ≡ false → is_due r.link r.due (later r.now now) ≡ false → IsQuietAt now r
  quiet over due = ticked (advanced now r) (stays over) ∙ ap (λ b. and_then (At now ∷ []) (asks_if b (advanced now r))) due

  -- A query is in the transcript.
  asks_not : is_over r.version (later r.now now) ≡ false → is_due r.link r.due (later r.now now) ≡ true → IsQuietAt now r → ⊥
  asks_not over due h =
      let two : 2 ≡ 1 = sym (ap (λ (n : Noted). length n.items) (ticked (advanced now r) (stays over) ∙ ap (λ b. and_then (At now ∷ []) (asks_if b (advanced now r))) due)) ∙ ap (λ (n : Noted). length n.items) h in
      omega (arith, two)

  -- What has expired is gone after a tick.
  gone : is_over r.version (later r.now now) ≡ true → (ticks_at now r).router.version ≡ None
  gone over =
      ap (λ (x : Router). x.version) (ticks now (is_due (clocked now r).link (clocked now r).due (clocked now r).now) r refl)
      ∙ asked (is_due (clocked now r).link (clocked now r).due (clocked now r).now)
      ∙ by_clock (λ x. x.version ≡ None) now r (λ holds. false_true (sym holds ∙ over)) (λ x goes_on. refl) (λ x reads opened. refl)
    where
      asked : (b : Bool) → (if b then ask (clocked now r) else clocked now r).version ≡ (clocked now r).version
      asked true = refl
      asked false = refl

  expires_not : is_over r.version (later r.now now) ≡ true → IsQuietAt now r → ⊥
  expires_not over h =
      let none : r.version ≡ None = sym (ap (λ (n : Noted). n.router.version) h) ∙ gone over in
      false_true (sym (ap (λ version. is_over version (later r.now now)) none) ∙ over)

  -- A tick is quiet if and only if nothing expires and nothing is due.
  pub quiet_exactly : IsQuietAt now r ↔ ((is_over r.version (later r.now now) || is_due r.link r.due (later r.now now)) ≡ false)
  quiet_exactly = by_tests (is_over r.version (later r.now now)) (is_due r.link r.due (later r.now now)) refl refl
    where
      by_tests : (s t : Bool) → is_over r.version (later r.now now) ≡ s → is_due r.link r.due (later r.now now) ≡ t → IsQuietAt now r ↔ ((s || t) ≡ false)
      by_tests true t over due = (λ h. absurd (expires_not over h), λ h. false_true (sym h))
      by_tests false true over due = (λ h. absurd (asks_not over due h), λ h. false_true (sym h))
      by_tests false false over due = (λ h. refl, λ h. quiet over due)

-- whether a router that is shown is due at a moment
due_at : (m : Machine) (r : Router) (now : ℕ) → ShowsRouter r m → is_due r.link r.due now ≡ is_due (seen_link m.state [] []) m.due now
due_at m r now s = ap (λ (x : Router). is_due x.link x.due now) s.is ∙ seen_so (λ l. is_due l m.due now) (λ a b. refl) m.state s.withdrawn s.announced

later_fits : (a b : ℕ) → a < 2 ^ 64 → b < 2 ^ 64 → later a b < 2 ^ 64
later_fits a b h k = by_test (nat_lt a b)
  where
    by_test : (t : Bool) → (if t then b else a) < 2 ^ 64
    by_test true = k
    by_test false = h

-- Of the two moments, the one of expiry and the one of a query, the first is that at which a router wakes.
pub wakes : (m : Machine) (expires asks wake : Option ℕ) → m.clock < 2 ^ 64 → ((now : ℕ) → now < 2 ^ 64 → is_over (seen_versions m.version) now ≡ is_reached expires now)
    → ((now : ℕ) → is_due (seen_link m.state [] []) m.due now ≡ is_reached asks now) → ((now : ℕ) → is_reached wake now ≡ (is_reached expires now || is_reached asks now))
    → (r : Router) → ShowsRouter r m → WakesAt wake r
wakes m expires asks wake clock over due first r s now fits =
    subst (λ b. IsQuietAt now r ↔ (b ≡ false)) same (quiet_exactly now r)
  where
    at_fits : later r.now now < 2 ^ 64
    at_fits = later_fits r.now now (subst (λ n. n < 2 ^ 64) (sym (ap (λ (x : Router). x.now) s.is)) clock) fits

    over_is : is_over r.version (later r.now now) ≡ is_reached expires (later r.now now)
    over_is = ap (λ (x : Router). is_over x.version (later r.now now)) s.is ∙ over (later r.now now) at_fits

    due_is : is_due r.link r.due (later r.now now) ≡ is_reached asks (later r.now now)
    due_is = due_at m r (later r.now now) s ∙ due (later r.now now)

    same : (is_over r.version (later r.now now) || is_due r.link r.due (later r.now now)) ≡ is_reached wake (later r.now now)
    same = ap (λ b. b || is_due r.link r.due (later r.now now)) over_is ∙ ap (λ b. is_reached expires (later r.now now) || b) due_is ∙ sym (first (later r.now now))
