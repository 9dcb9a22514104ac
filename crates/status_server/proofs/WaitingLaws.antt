-- The connection that has waited longest for its request.
use Rattle.std.proofs.Common.{◌≡◌, ◌⊎◌, ℕ, ◌+◌, ◌<◌, ◌≤◌, true, false, List, ◌++◌, length, get_or, take, drop, Option, Some, None, IfSome, inl, inr, arith, refl, sym, ap, subst, ◌∙◌}
use Rattle.std.specs.List.{slice_get}
use Rattle.std.proofs.lemmas.Bool.{cases_eq}
use Rattle.std.proofs.lemmas.Option.{get_or_from_slice_get, slice_get_read, slice_get_within}
use Rattle.status_server.specs.Connections.{HasWaitedLongest, MakesRoom, is_waiting}
use Rattle.status_server.specs.declared.http_connections.Entry.{Entry}

some_is : {A : Type 0} (a b : A) → Some a ≡ Some b → a ≡ b
some_is a b e = cc

-- One place more: it is one of the places before, or the one of this entry.
module _ {T : Type 0} (vs : List (Entry T)) (n : ℕ) (e : Entry T) (at : slice_get vs n ≡ Some e) where
  -- what holds of all before and of the entry holds of one more
  one_more : (P : Entry T → Type 0) → ((k : ℕ) (w : Entry T) → k < n → slice_get vs k ≡ Some w → P w) → P e → (k : ℕ) (w : Entry T) → k < n + 1 → slice_get vs k ≡ Some w → P w
  one_more P before here k w less got = by_place (cases_eq k n)
    where
      by_place : (k ≡ n) ⊎ (¬ (k ≡ n)) → P w
      by_place (inl same) = subst P (sym (some_is w e (sym got ∙ ap (λ i. slice_get vs i) same ∙ at))) here
      by_place (inr other) = before k w (omega (arith, less, other)) got

  -- An entry that is answered changes nothing.
  pub stays_longest : (found : Option ℕ) → HasWaitedLongest n vs found → is_waiting e ≡ false → HasWaitedLongest (n + 1) vs found
  stays_longest None h answered = one_more (λ w. is_waiting w ≡ false) h answered
  stays_longest (Some i) (v, is, waits, least) answered = (v, is, waits, λ k w less got. one_more (λ w. is_waiting w ≡ true → v.last_sent ≤ w.last_sent) least (λ waiting. absurd (cc (waiting, answered))) k w less got)

  -- nor one that has waited no longer
  pub still_longest : (i : ℕ) (p q : Entry T) → HasWaitedLongest n vs (Some i) → (get_or vs i p).last_sent ≤ (get_or vs n q).last_sent → HasWaitedLongest (n + 1) vs (Some i)
  still_longest i p q (v, is, waits, least) no_longer =
      let this : (get_or vs i p).last_sent ≡ v.last_sent = ap (λ x. x.last_sent) (get_or_from_slice_get vs i v p is) in
      let that : (get_or vs n q).last_sent ≡ e.last_sent = ap (λ x. x.last_sent) (get_or_from_slice_get vs n e q at) in
      let last : v.last_sent ≤ e.last_sent = omega (arith, this, that, no_longer) in
      (v, is, waits, λ k w less got. one_more (λ w. is_waiting w ≡ true → v.last_sent ≤ w.last_sent) least (λ waiting. last) k w less got)

  -- The first that waits has waited longest ..
  pub first_longest : HasWaitedLongest n vs None → is_waiting e ≡ true → HasWaitedLongest (n + 1) vs (Some n)
  first_longest none waits = (e, at, waits, λ k w less got. one_more (λ w. is_waiting w ≡ true → e.last_sent ≤ w.last_sent) (λ j u before there waiting. absurd (cc (waiting, none j u before there))) (λ waiting. omega arith) k w less got)

  -- .. and so has one that has waited longer than the one before.
  pub now_longest : (i : ℕ) (p q : Entry T) → HasWaitedLongest n vs (Some i) → is_waiting e ≡ true → (get_or vs n q).last_sent < (get_or vs i p).last_sent → HasWaitedLongest (n + 1) vs (Some n)
  now_longest i p q (v, is, before_waits, least) waits longer =
      let this : (get_or vs i p).last_sent ≡ v.last_sent = ap (λ x. x.last_sent) (get_or_from_slice_get vs i v p is) in
      let that : (get_or vs n q).last_sent ≡ e.last_sent = ap (λ x. x.last_sent) (get_or_from_slice_get vs n e q at) in
      let last : e.last_sent < v.last_sent = omega (arith, this, that, longer) in (
        e,
        at,
        waits,
        λ k w less got. one_more (λ w. is_waiting w ≡ true → e.last_sent ≤ w.last_sent)
            (λ j u before there waiting. let first = least j u before there waiting in omega (arith, first, last)) (λ waiting. omega arith) k w less got,
      )

-- The one that was found is there.
pub is_inside : {T : Type 0} (vs : List (Entry T)) (n i : ℕ) → HasWaitedLongest n vs (Some i) → i < length vs
is_inside vs n i (v, is, waits, least) = slice_get_within vs i v is

pub found_inside : {T : Type 0} (vs : List (Entry T)) (n : ℕ) (found : Option ℕ) → HasWaitedLongest n vs found → IfSome found (λ i. i < length vs)
found_inside vs n None h = tt
found_inside vs n (Some i) h = is_inside vs n i h

-- Of none, none waits.
pub none_before : {T : Type 0} (vs : List (Entry T)) → HasWaitedLongest 0 vs None
none_before vs k w less got = absurd (omega (arith, less))

-- It goes, and the others stay.
pub one_goes : {T : Type 0} (vs ws : List (Entry T)) (i : ℕ) (v : Entry T) (stream : T) → 64 ≤ length vs → HasWaitedLongest (length vs) vs (Some i) → i < length vs → v ≡ get_or vs i v → stream ≡ v.connection.stream
    → ws ≡ take i vs ++ drop (i + 1) vs → MakesRoom (Some stream) vs ws
one_goes vs ws i v stream full longest less at of list = (full, (i, v, longest, slice_get_read vs (length vs) i v refl less at, of, list))
