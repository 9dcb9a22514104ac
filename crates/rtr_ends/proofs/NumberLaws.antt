-- The free numbers after one is allocated or freed.
use Rattle.rtr_ends.proofs.Words.{◌≡◌, ℕ, ◌+◌, ◌<◌, ◌≤◌, ◌==◌, Bool, true, false, List, [], ◌∷◌, ◌++◌, length, Option, None, Some, slice_get, slice_set, get_or, unwrap_or, refl, Result, Ok, Err, IsOk, OnOk, sym, ap, ◌∙◌, subst, arith, inl, inr, zero, suc, cond, cases_Bool, nat_tests, nil_from_length, All-head, le_from_greatest, sum_by_popped, sum_by_pushed, count_by-le-length, get_or-le-sum_by, sum_by-cons, sum_by-set, sum_by_push, get_or_from_slice_get, slice_get-get_or, slice_get_within, IsHeap, IsUpperBound, heap_capacity, heap_items, heap_len, IsPermutation, nat_cmp, Reverse, eq_of, eq_self, not_eq_of, set_other, set_same}
use Rattle.rtr_ends.specs.Numbers.{AreFree, TakesNumber, taken_count, times, times_free}
use Rattle.rtr_ends.specs.declared.numbers.FreeNumbers.{FreeNumbers}

-- what a success gives, if there is one
pub when_ok : {T E : Type 0} (r : Result T E) (P : Type 0) → IsOk r → OnOk r P → P
when_ok (Ok x) P is p = p
when_ok (Err e) P is p = absurd (let k : false ≡ true = is in cc)

-- what follows from it
pub on_ok : {T E P Q : Type 0} (r : Result T E) → OnOk r P → (P → Q) → OnOk r Q
on_ok (Ok x) p f = f p
on_ok (Err e) p f = tt

-- one for what passes
abbrev one : Bool → ℕ
one b = cond b 1 0

-- which numbers are in the heap
is_taken : (o : Option Bool) (b : Bool) → o ≡ Some b → times_free o ≡ 0 → o ≡ Some true
is_taken o true is count = is
is_taken o false is count = absurd (let k : 1 ≡ 0 = sym (ap times_free is) ∙ count in omega (arith, k))

is_free : (o : Option Bool) → 0 < times_free o → o ≡ Some false
is_free None h = absurd (omega (arith, h))
is_free (Some true) h = absurd (omega (arith, h))
is_free (Some false) h = refl

-- a number below the least of a heap is not in it
none_below : (x n : ℕ) (ys : List (Reverse ℕ)) → n < x → IsUpperBound (λ (a b : Reverse ℕ). nat_cmp b.0 a.0) (record { 0 = x }) ys → times n ys ≡ 0
none_below x n [] low h = refl
none_below x n (y ∷ ys) low h =
    let high : x ≤ y.0 = All-head (λ z. z ≤ y.0) x [] (le_from_greatest y.0 (x ∷ []) (h.0, tt)) in
    let other : (y.0 == n) ≡ false = grind (arith, nat_tests) in
    omega (arith, sum_by-cons (λ (r : Reverse ℕ). cond (r.0 == n) 1 0) y ys, ap one other, none_below x n ys low h.1)

-- There is room to free a number in use.
pub room_for_one : (taken : List Bool) (free : FreeNumbers) → AreFree taken free → (n : ℕ) → slice_get taken n ≡ Some true → heap_len free.numbers < heap_capacity free.numbers
room_for_one taken free is n at =
    omega (arith, is.room, get_or-le-sum_by one taken n true (slice_get_within taken n true at), ap one (get_or_from_slice_get taken n true true at))

module _ (taken : List Bool) (old new : FreeNumbers) (was : AreFree taken old) where
  -- A number in use is freed.
  pub frees : (n : ℕ) → slice_get taken n ≡ Some true → heap_len new.numbers ≡ heap_len old.numbers + 1 → heap_capacity old.numbers ≤ heap_capacity new.numbers → IsHeap (λ (a b : Reverse ℕ). nat_cmp b.0 a.0) (heap_items new.numbers)
      → IsPermutation (record { 0 = n } ∷ heap_items old.numbers) (heap_items new.numbers) → AreFree (slice_set taken n false) new
  frees n at len capacity order same = record { order = order; each = each; room = omega (arith, was.room, len, capacity, counts, ap one read) }
    where
      low : n < length taken
      low = slice_get_within taken n true at

      read : get_or taken n true ≡ true
      read = get_or_from_slice_get taken n true true at

      counts : taken_count (slice_set taken n false) + one (get_or taken n true) ≡ taken_count taken + 0
      counts = sum_by-set one taken n false true low

      each : (k : ℕ) → times k (heap_items new.numbers) ≡ times_free (slice_get (slice_set taken n false) k)
      each k =
          let more = sum_by_pushed (λ (r : Reverse ℕ). cond (r.0 == k) 1 0) (record { 0 = n }) (heap_items old.numbers) (heap_items new.numbers) same in
          elim (cases_Bool (n == k)) [
            | inl is ↦ (let k_is : k ≡ n = sym (eq_of n k is) in
                omega (arith, more, ap one is, was.each k, ap times_free (ap (slice_get taken) k_is ∙ at), ap times_free (ap (slice_get (slice_set taken n false)) k_is ∙ set_same taken n false low)))
            | inr other ↦ omega (arith, more, ap one other, was.each k, ap times_free (set_other taken n k false (λ e. not_eq_of n k other (sym e))))
          ]

  -- None is free: all are in use.
  pub takes_none : heap_len old.numbers ≡ 0 → length (heap_items old.numbers) ≡ heap_len old.numbers → heap_items new.numbers ≡ heap_items old.numbers → heap_len new.numbers ≡ heap_len old.numbers → heap_capacity new.numbers ≡ heap_capacity old.numbers
      → TakesNumber taken None new
  takes_none none long items len capacity = (
    λ n low. is_taken (slice_get taken n) (get_or taken n true) (slice_get-get_or taken n true low) (sym (was.each n) ∙ ap (times n) (nil_from_length (heap_items old.numbers) (long ∙ none))),
    record {
      order = subst (λ xs. IsHeap (λ (a b : Reverse ℕ). nat_cmp b.0 a.0) xs) (sym items) was.order;
      each = λ n. ap (times n) items ∙ was.each n;
      room = omega (arith, was.room, len, capacity);
    },
  )

  -- The least is allocated.
  pub takes_least : (n : ℕ) → heap_len new.numbers + 1 ≡ heap_len old.numbers → heap_capacity new.numbers ≡ heap_capacity old.numbers → IsHeap (λ (a b : Reverse ℕ). nat_cmp b.0 a.0) (heap_items new.numbers)
      → IsUpperBound (λ (a b : Reverse ℕ). nat_cmp b.0 a.0) (record { 0 = n }) (heap_items old.numbers) → IsPermutation (heap_items old.numbers) (record { 0 = n } ∷ heap_items new.numbers) → TakesNumber taken (Some n) new
  takes_least n len capacity order least same = (at, below, record { order = order; each = each; room = omega (arith, was.room, len, capacity, counts, ap one read) })
    where
      less : (k : ℕ) → times k (heap_items new.numbers) + one (n == k) ≡ times k (heap_items old.numbers)
      less k = sum_by_popped (λ (r : Reverse ℕ). cond (r.0 == k) 1 0) (record { 0 = n }) (heap_items old.numbers) (heap_items new.numbers) same

      at : slice_get taken n ≡ Some false
      at = is_free (slice_get taken n) (omega (arith, was.each n, less n, ap one (eq_self n)))

      low : n < length taken
      low = slice_get_within taken n false at

      below : (k : ℕ) → k < n → slice_get taken k ≡ Some true
      below k under = is_taken (slice_get taken k) (get_or taken k true) (slice_get-get_or taken k true (omega (arith, under, low))) (sym (was.each k) ∙ none_below n k (heap_items old.numbers) under least)

      read : get_or taken n false ≡ false
      read = get_or_from_slice_get taken n false false at

      counts : taken_count (slice_set taken n true) + one (get_or taken n false) ≡ taken_count taken + 1
      counts = sum_by-set one taken n true false low

      each : (k : ℕ) → times k (heap_items new.numbers) ≡ times_free (slice_get (slice_set taken n true) k)
      each k = elim (cases_Bool (n == k)) [
        | inl is ↦ (let k_is : k ≡ n = sym (eq_of n k is) in
            omega (arith, less k, ap one is, was.each k, ap times_free (ap (slice_get taken) k_is ∙ at), ap times_free (ap (slice_get (slice_set taken n true)) k_is ∙ set_same taken n true low)))
        | inr other ↦ omega (arith, less k, ap one other, was.each k, ap times_free (set_other taken n k true (λ e. not_eq_of n k other (sym e))))
      ]

  -- Room is made for one more in use.
  pub adds_taken : (count : ℕ) → heap_items new.numbers ≡ heap_items old.numbers → heap_len new.numbers + count ≤ heap_capacity new.numbers → length taken < count → AreFree (taken ++ true ∷ []) new
  adds_taken count items room low = record {
    order = subst (λ xs. IsHeap (λ (a b : Reverse ℕ). nat_cmp b.0 a.0) xs) (sym items) was.order;
    each = λ n. ap (times n) items ∙ was.each n ∙ sym (past taken n);
    room = omega (arith, room, low, sum_by_push one taken true, count_by-le-length (λ b. b) taken);
  }
    where
      past : (xs : List Bool) (n : ℕ) → times_free (slice_get (xs ++ true ∷ []) n) ≡ times_free (slice_get xs n)
      past [] zero = refl
      past [] (suc n) = refl
      past (x ∷ xs) zero = refl
      past (x ∷ xs) (suc n) = past xs n

-- A number that is allocated, or the next one after them: if it is below the end it was the least free one; otherwise all are in use.
pub takes_below : (taken : List Bool) (new : FreeNumbers) (r : Option ℕ) (n : ℕ) → n ≡ unwrap_or r (length taken) → n < length taken → TakesNumber taken r new → TakesNumber taken (Some n) new
takes_below taken new None n is low t = absurd (omega (arith, is, low))
takes_below taken new (Some x) n is low t = subst (λ k. TakesNumber taken (Some k) new) (sym is) t

pub takes_next : (taken : List Bool) (new : FreeNumbers) (r : Option ℕ) (n : ℕ) → n ≡ unwrap_or r (length taken) → length taken ≤ n → TakesNumber taken r new → (n ≡ length taken) × TakesNumber taken None new
takes_next taken new None n is high t = (is, t)
takes_next taken new (Some x) n is high t = absurd (omega (arith, is, high, slice_get_within taken x false t.0))
