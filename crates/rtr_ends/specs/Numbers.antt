-- The numbers of a cache's connections: which are in use, and the free ones.
use Rattle.std.specs.Prelude.{◌≡◌, ℕ, ◌+◌, ◌<◌, ◌≤◌, ◌==◌, Bool, true, false, List, length, Option, None, Some, slice_get, slice_set}
use Rattle.std.specs.List.{count_by}
use Rattle.std.specs.Ordering.{nat_cmp}
use Rattle.std.specs.BinaryHeap.{IsHeap, heap_capacity, heap_items, heap_len}
use Rattle.std.specs.declared.cmp.Reverse.{Reverse}
use Rattle.rtr_ends.specs.declared.numbers.FreeNumbers.{FreeNumbers}

-- how often a number is in a heap
abbrev pub times : ℕ → List (Reverse ℕ) → ℕ
times n numbers = count_by (λ r. r.0 == n) numbers

-- once if it is not in use, and not at all if it is, or is past the end
abbrev pub times_free : Option Bool → ℕ
times_free None = 0
times_free (Some true) = 0
times_free (Some false) = 1

-- how many are in use
abbrev pub taken_count : List Bool → ℕ
taken_count taken = count_by (λ t. t) taken

-- The free numbers are those that are not in use, each once, the least on top; there is room for those in use too.
pub record AreFree (taken : List Bool) (free : FreeNumbers) : Type 0 where
  pub order : IsHeap (λ x y. nat_cmp y.0 x.0) (heap_items free.numbers)
  pub each : (n : ℕ) → times n (heap_items free.numbers) ≡ times_free (slice_get taken n)
  pub room : heap_len free.numbers + taken_count taken ≤ heap_capacity free.numbers

-- The least number that is not in use is allocated; or all are in use, and that stays so.
abbrev pub TakesNumber : List Bool → Option ℕ → FreeNumbers → Type 0
TakesNumber taken None new = ((n : ℕ) → n < length taken → slice_get taken n ≡ Some true) × AreFree taken new
TakesNumber taken (Some least) new =
    (slice_get taken least ≡ Some false) × ((n : ℕ) → n < least → slice_get taken n ≡ Some true) × AreFree (slice_set taken least true) new
