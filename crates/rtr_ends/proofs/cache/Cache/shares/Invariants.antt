use Rattle.rtr_ends.proofs.Words.{map, ◌≡◌, length, AllByRecursion}
use Rattle.rtr_ends.proofs.cache.Cache.shares.Given as goal

abbrev pub invariant-loop-number : goal.invariant-loop-number
invariant-loop-number g l = record {
  len : length l.shares.items ≡ l._number;
  sets : AllByRecursion (λ s. s ≡ l.set.value) (map (λ share. share.value) l.shares.items);
}
