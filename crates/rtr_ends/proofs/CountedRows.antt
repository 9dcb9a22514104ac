-- What a device counts, worked out.
use Rattle.rtr_ends.proofs.Words.{arith, inl, refl, ℕ, ⊎_elim, ◌≤◌, HasFailed, Counted}

-- a device after this many calls and failures
abbrev counted : (calls failures : ℕ) → failures ≤ calls → Counted (Unit {0})
counted calls failures most = record { device = tt; calls = calls; failures = failures; at_most_calls = most }

-- That one call failed is seen: a call that did not fail is none, nor is a second failure.
one_failed : HasFailed (counted 3 1 (omega arith)) (counted 4 2 (omega arith))
one_failed = inl refl

none_failed : ¬ (HasFailed (counted 3 1 (omega arith)) (counted 4 1 (omega arith)))
none_failed h = ⊎_elim (λ e. omega (arith, e)) (λ spent. omega (arith, spent.0)) h

two_failed : ¬ (HasFailed (counted 3 1 (omega arith)) (counted 5 3 (omega arith)))
two_failed h = ⊎_elim (λ e. omega (arith, e)) (λ spent. omega (arith, spent.0)) h
