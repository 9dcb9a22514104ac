-- A loop that reads members to the end.
use Rattle.std.proofs.Common.{◌≡◌, ◌≢◌, ℕ, zero, suc, ◌≤◌, ◌<◌, List, [], ◌∷◌, ◌++◌, length, Ok, Err, refl, sym, ◌∙◌, arith}
use Rattle.std.proofs.lemmas.Bool.{ne_eqb}
use Rattle.std.proofs.lemmas.List.{nil_from_length}
use Rattle.der_lite.specs.Place.{Place, Fault}
use Rattle.der_lite.specs.Decoding.{Read, each_from, read_each}

-- these members were read before here, and the others are still read
pub record Goes {A : Type 0} (read : List A → Read A) (start : Place) (before : List A) (here : Place) : Type 0 where
  pub fuel : ℕ
  pub enough : length here.rest ≤ fuel
  pub total : each_from fuel read before here ≡ read_each read start

-- at first none was read
pub goes_begin : {A : Type 0} (read : List A → Read A) (start : Place) → Goes read start [] start
goes_begin read start = record { fuel = length start.rest; enough = omega arith; total = refl }

-- a member that is read is a step
step_ok : {A : Type 0} (read : List A → Read A) (before : List A) (fuel : ℕ) (p : Place) (v : A) (q : Place) → length p.rest ≤ fuel → p.rest ≢ [] → read before p ≡ Ok (v, q)
    → (k : ℕ) × (fuel ≡ suc k) × (each_from fuel read before p ≡ each_from k read (before ++ v ∷ []) q)
step_ok read before zero p v q le more e = absurd (more (nil_from_length p.rest (omega arith)))
step_ok read before (suc k) p v q le more e = (k, refl, rw (ne_eqb (length p.rest) 0 (λ n. more (nil_from_length p.rest n)), e) refl)

-- a member that faults is the fault of all
step_err : {A : Type 0} (read : List A → Read A) (before : List A) (fuel : ℕ) (p : Place) (f : Fault) → length p.rest ≤ fuel → p.rest ≢ [] → read before p ≡ Err f → each_from fuel read before p ≡ Err f
step_err read before zero p f le more e = absurd (more (nil_from_length p.rest (omega arith)))
step_err read before (suc k) p f le more e = rw (ne_eqb (length p.rest) 0 (λ n. more (nil_from_length p.rest n)), e) refl

-- at the end the members are those that were read
step_end : {A : Type 0} (read : List A → Read A) (before : List A) (fuel : ℕ) (p : Place) → p.rest ≡ [] → each_from fuel read before p ≡ Ok before
step_end read before zero p e = refl
step_end read before (suc k) p e = rw e refl

module _ {A : Type 0} (read : List A → Read A) (start : Place) (before : List A) (here : Place) (g : Goes read start before here) where
  -- one member more
  pub goes_on : (v : A) (next : Place) → here.rest ≢ [] → read before here ≡ Ok (v, next) → length next.rest < length here.rest → Goes read start (before ++ v ∷ []) next
  goes_on v next more e less =
      let s = step_ok read before g.fuel here v next g.enough more e in
      record { fuel = s.0; enough = omega (arith, g.enough, less, s.1); total = sym s.2 ∙ g.total }

  -- a fault
  pub goes_wrong : (f : Fault) → here.rest ≢ [] → read before here ≡ Err f → read_each read start ≡ Err f
  goes_wrong f more e = sym g.total ∙ step_err read before g.fuel here f g.enough more e

  -- the end
  pub goes_out : here.rest ≡ [] → read_each read start ≡ Ok before
  goes_out e = sym g.total ∙ step_end read before g.fuel here e
