-- A loop that reads elements up to an end.
use Rattle.std.proofs.Common.{◌≡◌, ℕ, zero, suc, ◌-◌, ◌<◌, ◌≤◌, Bool, true, false, List, [], ◌++◌, length, Option, Result, Ok, Err, refl, sym, ap, subst, ◌∙◌, arith, length-append}
use Rattle.der_lite.specs.Place.{Place, Fault}
use Rattle.der_lite.specs.Decoding.{Read}
use Rattle.signed_objects.specs.declared.form.Form.{Form}
use Rattle.signed_objects.specs.declared.fault.ObjectFault.{ObjectFault}
use Rattle.signed_objects.specs.declared.fault.ObjectFault.TheVariants.{At, Memory}
use Rattle.signed_objects.specs.Faults.{cms_fault_of}
use Rattle.signed_objects.specs.PartReading.{until, up_to}
use Rattle.signed_objects.specs.BerReading.{head_at, element_in, GivesOctets}
use Rattle.signed_objects.proofs.ExactBer.{exact_head, exact_in}

-- a head is no longer than what is here
pub head_shorter : (form : Form) (at : ℕ) (p : Place) (h : ℕ × Option ℕ) (q : Place) → head_at form at p ≡ Ok (h, q) → length q.rest ≤ length p.rest
head_shorter form at p h q e =
    let t = (exact_head form).takes at p h q e in
    omega (arith, ap (λ (l : List ℕ). length l) t.parts, length-append t.front q.rest)

-- behind an element less remains
pub element_shorter : (levels : ℕ) (form : Form) (p : Place) (v : List ℕ) (q : Place) → element_in levels form p ≡ Ok (v, q) → length q.rest < length p.rest
element_shorter levels form p v q e =
    let x = exact_in levels form in
    let t = x.takes p v q e in
    let b = x.begins v t.front t.spelled in
    omega (arith, ap (λ (l : List ℕ). length l) t.parts, length-append t.front q.rest, ap (λ (l : List ℕ). length l) b.2)

-- this was read of the elements before here, and the others are still read
pub record Going (is_end : List ℕ → Bool) (read : Read (List ℕ)) (start : Place) (out : List ℕ) (here : Place) : Type 0 where
  pub fuel : ℕ
  pub enough : length here.rest < fuel
  pub total : until fuel is_end read out here ≡ up_to is_end read start

pub going_begin : (is_end : List ℕ → Bool) (read : Read (List ℕ)) (start : Place) → Going is_end read start [] start
going_begin is_end read start = record { fuel = suc (length start.rest); enough = omega arith; total = refl }

step_on : (is_end : List ℕ → Bool) (read : Read (List ℕ)) (out : List ℕ) (fuel : ℕ) (p : Place) (v : List ℕ) (q : Place) → length p.rest < fuel → is_end p.rest ≡ false → read p ≡ Ok (v, q)
    → (k : ℕ) × (fuel ≡ suc k) × (until fuel is_end read out p ≡ until k is_end read (out ++ v) q)
step_on is_end read out zero p v q le more e = absurd (omega (arith, le))
step_on is_end read out (suc k) p v q le more e = (k, refl, rw (more, e) refl)

step_wrong : (is_end : List ℕ → Bool) (read : Read (List ℕ)) (out : List ℕ) (fuel : ℕ) (p : Place) (f : Fault) → length p.rest < fuel → is_end p.rest ≡ false → read p ≡ Err f → until fuel is_end read out p ≡ Err f
step_wrong is_end read out zero p f le more e = absurd (omega (arith, le))
step_wrong is_end read out (suc k) p f le more e = rw (more, e) refl

step_out : (is_end : List ℕ → Bool) (read : Read (List ℕ)) (out : List ℕ) (fuel : ℕ) (p : Place) → is_end p.rest ≡ true → until fuel is_end read out p ≡ Ok (out, p)
step_out is_end read out zero p e = refl
step_out is_end read out (suc k) p e = rw e refl

module _ (is_end : List ℕ → Bool) (read : Read (List ℕ)) (start : Place) (out : List ℕ) (here : Place) (g : Going is_end read start out here) where
  -- one element more
  pub going_on : (v : List ℕ) (next : Place) → is_end here.rest ≡ false → read here ≡ Ok (v, next) → length next.rest < length here.rest → Going is_end read start (out ++ v) next
  going_on v next more e less =
      let s = step_on is_end read out g.fuel here v next g.enough more e in
      record { fuel = s.0; enough = omega (arith, g.enough, less, s.1); total = sym s.2 ∙ g.total }

  -- a fault
  pub going_wrong : (f : Fault) → is_end here.rest ≡ false → read here ≡ Err f → up_to is_end read start ≡ Err f
  going_wrong f more e = sym g.total ∙ step_wrong is_end read out g.fuel here f g.enough more e

  -- the end
  pub going_out : is_end here.rest ≡ true → up_to is_end read start ≡ Ok (out, here)
  going_out e = sym g.total ∙ step_out is_end read out g.fuel here e

-- a fault of an element is that of all
pub members_wrong : {X Y : Type 0} (view : X → List ℕ) (other : Y → List ℕ) (is_end : List ℕ → Bool) (read : Read (List ℕ)) (start : Place) (out : List ℕ) (here q r : Place) (fault : ObjectFault) → Going is_end read start out here → is_end here.rest ≡ false → GivesOctets view (Err fault) q (read here) → GivesOctets other (Err fault) r (up_to is_end read start)
members_wrong view other is_end read start out here q r (At fault) g more e = going_wrong is_end read start out here g (cms_fault_of fault) more e
members_wrong view other is_end read start out here q r Memory g more e = tt

-- an element of one level or more
pub of_level : {X : Type 0} (view : X → List ℕ) (levels : ℕ) (form : Form) (p q : Place) (result : Result X ObjectFault) → 0 < levels → GivesOctets view result q (element_in (suc (levels - 1)) form p) → GivesOctets view result q (element_in levels form p)
of_level view levels form p q result some g =
    let deep : suc (levels - 1) ≡ levels = omega (arith, some) in
    subst (λ (k : ℕ). GivesOctets view result q (element_in k form p)) deep g
