-- What holds of each grammar that reading is exact for.
use Rattle.std.proofs.Common.{◌≡◌, ◌⊎◌, ℕ, List, ◌++◌, Result, Ok, Err, refl, sym, ap, ◌∙◌, inl, inr}
use Rattle.der_lite.specs.Place.{Place, Fault, place_of}
use Rattle.der_lite.specs.Grammar.{Element, Members, Stands}
use Rattle.der_lite.specs.Decoding.{Read, ReadAll}
use Rattle.der_lite.proofs.Rules.{ok, err, ok_is, err_is}
use Rattle.der_lite.specs.Der.{IsBytes}
use Rattle.der_lite.proofs.Elements.{behind}
use Rattle.der_lite.proofs.Exact.{ExactElement, ExactMembers, next_is}

module _ {V : Type 0} (m : Members V) (read : ReadAll V) (x : ExactMembers m read) where
  -- no bytes spell two values
  pub one_value : (p : Place) (v w : V) → m.Spells v p.rest → m.Spells w p.rest → v ≡ w
  one_value p v w s t = ok_is v w (sym (x.again p v s) ∙ x.again p w t)

  -- no bytes have two faults
  pub one_fault : (p : Place) (f g : Fault) → m.FaultAt p f → m.FaultAt p g → f ≡ g
  one_fault p f g s t = err_is {A = V} f g (sym (x.refuses p f s) ∙ x.refuses p g t)

  -- no bytes both spell a value and have a fault
  pub apart : (p : Place) (v : V) (f : Fault) → m.Spells v p.rest → m.FaultAt p f → ⊥
  apart p v f s t = let h : Ok v ≡ Err f = sym (x.again p v s) ∙ x.refuses p f t in absurd cc

  -- and they do one of the two
  pub either : (p : Place) → IsBytes p.rest → ((v : V) × m.Spells v p.rest) ⊎ ((f : Fault) × m.FaultAt p f)
  either p bytes = decided (read p) refl
    where
      decided : (r : Result V Fault) → read p ≡ r → ((v : V) × m.Spells v p.rest) ⊎ ((f : Fault) × m.FaultAt p f)
      decided (Ok v) e = inl (v, x.takes p v bytes e)
      decided (Err f) e = inr (f, x.faults p f bytes e)

module _ {V : Type 0} (e : Element V) (read : Read V) (x : ExactElement e read) where
  -- what is at a place is read
  pub stands_read : (p : Place) (v : V) (q : Place) → Stands e.Spells p v q → read p ≡ Ok (v, q)
  stands_read p v q h =
      ap (λ (l : List ℕ). read (place_of p.at l)) h.parts
      ∙ x.again p.at v h.front q.rest h.spelled
      ∙ ap (λ (r : Place). Ok (v, r)) (sym (next_is p q v h))

  -- what is read is there
  pub read_stands : (p : Place) (v : V) (q : Place) → IsBytes p.rest → read p ≡ Ok (v, q) → Stands e.Spells p v q
  read_stands p v q bytes h = x.takes p v q bytes h

  -- at most one fault is at a place
  pub element_fault : (p : Place) (f g : Fault) → e.FaultAt p f → e.FaultAt p g → f ≡ g
  element_fault p f g s t = err_is {A = V × Place} f g (sym (x.refuses p f s) ∙ x.refuses p g t)

  -- none if an element is there
  pub element_apart : (p : Place) (v : V) (q : Place) (f : Fault) → Stands e.Spells p v q → e.FaultAt p f → ⊥
  element_apart p v q f h d = let same : ok {A = V × Place} (v, q) ≡ err f = sym (stands_read p v q h) ∙ x.refuses p f d in absurd cc

  -- and one everywhere else
  pub element_either : (p : Place) → IsBytes p.rest → ((v : V) × (q : Place) × Stands e.Spells p v q) ⊎ ((f : Fault) × e.FaultAt p f)
  element_either p bytes = decided (read p) refl
    where
      decided : (r : Result (V × Place) Fault) → read p ≡ r → ((v : V) × (q : Place) × Stands e.Spells p v q) ⊎ ((f : Fault) × e.FaultAt p f)
      decided (Ok y) h = inl (y.0, y.1, read_stands p y.0 y.1 bytes h)
      decided (Err f) h = inr (f, x.faults p f bytes h)

  -- a spelling that begins with another is that one
  pub one_front : (v w : V) (a b more rest : List ℕ) → e.Spells v a → e.Spells w b → a ++ more ≡ b ++ rest → (v ≡ w) × (more ≡ rest)
  one_front v w a b more rest s t h =
      let same : (v, behind 0 a more) ≡ (w, behind 0 b rest) = ok_is (v, behind 0 a more) (w, behind 0 b rest) (sym (x.again 0 v a more s) ∙ ap (λ (l : List ℕ). read (place_of 0 l)) h ∙ x.again 0 w b rest t) in
      (ap (λ (y : V × Place). y.0) same, ap (λ (y : V × Place). y.1.rest) same)
