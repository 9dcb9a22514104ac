-- Reading parts of elements in BER is exact.
use Rattle.std.proofs.Common.{◌≡◌, ◌⊎◌, ℕ, zero, suc, ◌+◌, ◌-◌, ◌<◌, ◌≤◌, Bool, true, false, ltb, cond, List, [], ◌∷◌, ◌++◌, length, take, drop, Result, Ok, Err, refl, sym, ap, subst, ◌∙◌, arith, inl, inr, append_assoc, length-append}
use Rattle.std.proofs.lemmas.Bool.{ltb-true, ltb-false, lt-ltb, le-ltb}
use Rattle.std.proofs.lemmas.List.{append-nil, take-append-drop, length-take-le}
use Rattle.std.proofs.Math.Seq.{take-append_seam, drop-append_seam}
use Rattle.der_lite.specs.Place.{Place, Fault, place_of}
use Rattle.der_lite.specs.Grammar.{Element, Stands}
use Rattle.der_lite.specs.DerReading.{◌>>=◌}
use Rattle.der_lite.specs.Decoding.{Read}
use Rattle.der_lite.proofs.Rules.{judged-kept, judged_ok, judged_err, judged_breaks, bind_ok, bind_err, ok, ok_is, err_is}
use Rattle.der_lite.proofs.Elements.{behind}
use Rattle.der_lite.proofs.Exact.{next_is, mapped_err}
use Rattle.der_forms.specs.Combinators.{fault_at}
use Rattle.signed_objects.specs.Parts.{Part, octet, octets, gives, ruled, followed, with_own, InTurn, joined, FaultAmong, is_empty, is_closed, filling, closed}
use Rattle.signed_objects.specs.PartReading.{ReadPart, after, octet_here, octet_at, octets_at, gives_at, ruled_at, followed_at, with_own_at, until, up_to, filling_at, closed_at}

-- what is read is spelled, what is spelled is read, and so with faults
pub record ExactPart {V : Type 0} (e : Part V) (read : ReadPart V) : Type 0 where
  pub takes : (at : ℕ) (p : Place) (v : V) (q : Place) → read at p ≡ Ok (v, q) → Stands e.Spells p v q
  pub again : (at here : ℕ) (v : V) (front rest : List ℕ) → e.Spells v front → read at (place_of here (front ++ rest)) ≡ Ok (v, behind here front rest)
  pub faults : (at : ℕ) (p : Place) (f : Fault) → read at p ≡ Err f → e.FaultAt at p f
  pub refuses : (at : ℕ) (p : Place) (f : Fault) → e.FaultAt at p f → read at p ≡ Err f

-- ---- octets

octet_takes : (at here : ℕ) (rest : List ℕ) (v : ℕ) (q : Place) → octet_here at here rest ≡ Ok (v, q) → (rest ≡ v ∷ q.rest) × (q.at ≡ here + 1)
octet_takes at here [] v q e = absurd cc
octet_takes at here (first ∷ more) v q e =
    let same : (first, place_of (here + 1) more) ≡ (v, q) = ok_is (first, place_of (here + 1) more) (v, q) e in
    (ap (λ (y : ℕ × Place). y.0 ∷ y.1.rest) same, sym (ap (λ (y : ℕ × Place). y.1.at) same))

octet_faults : (at here : ℕ) (rest : List ℕ) (f : Fault) → octet_here at here rest ≡ Err f → (rest ≡ []) × (f ≡ fault_at 1 at)
octet_faults at here [] f e = (refl, sym (err_is {A = ℕ × Place} (fault_at 1 at) f e))
octet_faults at here (first ∷ more) f e = absurd cc

pub exact_octet : ExactPart octet octet_at
exact_octet = record {
  takes = λ at p v q e.
      let t = octet_takes at p.at p.rest v q e in
      record { front = v ∷ []; parts = t.0; spelled = refl; behind = t.1 };
  again = λ at here v front rest s. rw s refl;
  faults = λ at p f e. octet_faults at p.at p.rest f e;
  refuses = λ at p f h. rw (h.0, h.1) refl;
}

-- one of two was chosen
choice : {X : Type 0} (b : Bool) (x y z : X) → cond b x y ≡ z → ((b ≡ true) × (x ≡ z)) ⊎ ((b ≡ false) × (y ≡ z))
choice true x y z e = inl (refl, e)
choice false x y z e = inr (refl, e)

-- octets that were taken
octets_stand : (count : ℕ) (p : Place) → count ≤ length p.rest → Stands (octets count).Spells p (take count p.rest) (after count p)
octets_stand count p enough = record {
  front = take count p.rest;
  parts = sym (take-append-drop count p.rest);
  spelled = (refl, length-take-le count p.rest enough);
  behind = ap (λ (k : ℕ). p.at + k) (sym (length-take-le count p.rest enough));
}

pub exact_octets : (count : ℕ) → ExactPart (octets count) (octets_at count)
exact_octets count = record {
  takes = λ at p v q e.
      elim (choice (ltb (length p.rest) count) (Err (fault_at 1 at)) (Ok (take count p.rest, after count p)) (Ok (v, q)) e) [
        | inl k ↦ absurd (let h = k.1 in cc)
        | inr k ↦ subst (λ (y : List ℕ × Place). Stands (octets count).Spells p y.0 y.1) (ok_is (take count p.rest, after count p) (v, q) k.1) (octets_stand count p (ltb-false (length p.rest) count k.0))
      ];
  again = λ at here v front rest s.
      let size : length front ≡ count = ap (λ (l : List ℕ). length l) s.0 ∙ s.1 in
      let enough : ltb (length (front ++ rest)) count ≡ false = le-ltb (length (front ++ rest)) count (omega (arith, size, length-append front rest)) in
      let taken : take count (front ++ rest) ≡ v = ap (λ (k : ℕ). take k (front ++ rest)) (sym size) ∙ take-append_seam front rest ∙ s.0 in
      let left : drop count (front ++ rest) ≡ rest = ap (λ (k : ℕ). drop k (front ++ rest)) (sym size) ∙ drop-append_seam front rest in
      rw (enough, taken, left, size) refl;
  faults = λ at p f e.
      elim (choice (ltb (length p.rest) count) (Err (fault_at 1 at)) (Ok (take count p.rest, after count p)) (Err f) e) [
        | inl k ↦ (ltb-true (length p.rest) count k.0, sym (err_is {A = List ℕ × Place} (fault_at 1 at) f k.1))
        | inr k ↦ absurd (let h = k.1 in cc)
      ];
  refuses = λ at p f h. rw (lt-ltb (length p.rest) count h.0, h.1) refl;
}

-- ---- values, rules

pub exact_gives : {V : Type 0} (v : V) → ExactPart (gives v) (gives_at v)
exact_gives {V} v = record {
  takes = λ at p w q e.
      let same = ok_is (v, p) (w, q) e in
      record { front = []; parts = ap (λ (y : V × Place). y.1.rest) same; spelled = (refl, ap (λ (y : V × Place). y.0) same); behind = omega (arith, ap (λ (y : V × Place). y.1.at) same) };
  again = λ at here w front rest s.
      let same : here ≡ here + length {A = ℕ} [] = omega arith in
      rw (s.0, s.1) (ap (λ (k : ℕ). ok {A = V × Place} (w, place_of k rest)) same);
  faults = λ at p f e. absurd cc;
  refuses = λ at p f h. absurd h;
}

module _ {V : Type 0} (rules : List (ℕ × Bool)) (e : Part V) (read : ReadPart V) (x : ExactPart e read) where
  pub exact_ruled : ExactPart (ruled rules e) (ruled_at rules read)
  exact_ruled = record {
    takes = λ at p v q d.
        let j = judged_ok rules at (read at p) (v, q) d in
        let t = x.takes at p v q j.1 in
        record { front = t.front; parts = t.parts; spelled = (j.0, t.spelled); behind = t.behind };
    again = λ at here v front rest s. judged-kept rules at (read at (place_of here (front ++ rest))) s.0 ∙ x.again at here v front rest s.1;
    faults = λ at p f d.
        elim (judged_err rules at (read at p) f d) [
          | inl b ↦ inl b
          | inr k ↦ inr (k.0, x.faults at p f k.1)
        ];
    refuses = λ at p f h.
        elim h [
          | inl b ↦ judged_breaks rules at (read at p) f b
          | inr k ↦ judged-kept rules at (read at p) k.0 ∙ x.refuses at p f k.1
        ];
  }

-- ---- a part, and one that depends on it

module _ {A B : Type 0} (e : Part A) (read : ReadPart A) (x : ExactPart e read) (others : A → Part B) (later : A → ReadPart B) (y : (a : A) → ExactPart (others a) (later a)) where
  -- if the first is spelled, reading goes on behind it
  reads_first : (at here : ℕ) (a : A) (front rest : List ℕ) → e.Spells a front → followed_at read later at (place_of here (front ++ rest)) ≡ later a at (behind here front rest)
  reads_first at here a front rest s = ap (λ (r : Result (A × Place) Fault). r >>= λ z. later z.0 at z.1) (x.again at here a front rest s)

  pub exact_followed : ExactPart (followed e others) (followed_at read later)
  exact_followed = record {
    takes = λ at p v q d.
        let r = bind_ok (read at p) (λ z. later z.0 at z.1) (v, q) d in
        let s = x.takes at p r.0.0 r.0.1 r.1 in
        let t = (y r.0.0).takes at r.0.1 v q r.2 in
        record {
          front = s.front ++ t.front;
          parts = s.parts ∙ ap (λ (l : List ℕ). s.front ++ l) t.parts ∙ sym (append_assoc s.front t.front q.rest);
          spelled = (r.0.0, s.front, t.front, record { parts = refl }, s.spelled, t.spelled);
          behind = omega (arith, s.behind, t.behind, length-append s.front t.front);
        };
    again = λ at here v front rest s.
        let a = s.0 in
        let left = s.1 in
        let right = s.2 in
        let split : front ++ rest ≡ left ++ (right ++ rest) = ap (λ (l : List ℕ). l ++ rest) s.3.parts ∙ append_assoc left right rest in
        let place : behind (here + length left) right rest ≡ behind here front rest = ap (λ (k : ℕ). place_of k rest) (omega (arith, ap (λ (l : List ℕ). length l) s.3.parts, length-append left right)) in
        ap (λ (l : List ℕ). followed_at read later at (place_of here l)) split
        ∙ reads_first at here a left (right ++ rest) s.4
        ∙ (y a).again at (here + length left) v right rest s.5
        ∙ ap (λ (q : Place). Ok (v, q)) place;
    faults = λ at p f d.
        elim (bind_err (read at p) (λ z. later z.0 at z.1) f d) [
          | inl r ↦ inl (x.faults at p f r)
          | inr r ↦ inr (r.0.0, r.0.1, x.takes at p r.0.0 r.0.1 r.1, (y r.0.0).faults at r.0.1 f r.2)
        ];
    refuses = λ at p f h.
        elim h [
          | inl k ↦ ap (λ (r : Result (A × Place) Fault). r >>= λ z. later z.0 at z.1) (x.refuses at p f k)
          | inr k ↦
              let s = k.2 in
              ap (λ (l : List ℕ). followed_at read later at (place_of p.at l)) s.parts
              ∙ reads_first at p.at k.0 s.front k.1.rest s.spelled
              ∙ ap (λ (q : Place). later k.0 at q) (sym (next_is p k.1 k.0 s))
              ∙ (y k.0).refuses at k.1 f k.3
        ];
  }

-- ---- a part, and its octets

-- what is in front of the rest
front_is : (bytes front rest : List ℕ) → bytes ≡ front ++ rest → take (length bytes - length rest) bytes ≡ front
front_is bytes front rest e =
    let size : length bytes - length rest ≡ length front = omega (arith, ap (λ (l : List ℕ). length l) e, length-append front rest) in
    rw (size, e) (take-append_seam front rest)

module _ {V : Type 0} (e : Part V) (read : ReadPart V) (x : ExactPart e read) where
  -- the octets up to a place, and a value
  own_here : Place → V × Place → (List ℕ × V) × Place
  own_here p y = ((take (length p.rest - length y.1.rest) p.rest, y.0), y.1)

  with_value : List ℕ → V → List ℕ × V
  with_value l v = (l, v)

  pub exact_with_own : ExactPart (with_own e) (with_own_at read)
  unfolding own_here with_value
  exact_with_own = record {
    takes = λ at p v q d.
        let r = bind_ok (read at p) (λ y. Ok (own_here p y)) (v, q) d in
        let t = x.takes at p r.0.0 r.0.1 r.1 in
        let whole : Stands (with_own e).Spells p (own_here p r.0).0 r.0.1 =
        record { front = t.front; parts = t.parts; spelled = (sym (front_is p.rest t.front r.0.1.rest t.parts), t.spelled); behind = t.behind } in
        subst (λ (y : (List ℕ × V) × Place). Stands (with_own e).Spells p y.0 y.1) (ok_is (own_here p r.0) (v, q) r.2) whole;
    again = λ at here v front rest s.
        let p = place_of here (front ++ rest) in
        ap (λ (r : Result (V × Place) Fault). r >>= λ y. Ok (own_here p y)) (x.again at here v.1 front rest s.1)
        ∙ ap (λ (l : List ℕ). Ok (with_value l v.1, behind here front rest)) (front_is (front ++ rest) front rest refl ∙ s.0);
    faults = λ at p f d. x.faults at p f (mapped_err (read at p) (own_here p) f d);
    refuses = λ at p f d. ap (λ (r : Result (V × Place) Fault). r >>= λ y. Ok (own_here p y)) (x.refuses at p f d);
  }

-- ---- elements one after the other

-- An element, read exactly. It begins with an octet that is not 0.
pub record ExactIn (e : Element (List ℕ)) (read : Read (List ℕ)) : Type 0 where
  pub takes : (p : Place) (v : List ℕ) (q : Place) → read p ≡ Ok (v, q) → Stands e.Spells p v q
  pub again : (here : ℕ) (v front rest : List ℕ) → e.Spells v front → read (place_of here (front ++ rest)) ≡ Ok (v, behind here front rest)
  pub faults : (p : Place) (f : Fault) → read p ≡ Err f → e.FaultAt p f
  pub refuses : (p : Place) (f : Fault) → e.FaultAt p f → read p ≡ Err f
  pub begins : (v front : List ℕ) → e.Spells v front → (first : ℕ) × (more : List ℕ) × (front ≡ suc first ∷ more)

-- an end is where no element is
abbrev pub IsEnd : (List ℕ → Bool) → Type 0
IsEnd is_end = (first : ℕ) (more : List ℕ) → is_end (suc first ∷ more) ≡ false

pub empty_end : IsEnd is_empty
empty_end first more = refl

pub closed_end : IsEnd is_closed
closed_end first more = refl

module _ (e : Element (List ℕ)) (read : Read (List ℕ)) (x : ExactIn e read) (is_end : List ℕ → Bool) (ending : IsEnd is_end) where
  -- an element has an octet at least
  some : (v front : List ℕ) → e.Spells v front → 0 < length front
  some v front s = let b = x.begins v front s in omega (arith, ap (λ (l : List ℕ). length l) b.2)

  -- no end is where an element is
  not_end : (v front rest : List ℕ) → e.Spells v front → is_end (front ++ rest) ≡ false
  not_end v front rest s = let b = x.begins v front s in ap (λ (l : List ℕ). is_end (l ++ rest)) b.2 ∙ ending b.0 (b.1 ++ rest)

  abbrev next_of : ℕ → List ℕ → List ℕ × Place → Result (List ℕ × Place) Fault
  next_of n before y = until n is_end read (before ++ y.0) y.1

  -- what was read up to an end
  record Found (before v : List ℕ) (p q : Place) : Type 0 where
    values : List (List ℕ)
    stands : Stands (InTurn e) p values q
    is : before ++ joined values ≡ v
    ended : is_end q.rest ≡ true

  takes_until : (n : ℕ) (before : List ℕ) (p : Place) (v : List ℕ) (q : Place) → length p.rest < n → until n is_end read before p ≡ Ok (v, q) → Found before v p q
  takes_until zero before p v q le d = absurd (omega (arith, le))
  takes_until (suc n) before p v q le d =
      elim (choice (is_end p.rest) (Ok (before, p)) (read p >>= next_of n before) (Ok (v, q)) d) [
        | inl k ↦
            let found : Found before before p p = record { values = []; stands = record { front = []; parts = refl; spelled = refl; behind = omega arith }; is = append-nil before; ended = k.0 } in
            subst (λ (y : List ℕ × Place). Found before y.0 p y.1) (ok_is (before, p) (v, q) k.1) found
        | inr k ↦
            let r = bind_ok (read p) (next_of n before) (v, q) k.1 in
            let t = x.takes p r.0.0 r.0.1 r.1 in
            let less : length r.0.1.rest < n = omega (arith, le, some r.0.0 t.front t.spelled, ap (λ (l : List ℕ). length l) t.parts, length-append t.front r.0.1.rest) in
            let i = takes_until n (before ++ r.0.0) r.0.1 v q less r.2 in
            record {
              values = r.0.0 ∷ i.values;
              stands = record {
                front = t.front ++ i.stands.front;
                parts = t.parts ∙ ap (λ (l : List ℕ). t.front ++ l) i.stands.parts ∙ sym (append_assoc t.front i.stands.front q.rest);
                spelled = (t.front, i.stands.front, record { parts = refl }, t.spelled, i.stands.spelled);
                behind = omega (arith, i.stands.behind, t.behind, length-append t.front i.stands.front);
              };
              is = sym (append_assoc before r.0.0 (joined i.values)) ∙ i.is;
              ended = i.ended;
            }
      ]

  -- reading goes on behind elements
  goes_until : (values : List (List ℕ)) (n : ℕ) (before : List ℕ) (here : ℕ) (front rest : List ℕ) → length (front ++ rest) < n → InTurn e values front
      → (m : ℕ) × (length rest < m) × (until n is_end read before (place_of here (front ++ rest)) ≡ until m is_end read (before ++ joined values) (behind here front rest))
  goes_until [] n before here front rest le s =
      (n, omega (arith, le, length-append front rest), rw (s, append-nil before) (ap (λ (k : ℕ). until n is_end read before (place_of k rest)) (omega arith)))
  goes_until (v ∷ values) zero before here front rest le s = absurd (omega (arith, le))
  goes_until (v ∷ values) (suc n) before here front rest le s =
      let left = s.0 in
      let right = s.1 in
      let split : front ++ rest ≡ left ++ (right ++ rest) = ap (λ (l : List ℕ). l ++ rest) s.2.parts ∙ append_assoc left right rest in
      let total : length (front ++ rest) ≡ length left + length (right ++ rest) = ap (λ (l : List ℕ). length l) split ∙ length-append left (right ++ rest) in
      let i = goes_until values n (before ++ v) (here + length left) right rest (omega (arith, le, total, some v left s.3)) s.4 in
      let first : until (suc n) is_end read before (place_of here (left ++ (right ++ rest))) ≡ until n is_end read (before ++ v) (behind here left (right ++ rest)) =
      rw (not_end v left (right ++ rest) s.3, x.again here v left (right ++ rest) s.3) refl in
      let place : behind (here + length left) right rest ≡ behind here front rest = ap (λ (k : ℕ). place_of k rest) (omega (arith, ap (λ (l : List ℕ). length l) s.2.parts, length-append left right)) in (
        i.0,
        i.1,
        ap (λ (l : List ℕ). until (suc n) is_end read before (place_of here l)) split
            ∙ first ∙ i.2 ∙ ap (λ (l : List ℕ). until i.0 is_end read l (behind (here + length left) right rest)) (append_assoc before v (joined values))
            ∙ ap (λ (q : Place). until i.0 is_end read (before ++ joined (v ∷ values)) q) place,
      )

  -- at an end
  stops : (m : ℕ) (before : List ℕ) (p : Place) → is_end p.rest ≡ true → until m is_end read before p ≡ Ok (before, p)
  stops zero before p h = refl
  stops (suc m) before p h = rw h refl

  -- at a fault
  stops_at_fault : (m : ℕ) (before : List ℕ) (p : Place) (f : Fault) → length p.rest < m → is_end p.rest ≡ false → e.FaultAt p f → until m is_end read before p ≡ Err f
  stops_at_fault zero before p f le h d = absurd (omega (arith, le))
  stops_at_fault (suc m) before p f le h d = rw (h, x.refuses p f d) refl

  again_up_to : (values : List (List ℕ)) (here : ℕ) (front rest : List ℕ) → InTurn e values front → is_end rest ≡ true → up_to is_end read (place_of here (front ++ rest)) ≡ Ok (joined values, behind here front rest)
  again_up_to values here front rest s h =
      let g = goes_until values (suc (length (front ++ rest))) [] here front rest (omega arith) s in
      g.2 ∙ stops g.0 (joined values) (behind here front rest) h

  refuses_up_to : (p : Place) (f : Fault) → FaultAmong e is_end p f → up_to is_end read p ≡ Err f
  refuses_up_to p f h =
      let s = h.before in
      let g = goes_until h.values (suc (length (s.front ++ h.next.rest))) [] p.at s.front h.next.rest (omega arith) s.spelled in
      ap (λ (l : List ℕ). up_to is_end read (place_of p.at l)) s.parts
      ∙ g.2 ∙ ap (λ (q : Place). until g.0 is_end read (joined h.values) q) (sym (next_is p h.next h.values s))
      ∙ stops_at_fault g.0 (joined h.values) h.next f g.1 h.more h.faulty

  faults_until : (n : ℕ) (before : List ℕ) (p : Place) (f : Fault) → length p.rest < n → until n is_end read before p ≡ Err f → FaultAmong e is_end p f
  faults_until zero before p f le d = absurd (omega (arith, le))
  faults_until (suc n) before p f le d =
      elim (choice (is_end p.rest) (Ok (before, p)) (read p >>= next_of n before) (Err f) d) [
        | inl k ↦ absurd (let h = k.1 in cc)
        | inr k ↦ elim (bind_err (read p) (next_of n before) f k.1) [
          | inl r ↦ record { values = []; next = p; before = record { front = []; parts = refl; spelled = refl; behind = omega arith }; more = k.0; faulty = x.faults p f r }
          | inr r ↦
              let t = x.takes p r.0.0 r.0.1 r.1 in
              let less : length r.0.1.rest < n = omega (arith, le, some r.0.0 t.front t.spelled, ap (λ (l : List ℕ). length l) t.parts, length-append t.front r.0.1.rest) in
              let i = faults_until n (before ++ r.0.0) r.0.1 f less r.2 in
              record {
                values = r.0.0 ∷ i.values;
                next = i.next;
                before = record {
                  front = t.front ++ i.before.front;
                  parts = t.parts ∙ ap (λ (l : List ℕ). t.front ++ l) i.before.parts ∙ sym (append_assoc t.front i.before.front i.next.rest);
                  spelled = (t.front, i.before.front, record { parts = refl }, t.spelled, i.before.spelled);
                  behind = omega (arith, i.before.behind, t.behind, length-append t.front i.before.front);
                };
                more = i.more;
                faulty = i.faulty;
              }
        ]
      ]

  takes_up_to : (p : Place) (v : List ℕ) (q : Place) → up_to is_end read p ≡ Ok (v, q) → Found [] v p q
  takes_up_to p v q d = takes_until (suc (length p.rest)) [] p v q (omega arith) d

  faults_up_to : (p : Place) (f : Fault) → up_to is_end read p ≡ Err f → FaultAmong e is_end p f
  faults_up_to p f d = faults_until (suc (length p.rest)) [] p f (omega arith) d

-- ---- elements up to the end-of-contents octets

-- the end-of-contents octets
abbrev two : List ℕ
two = 0 ∷ 0 ∷ []

closed_is : (bytes : List ℕ) → is_closed bytes ≡ true → (more : List ℕ) × (bytes ≡ two ++ more)
closed_is [] h = absurd cc
closed_is (zero ∷ []) h = absurd cc
closed_is (zero ∷ zero ∷ more) h = (more, refl)
closed_is (zero ∷ suc n ∷ more) h = absurd cc
closed_is (suc n ∷ more) h = absurd cc

empty_is : (bytes : List ℕ) → is_empty bytes ≡ true → bytes ≡ []
empty_is [] h = refl
empty_is (first ∷ more) h = absurd cc

-- they are read
two_read : (at : ℕ) (p : Place) (more : List ℕ) → p.rest ≡ two ++ more → octets_at 2 at p ≡ Ok (two, behind p.at two more)
two_read at p more e = ap (λ (l : List ℕ). octets_at 2 at (place_of p.at l)) e ∙ (exact_octets 2).again at p.at two two more (refl, refl)

module _ (e : Element (List ℕ)) (read : Read (List ℕ)) (x : ExactIn e read) where
  -- behind the elements the end-of-contents octets are read
  abbrev close_at : ℕ → List ℕ × Place → Result (List ℕ × Place) Fault
  close_at at y = octets_at 2 at y.1 >>= λ z. Ok (y.0, z.1)

  abbrev close_with : List ℕ → List ℕ × Place → Result (List ℕ × Place) Fault
  close_with v z = Ok (v, z.1)

  pub exact_closed : ExactPart (closed e) (closed_at read)
  exact_closed = record {
    takes = λ at p v q d.
        let r = bind_ok (up_to is_closed read p) (close_at at) (v, q) d in
        let t = takes_up_to e read x is_closed closed_end p r.0.0 r.0.1 r.1 in
        let c = closed_is r.0.1.rest t.ended in
        let known = two_read at r.0.1 c.0 c.1 in
        let s : Ok (r.0.0, behind r.0.1.at two c.0) ≡ Ok (v, q) = sym (ap (λ (z : Result (List ℕ × Place) Fault). z >>= close_with r.0.0) known) ∙ r.2 in
        let stands : Stands (closed e).Spells p r.0.0 (behind r.0.1.at two c.0) = record {
          front = t.stands.front ++ two;
          parts = t.stands.parts ∙ ap (λ (l : List ℕ). t.stands.front ++ l) c.1 ∙ sym (append_assoc t.stands.front two c.0);
          spelled = (t.stands.front, record { parts = refl }, record { values = t.values; each = t.stands.spelled; is = t.is });
          behind = omega (arith, t.stands.behind, length-append t.stands.front two);
        } in
        subst (λ (y : List ℕ × Place). Stands (closed e).Spells p y.0 y.1) (ok_is (r.0.0, behind r.0.1.at two c.0) (v, q) s) stands;
    again = λ at here v front rest s.
        let inner = s.0 in
        let split : front ++ rest ≡ inner ++ (two ++ rest) = ap (λ (l : List ℕ). l ++ rest) s.1.parts ∙ append_assoc inner two rest in
        let values = s.2.values in
        let up = again_up_to e read x is_closed closed_end values here inner (two ++ rest) s.2.each refl in
        let place : behind (here + length inner) two rest ≡ behind here front rest = ap (λ (k : ℕ). place_of k rest) (omega (arith, ap (λ (l : List ℕ). length l) s.1.parts, length-append inner two)) in
        ap (λ (l : List ℕ). closed_at read at (place_of here l)) split
        ∙ ap (λ (r : Result (List ℕ × Place) Fault). r >>= close_at at) up
        ∙ ap (λ (r : Result (List ℕ × Place) Fault). r >>= close_with (joined values)) ((exact_octets 2).again at (here + length inner) two two rest (refl, refl))
        ∙ ap (λ (q : Place). Ok (joined values, q)) place ∙ ap (λ (l : List ℕ). Ok (l, behind here front rest)) s.2.is;
    faults = λ at p f d.
        elim (bind_err (up_to is_closed read p) (close_at at) f d) [
          | inl r ↦ faults_up_to e read x is_closed closed_end p f r
          | inr r ↦
              let t = takes_up_to e read x is_closed closed_end p r.0.0 r.0.1 r.1 in
              let c = closed_is r.0.1.rest t.ended in
              let s : Ok (r.0.0, behind r.0.1.at two c.0) ≡ Err f = sym (ap (λ (z : Result (List ℕ × Place) Fault). z >>= close_with r.0.0) (two_read at r.0.1 c.0 c.1)) ∙ r.2 in
              absurd cc
        ];
    refuses = λ at p f h. ap (λ (r : Result (List ℕ × Place) Fault). r >>= close_at at) (refuses_up_to e read x is_closed closed_end p f h);
  }

  -- ---- elements that fill octets

  -- the elements in octets
  abbrev fill_at : ℕ → List ℕ × Place → Result (List ℕ × Place) Fault
  fill_at here y = up_to is_empty read (place_of here y.0) >>= λ z. Ok (z.0, y.1)

  abbrev fill_with : Place → List ℕ × Place → Result (List ℕ × Place) Fault
  fill_with q z = Ok (z.0, q)

  pub exact_filling : (count : ℕ) → ExactPart (filling count e) (filling_at count read)
  exact_filling count = record {
    takes = λ at p v q d.
        let r = bind_ok (octets_at count at p) (fill_at p.at) (v, q) d in
        let o = (exact_octets count).takes at p r.0.0 r.0.1 r.1 in
        let u = bind_ok (up_to is_empty read (place_of p.at r.0.0)) (fill_with r.0.1) (v, q) r.2 in
        let t = takes_up_to e read x is_empty empty_end (place_of p.at r.0.0) u.0.0 u.0.1 u.1 in
        let all : r.0.0 ≡ t.stands.front = t.stands.parts ∙ ap (λ (l : List ℕ). t.stands.front ++ l) (empty_is u.0.1.rest t.ended) ∙ append-nil t.stands.front in
        let stands : Stands (filling count e).Spells p u.0.0 r.0.1 = record {
          front = o.front;
          parts = o.parts;
          spelled = (ap (λ (l : List ℕ). length l) o.spelled.0 ∙ o.spelled.1, record { values = t.values; each = subst (InTurn e t.values) (sym all ∙ sym o.spelled.0) t.stands.spelled; is = t.is });
          behind = o.behind;
        } in
        subst (λ (y : List ℕ × Place). Stands (filling count e).Spells p y.0 y.1) (ok_is (u.0.0, r.0.1) (v, q) u.2) stands;
    again = λ at here v front rest s.
        let values = s.1.values in
        let o = (exact_octets count).again at here front front rest (refl, s.0) in
        let up : up_to is_empty read (place_of here front) ≡ Ok (joined values, behind here front []) =
        ap (λ (l : List ℕ). up_to is_empty read (place_of here l)) (sym (append-nil front)) ∙ again_up_to e read x is_empty empty_end values here front [] s.1.each refl in
        ap (λ (r : Result (List ℕ × Place) Fault). r >>= fill_at here) o
        ∙ ap (λ (r : Result (List ℕ × Place) Fault). r >>= fill_with (behind here front rest)) up
        ∙ ap (λ (l : List ℕ). Ok (l, behind here front rest)) s.1.is;
    faults = λ at p f d.
        elim (bind_err (octets_at count at p) (fill_at p.at) f d) [
          | inl r ↦ inl ((exact_octets count).faults at p f r)
          | inr r ↦
              let o = (exact_octets count).takes at p r.0.0 r.0.1 r.1 in
              elim (bind_err (up_to is_empty read (place_of p.at r.0.0)) (fill_with r.0.1) f r.2) [
                | inl u ↦ inr (
                  place_of p.at r.0.0,
                  record { rest = r.0.1.rest; parts = o.parts ∙ ap (λ (l : List ℕ). l ++ r.0.1.rest) o.spelled.0; count_is = o.spelled.1; here = refl },
                  faults_up_to e read x is_empty empty_end (place_of p.at r.0.0) f u,
                )
                | inr u ↦ absurd (let h = u.2 in cc)
              ]
        ];
    refuses = λ at p f h.
        elim h [
          | inl k ↦ ap (λ (r : Result (List ℕ × Place) Fault). r >>= fill_at p.at) ((exact_octets count).refuses at p f k)
          | inr k ↦
              let inner = k.0 in
              let o = (exact_octets count).again at p.at inner.rest inner.rest k.1.rest (refl, k.1.count_is) in
              ap (λ (l : List ℕ). filling_at count read at (place_of p.at l)) k.1.parts
              ∙ ap (λ (r : Result (List ℕ × Place) Fault). r >>= fill_at p.at) o
              ∙ ap (λ (here : ℕ). fill_at here (inner.rest, behind p.at inner.rest k.1.rest)) (sym k.1.here)
              ∙ ap (λ (r : Result (List ℕ × Place) Fault). r >>= fill_with (behind p.at inner.rest k.1.rest)) (refuses_up_to e read x is_empty empty_end inner f k.2)
        ];
  }
