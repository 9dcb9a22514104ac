-- Reading by a grammar gives the value that is spelled, or the first fault.
use Rattle.std.proofs.Common.{◌≡◌, ◌≢◌, ◌⊎◌, ℕ, zero, suc, ◌+◌, ◌<◌, ◌≤◌, Bool, true, false, eqb, cond, List, [], ◌∷◌, ◌++◌, length, Option, Some, None, Result, Ok, Err, refl, sym, ap, subst, ◌∙◌, arith, inl, inr, append_assoc, length-append}
use Rattle.std.proofs.lemmas.Bool.{eqb-true, eqb-false, ne_eqb}
use Rattle.std.proofs.lemmas.List.{append-nil, nil_from_length, get_or-append-add}
use Rattle.der_lite.specs.Place.{Place, Fault, place_of}
use Rattle.der_lite.specs.Der.{IsBytes, tlv, head_rules}
use Rattle.der_lite.specs.Grammar.{Element, Members, Content, KeepsRules, Stands, inside, element, primitive, constructed, Trails, FaultIn, last, member, OptionSpells, optional, EachSpells, each}
use Rattle.der_lite.specs.DerReading.{◌>>=◌, judged, content_place, next_place}
use Rattle.der_lite.specs.Decoding.{Read, ReadAll, ReadContent, read_element, read_primitive, read_constructed, ended, read_last, read_member, read_optional, each_from, read_each}
use Rattle.der_lite.proofs.Rules.{judged-kept, judged_ok, judged_err, judged_breaks, bind_ok, bind_err, ok_is, err, err_is}
use Rattle.der_lite.proofs.Elements.{behind, stands, stands_again, content_bytes}

-- the place behind the element at a place
pub next_is : {V : Type 0} {Spells : V → List ℕ → Type 0} (p next : Place) (v : V) (s : Stands Spells p v next) → next ≡ behind p.at s.front next.rest
next_is p next v s = λ i. place_of (s.behind i) next.rest

-- Reading is exact for an element: what is read is spelled, what is spelled is read, and so with faults. A spelling has a byte at least.
pub record ExactElement {V : Type 0} (e : Element V) (read : Read V) : Type 0 where
  pub takes : (p : Place) (v : V) (q : Place) → IsBytes p.rest → read p ≡ Ok (v, q) → Stands e.Spells p v q
  pub again : (at : ℕ) (v : V) (front rest : List ℕ) → e.Spells v front → read (place_of at (front ++ rest)) ≡ Ok (v, behind at front rest)
  pub faults : (p : Place) (f : Fault) → IsBytes p.rest → read p ≡ Err f → e.FaultAt p f
  pub refuses : (p : Place) (f : Fault) → e.FaultAt p f → read p ≡ Err f
  pub some : (v : V) (front : List ℕ) → e.Spells v front → 0 < length front

-- the same for all members of an enclosing element
pub record ExactMembers {V : Type 0} (m : Members V) (read : ReadAll V) : Type 0 where
  pub takes : (p : Place) (v : V) → IsBytes p.rest → read p ≡ Ok v → m.Spells v p.rest
  pub again : (p : Place) (v : V) → m.Spells v p.rest → read p ≡ Ok v
  pub faults : (p : Place) (f : Fault) → IsBytes p.rest → read p ≡ Err f → m.FaultAt p f
  pub refuses : (p : Place) (f : Fault) → m.FaultAt p f → read p ≡ Err f

-- the same for the content of an element at an offset
pub record ExactContent {V : Type 0} (c : Content V) (read : ReadContent V) : Type 0 where
  pub takes : (at : ℕ) (p : Place) (v : V) → IsBytes p.rest → read at p ≡ Ok v → c.Spells v p.rest
  pub again : (at : ℕ) (p : Place) (v : V) → c.Spells v p.rest → read at p ≡ Ok v
  pub faults : (at : ℕ) (p : Place) (f : Fault) → IsBytes p.rest → read at p ≡ Err f → c.FaultAt at p f
  pub refuses : (at : ℕ) (p : Place) (f : Fault) → c.FaultAt at p f → read at p ≡ Err f

-- rules that a head keeps exactly if it keeps the usual ones
pub record IsHead (tag : ℕ) (head : List ℕ → List (ℕ × Bool)) : Type 0 where
  pub usual : (bytes : List ℕ) → KeepsRules (head bytes) → KeepsRules (head_rules tag bytes)
  pub keeps : (bytes : List ℕ) → KeepsRules (head_rules tag bytes) → KeepsRules (head bytes)

-- what is behind a front of bytes is bytes
IsBytes-behind : (bytes front rest : List ℕ) → IsBytes bytes → bytes ≡ front ++ rest → IsBytes rest
IsBytes-behind bytes front rest h e i = rw (← get_or-append-add front rest i 0, ← e) (h (length front + i))

-- ---- primitive contents

-- A content that spells a value by itself is read exactly, if it spells just the value that is read.
pub exact_primitive : {V : Type 0} (Spells : V → List ℕ → Type 0) (rules : List ℕ → List (ℕ × Bool)) (value : List ℕ → V)
    → ((inner : List ℕ) → IsBytes inner → KeepsRules (rules inner) → Spells (value inner) inner)
    → ((inner : List ℕ) (v : V) → KeepsRules (rules inner) → Spells v inner → value inner ≡ v)
    → ExactContent (primitive Spells rules) (read_primitive rules value)
exact_primitive {V} Spells rules value spelled one = record {
  takes = λ at p v bytes e.
      let j = judged_ok (rules p.rest) at (Ok (value p.rest)) v e in
      subst (λ (x : V). Spells x p.rest × KeepsRules (rules p.rest)) (ok_is (value p.rest) v j.1) (spelled p.rest bytes j.0, j.0);
  again = λ at p v s. judged-kept (rules p.rest) at (Ok (value p.rest)) s.1 ∙ ap (λ (x : V). Ok x) (one p.rest v s.1 s.0);
  faults = λ at p f bytes e. elim (judged_err (rules p.rest) at (Ok (value p.rest)) f e) [ inl b ↦ b | inr k ↦ absurd (let h = k.1 in cc) ];
  refuses = λ at p f b. judged_breaks (rules p.rest) at (Ok (value p.rest)) f b;
}

-- ---- contents of members

module _ {V : Type 0} (before : List ℕ → List (ℕ × Bool)) (m : Members V) (read : ReadAll V) (whole : V → List (ℕ × Bool)) (x : ExactMembers m read) where
  -- a content of members is read exactly if its members are
  pub exact_constructed : ExactContent (constructed before m whole) (read_constructed before read whole)
  exact_constructed = record {
    takes = λ at p v bytes e.
        let j = judged_ok (before p.rest) at (read p >>= λ w. judged (whole w) at (Ok w)) v e in
        let b = bind_ok (read p) (λ w. judged (whole w) at (Ok w)) v j.1 in
        let k = judged_ok (whole b.0) at (Ok b.0) v b.2 in
        subst (λ (w : V). KeepsRules (before p.rest) × m.Spells w p.rest × KeepsRules (whole w)) (ok_is b.0 v k.1) (j.0, x.takes p b.0 bytes b.1, k.0);
    again = λ at p v s.
        judged-kept (before p.rest) at (read p >>= λ w. judged (whole w) at (Ok w)) s.0
        ∙ ap (λ (r : Result V Fault). r >>= λ w. judged (whole w) at (Ok w)) (x.again p v s.1) ∙ judged-kept (whole v) at (Ok v) s.2;
    faults = λ at p f bytes e.
        elim (judged_err (before p.rest) at (read p >>= λ w. judged (whole w) at (Ok w)) f e) [
          | inl b ↦ inl b
          | inr k ↦ elim (bind_err (read p) (λ w. judged (whole w) at (Ok w)) f k.1) [
            | inl r ↦ inr (inl (k.0, x.faults p f bytes r))
            | inr r ↦ elim (judged_err (whole r.0) at (Ok r.0) f r.2) [
              | inl b ↦ inr (inr (r.0, k.0, x.takes p r.0 bytes r.1, b))
              | inr n ↦ absurd (let h = n.1 in cc)
            ]
          ]
        ];
    refuses = λ at p f h.
        elim h [
          | inl b ↦ judged_breaks (before p.rest) at (read p >>= λ w. judged (whole w) at (Ok w)) f b
          | inr i ↦ elim i [
            | inl k ↦ judged-kept (before p.rest) at (read p >>= λ w. judged (whole w) at (Ok w)) k.0
                ∙ ap (λ (r : Result V Fault). r >>= λ w. judged (whole w) at (Ok w)) (x.refuses p f k.1)
            | inr k ↦ judged-kept (before p.rest) at (read p >>= λ w. judged (whole w) at (Ok w)) k.1
                ∙ ap (λ (r : Result V Fault). r >>= λ w. judged (whole w) at (Ok w)) (x.again p k.0 k.2) ∙ judged_breaks (whole k.0) at (Ok k.0) f k.3
          ]
        ];
  }

-- ---- elements

module _ {V : Type 0} (tag : ℕ) (head : List ℕ → List (ℕ × Bool)) (c : Content V) (read : ReadContent V) (h : IsHead tag head) (x : ExactContent c read) where
  -- an element is read exactly if its content is
  pub exact_element : ExactElement (element tag head c) (read_element head read)
  exact_element = record {
    takes = λ p v q bytes e.
        let then_next : V → Result (V × Place) Fault = λ w. Ok (w, next_place p) in
        let j = judged_ok (head p.rest) p.at (read p.at (content_place p) >>= then_next) (v, q) e in
        let b = bind_ok (read p.at (content_place p)) then_next (v, q) j.1 in
        let s = stands tag p bytes (h.usual p.rest j.0) in
        let inner = (content_place p).rest in
        let t : Stands (element tag head c).Spells p b.0 (next_place p) = record {
          front = tlv tag inner;
          parts = s.parts;
          behind = ap (λ (y : Place). y.at) s.r_is;
          spelled = (inner, record { short = s.short; spelled = refl }, x.takes p.at (content_place p) b.0 (content_bytes p bytes) b.1);
        } in
        subst (λ (y : V × Place). Stands (element tag head c).Spells p y.0 y.1) (ok_is (b.0, next_place p) (v, q) b.2) t;
    again = λ at v front rest s.
        let inner = s.0 in
        let w = stands_again tag at inner rest s.1.short in
        let p = place_of at (tlv tag inner ++ rest) in
        let then_next : V → Result (V × Place) Fault = λ w. Ok (w, next_place p) in
        let e : read_element head read p ≡ Ok (v, behind at (tlv tag inner) rest) =
        judged-kept (head p.rest) at (read at (content_place p) >>= then_next) (h.keeps p.rest w.kept)
        ∙ ap (λ (y : Place). read at y >>= then_next) w.content_is ∙ ap (λ (r : Result V Fault). r >>= then_next) (x.again at (inside at inner) v s.2)
        ∙ ap (λ (y : Place). Ok (v, y)) w.next_is in
        subst (λ (l : List ℕ). read_element head read (place_of at (l ++ rest)) ≡ Ok (v, behind at l rest)) (sym s.1.spelled) e;
    faults = λ p f bytes e.
        let then_next : V → Result (V × Place) Fault = λ w. Ok (w, next_place p) in
        elim (judged_err (head p.rest) p.at (read p.at (content_place p) >>= then_next) f e) [
          | inl b ↦ inl b
          | inr k ↦ elim (bind_err (read p.at (content_place p)) then_next f k.1) [
            | inl r ↦
                let s = stands tag p bytes (h.usual p.rest k.0) in
                let inner = (content_place p).rest in
                inr (
                  inner,
                  next_place p,
                  k.0,
                  record { front = tlv tag inner; parts = s.parts; spelled = record { short = s.short; spelled = refl }; behind = ap (λ (y : Place). y.at) s.r_is },
                  subst (λ (y : Place). c.FaultAt p.at y f) s.q_is (x.faults p.at (content_place p) f (content_bytes p bytes) r),
                )
            | inr r ↦ absurd (let n = r.2 in cc)
          ]
        ];
    refuses = λ p f d.
        let then_next : V → Result (V × Place) Fault = λ w. Ok (w, next_place p) in
        elim d [
          | inl b ↦ judged_breaks (head p.rest) p.at (read p.at (content_place p) >>= then_next) f b
          | inr k ↦
              let inner = k.0 in
              let rest = k.1.rest in
              let parts : p.rest ≡ tlv tag inner ++ rest = k.3.parts ∙ ap (λ (l : List ℕ). l ++ rest) k.3.spelled.spelled in
              let w = stands_again tag p.at inner rest k.3.spelled.short in
              let content_is : content_place p ≡ inside p.at inner = ap (λ (l : List ℕ). content_place (place_of p.at l)) parts ∙ w.content_is in
              judged-kept (head p.rest) p.at (read p.at (content_place p) >>= then_next) k.2
              ∙ ap (λ (y : Place). read p.at y >>= then_next) content_is ∙ ap (λ (r : Result V Fault). r >>= then_next) (x.refuses p.at (inside p.at inner) f k.4)
        ];
    some = λ v front s. omega (arith, ap (λ (l : List ℕ). length l) s.1.spelled);
  }

-- ---- a member first

module _ {A B : Type 0} (e : Element A) (read : Read A) (x : ExactElement e read) (Later : A → Place → Fault → Type 0) (later : A → Place → Result B Fault) where
  -- a fault that is read is that of the first member, or of what is behind it
  faults_in : ((a : A) (p : Place) (f : Fault) → IsBytes p.rest → later a p ≡ Err f → Later a p f) → (p : Place) (f : Fault) → IsBytes p.rest → (read p >>= λ y. later y.0 y.1) ≡ Err f → FaultIn e Later p f
  faults_in found p f bytes d =
      elim (bind_err (read p) (λ y. later y.0 y.1) f d) [
        | inl r ↦ inl (x.faults p f bytes r)
        | inr r ↦
            let t = x.takes p r.0.0 r.0.1 bytes r.1 in
            inr (r.0.0, r.0.1, t, found r.0.0 r.0.1 f (IsBytes-behind p.rest t.front r.0.1.rest bytes t.parts) r.2)
      ]

  -- if the first member is spelled, reading continues behind it
  reads_first : (p : Place) (a : A) (front rest : List ℕ) → p.rest ≡ front ++ rest → e.Spells a front → (read p >>= λ y. later y.0 y.1) ≡ later a (behind p.at front rest)
  reads_first p a front rest parts s =
      let first : read p ≡ Ok (a, behind p.at front rest) = ap (λ (l : List ℕ). read (place_of p.at l)) parts ∙ x.again p.at a front rest s in
      ap (λ (r : Result (A × Place) Fault). r >>= λ y. later y.0 y.1) first

  -- such a fault is read
  refuses_in : ((a : A) (p : Place) (f : Fault) → Later a p f → later a p ≡ Err f) → (p : Place) (f : Fault) → FaultIn e Later p f → (read p >>= λ y. later y.0 y.1) ≡ Err f
  refuses_in found p f d =
      elim d [
        | inl r ↦ ap (λ (r : Result (A × Place) Fault). r >>= λ y. later y.0 y.1) (x.refuses p f r)
        | inr r ↦
            reads_first p r.0 r.2.front r.1.rest r.2.parts r.2.spelled ∙ ap (λ (q : Place). later r.0 q) (sym (next_is p r.1 r.0 r.2)) ∙ found r.0 r.1 f r.3
      ]

  -- the first is read, and what is behind it
  takes_in : (p : Place) (b : B) → IsBytes p.rest → (read p >>= λ y. later y.0 y.1) ≡ Ok b → (a : A) × (q : Place) × Stands e.Spells p a q × IsBytes q.rest × (later a q ≡ Ok b)
  takes_in p b bytes d =
      let r = bind_ok (read p) (λ y. later y.0 y.1) b d in
      let t = x.takes p r.0.0 r.0.1 bytes r.1 in
      (r.0.0, r.0.1, t, IsBytes-behind p.rest t.front r.0.1.rest bytes t.parts, r.2)

-- ---- the end

-- a value was chosen
chosen_ok : {V : Type 0} (b : Bool) (v w : V) (g : Fault) → cond b (Ok v) (Err g) ≡ Ok w → (b ≡ true) × (v ≡ w)
chosen_ok true v w g e = (refl, ok_is v w e)
chosen_ok false v w g e = absurd cc

-- a fault was chosen
chosen_err : {V : Type 0} (b : Bool) (v : V) (g f : Fault) → cond b (Ok v) (Err g) ≡ Err f → (b ≡ false) × (g ≡ f)
chosen_err true v g f e = absurd cc
chosen_err {V} false v g f e = (refl, err_is {A = V} g f e)

-- a value at the end: nothing remains
ended_ok : {V : Type 0} (p : Place) (v w : V) → ended p v ≡ Ok w → (p.rest ≡ []) × (v ≡ w)
ended_ok p v w e =
    let k = chosen_ok (eqb (length p.rest) 0) v w (record { number = 5; offset = p.at }) e in
    (nil_from_length p.rest (eqb-true (length p.rest) 0 k.0), k.1)

-- if nothing remains, it is the value
ended_again : {V : Type 0} (p : Place) (v : V) → p.rest ≡ [] → ended p v ≡ Ok v
ended_again p v e = rw e refl

-- a fault at the end: bytes remain
ended_faults : {V : Type 0} (p : Place) (v : V) (f : Fault) → ended p v ≡ Err f → Trails p f
ended_faults p v f e =
    let k = chosen_err (eqb (length p.rest) 0) v (record { number = 5; offset = p.at }) f e in
    record { more = λ n. eqb-false (length p.rest) 0 k.0 (ap (λ (l : List ℕ). length l) n); is = sym k.1 }

-- if bytes remain, it is the fault
ended_refuses : {V : Type 0} (p : Place) (v : V) (f : Fault) → Trails p f → ended p v ≡ Err f
ended_refuses p v f t =
    let b : eqb (length p.rest) 0 ≡ false = ne_eqb (length p.rest) 0 (λ n. t.more (nil_from_length p.rest n)) in
    rw (b, t.is) refl

-- ---- members

module _ {A : Type 0} (e : Element A) (read : Read A) (x : ExactElement e read) where
  -- one member is all
  takes_one : {B : Type 0} (f : A → B) (p : Place) (b : B) → IsBytes p.rest → (read p >>= λ y. ended y.1 (f y.0)) ≡ Ok b → (a : A) × e.Spells a p.rest × (f a ≡ b)
  takes_one f p b bytes d =
      let t = takes_in e read x (λ a. Trails) (λ a q. ended q (f a)) p b bytes d in
      let k = ended_ok t.1 (f t.0) b t.4 in
      let all : t.2.front ≡ p.rest = sym (t.2.parts ∙ ap (λ (l : List ℕ). t.2.front ++ l) k.0 ∙ append-nil t.2.front) in
      (t.0, subst (λ (l : List ℕ). e.Spells t.0 l) all t.2.spelled, k.1)

  -- one member that is all is read so
  again_one : {B : Type 0} (f : A → B) (p : Place) (a : A) → e.Spells a p.rest → (read p >>= λ y. ended y.1 (f y.0)) ≡ Ok (f a)
  again_one f p a s = reads_first e read x (λ a. Trails) (λ a q. ended q (f a)) p a p.rest [] (sym (append-nil p.rest)) s ∙ ended_again (behind p.at p.rest []) (f a) refl

  -- a fault that is read is that of the member or of what remains
  faults_one : {B : Type 0} (f : A → B) (p : Place) (d : Fault) → IsBytes p.rest → (read p >>= λ y. ended y.1 (f y.0)) ≡ Err d → FaultIn e (λ a. Trails) p d
  faults_one f p d bytes h = faults_in e read x (λ a. Trails) (λ a q. ended q (f a)) (λ a q g b k. ended_faults q (f a) g k) p d bytes h

  -- such a fault is read
  refuses_one : {B : Type 0} (f : A → B) (p : Place) (d : Fault) → FaultIn e (λ a. Trails) p d → (read p >>= λ y. ended y.1 (f y.0)) ≡ Err d
  refuses_one f p d h = refuses_in e read x (λ a. Trails) (λ a q. ended q (f a)) (λ a q g k. ended_refuses q (f a) g k) p d h

  -- one member and the end are read exactly if the member is
  pub exact_last : ExactMembers (last e) (read_last read)
  exact_last = record {
    takes = λ p v bytes d. let t = takes_one (λ a. a) p v bytes d in subst (λ (a : A). e.Spells a p.rest) t.2 t.1;
    again = λ p v s. again_one (λ a. a) p v s;
    faults = λ p f bytes d. faults_one (λ a. a) p f bytes d;
    refuses = λ p f d. refuses_one (λ a. a) p f d;
  }

-- what is done with a value alone adds no fault
pub mapped_err : {A B : Type 0} (r : Result A Fault) (h : A → B) (f : Fault) → (r >>= λ a. Ok (h a)) ≡ Err f → r ≡ Err f
mapped_err (Ok a) h f e = absurd cc
mapped_err {A} {B} (Err g) h f e = ap (λ (k : Fault). err {A = A} k) (err_is {A = B} g f e)

module _ {A B : Type 0} (e : Element A) (read : Read A) (x : ExactElement e read) (m : A → Members B) (others : A → ReadAll B) (y : (a : A) → ExactMembers (m a) (others a)) where
  -- a member and others are read exactly if each is
  pub exact_member : ExactMembers (member e m) (read_member read others)
  exact_member = record {
    takes = λ p v bytes d.
        let t = takes_in e read x (λ a. (m a).FaultAt) (λ a q. others a q >>= λ b. Ok (a, b)) p v bytes d in
        let k = bind_ok (others t.0 t.1) (λ b. Ok (t.0, b)) v t.4 in
        subst (λ (w : A × B). (member e m).Spells w p.rest) (ok_is (t.0, k.0) v k.2) (t.2.front, t.1.rest, record { parts = t.2.parts }, t.2.spelled, (y t.0).takes t.1 k.0 t.3 k.1);
    again = λ p v s.
        reads_first e read x (λ a. (m a).FaultAt) (λ a q. others a q >>= λ b. Ok (a, b)) p v.0 s.0 s.1 s.2.parts s.3
        ∙ ap (λ (r : Result B Fault). r >>= λ b. Ok (v.0, b)) ((y v.0).again (behind p.at s.0 s.1) v.1 s.4);
    faults = λ p f bytes d.
        faults_in e read x (λ a. (m a).FaultAt) (λ a q. others a q >>= λ b. Ok (a, b))
        (λ a q g b k. (y a).faults q g b (mapped_err (others a q) (λ c. (a, c)) g k)) p f bytes d;
    refuses = λ p f d.
        refuses_in e read x (λ a. (m a).FaultAt) (λ a q. others a q >>= λ b. Ok (a, b)) (λ a q g k. ap (λ (r : Result B Fault). r >>= λ b. Ok (a, b)) ((y a).refuses q g k)) p f d;
  }

-- one of two was chosen
choice : {X : Type 0} (b : Bool) (x y z : X) → cond b x y ≡ z → ((b ≡ true) × (x ≡ z)) ⊎ ((b ≡ false) × (y ≡ z))
choice true x y z e = inl (refl, e)
choice false x y z e = inr (refl, e)

-- of length 0 is the empty list alone
is_empty : (bytes : List ℕ) → eqb (length bytes) 0 ≡ true → bytes ≡ []
is_empty bytes e = nil_from_length bytes (eqb-true (length bytes) 0 e)

-- of another length is no empty list
is_longer : (bytes : List ℕ) → eqb (length bytes) 0 ≡ false → bytes ≢ []
is_longer bytes e n = eqb-false (length bytes) 0 e (ap (λ (l : List ℕ). length l) n)

-- a list that is not empty has another length
longer : (bytes : List ℕ) → bytes ≢ [] → eqb (length bytes) 0 ≡ false
longer bytes more = ne_eqb (length bytes) 0 (λ n. more (nil_from_length bytes n))

module _ {A : Type 0} (e : Element A) (read : Read A) (x : ExactElement e read) where
  -- a member that is there
  some_of : A → Option A
  some_of a = Some a

  -- what is spelled as an optional member is read so
  optional_again : (p : Place) (v : Option A) → OptionSpells e.Spells v p.rest → read_optional read p ≡ Ok v
  unfolding some_of
  optional_again p None s = rw s refl
  optional_again p (Some a) s = rw (longer p.rest (λ n. absurd (omega (arith, x.some a p.rest s, ap (λ (l : List ℕ). length l) n)))) (again_one e read x some_of p a s)

  -- an optional member is read exactly if the member is
  pub exact_optional : ExactMembers (optional e) (read_optional read)
  unfolding some_of
  exact_optional = record {
    takes = λ p v bytes d.
        elim (choice (eqb (length p.rest) 0) (Ok None) (read p >>= λ y. ended y.1 (some_of y.0)) (Ok v) d) [
          | inl k ↦ subst (λ (o : Option A). OptionSpells e.Spells o p.rest) (ok_is None v k.1) (is_empty p.rest k.0)
          | inr k ↦ let t = takes_one e read x some_of p v bytes k.1 in subst (λ (o : Option A). OptionSpells e.Spells o p.rest) t.2 t.1
        ];
    again = λ p v s. optional_again p v s;
    faults = λ p f bytes d.
        elim (choice (eqb (length p.rest) 0) (Ok None) (read p >>= λ y. ended y.1 (some_of y.0)) (Err f) d) [
          | inl k ↦ absurd (let n = k.1 in cc)
          | inr k ↦ (is_longer p.rest k.0, faults_one e read x some_of p f bytes k.1)
        ];
    refuses = λ p f d. rw (longer p.rest d.0) (refuses_one e read x some_of p f d.1);
  }

module _ {A : Type 0} (e : List A → Element A) (read : List A → Read A) (x : (before : List A) → ExactElement (e before) (read before)) where
  -- the rest of a loop over the members
  abbrev next_of : ℕ → List A → A × Place → Result (List A) Fault
  next_of n before y = each_from n read (before ++ y.0 ∷ []) y.1

  -- values that a loop gives are spelled
  takes_from : (n : ℕ) (before : List A) (p : Place) (v : List A) → length p.rest ≤ n → IsBytes p.rest → each_from n read before p ≡ Ok v → (vs : List A) × (v ≡ before ++ vs) × EachSpells e before vs p.rest
  takes_from zero before p v le bytes d = ([], sym (ok_is before v d) ∙ sym (append-nil before), nil_from_length p.rest (omega arith))
  takes_from (suc n) before p v le bytes d =
      elim (choice (eqb (length p.rest) 0) (Ok before) (read before p >>= next_of n before) (Ok v) d) [
        | inl k ↦ ([], sym (ok_is before v k.1) ∙ sym (append-nil before), is_empty p.rest k.0)
        | inr k ↦
            let r = bind_ok (read before p) (next_of n before) v k.1 in
            let t = (x before).takes p r.0.0 r.0.1 bytes r.1 in
            let less : length r.0.1.rest ≤ n = omega (arith, (x before).some r.0.0 t.front t.spelled, ap (λ (l : List ℕ). length l) t.parts, length-append t.front r.0.1.rest) in
            let i = takes_from n (before ++ r.0.0 ∷ []) r.0.1 v less (IsBytes-behind p.rest t.front r.0.1.rest bytes t.parts) r.2 in
            (r.0.0 ∷ i.0, i.1 ∙ append_assoc before (r.0.0 ∷ []) i.0, (t.front, r.0.1.rest, record { parts = t.parts }, t.spelled, i.2))
      ]

  -- spelled values are what the loop gives
  again_from : (vs : List A) (n : ℕ) (before : List A) (p : Place) → length p.rest ≤ n → EachSpells e before vs p.rest → each_from n read before p ≡ Ok (before ++ vs)
  again_from [] zero before p le s = ap (λ (l : List A). Ok l) (sym (append-nil before))
  again_from [] (suc n) before p le s = rw s (ap (λ (l : List A). Ok l) (sym (append-nil before)))
  again_from (a ∷ vs) zero before p le s = absurd (omega (arith, (x before).some a s.0 s.3, ap (λ (l : List ℕ). length l) s.2.parts, length-append s.0 s.1))
  again_from (a ∷ vs) (suc n) before p le s =
      let total : length p.rest ≡ length s.0 + length s.1 = ap (λ (l : List ℕ). length l) s.2.parts ∙ length-append s.0 s.1 in
      let more : p.rest ≢ [] = λ m. absurd (omega (arith, (x before).some a s.0 s.3, total, ap (λ (l : List ℕ). length l) m)) in
      let less : length s.1 ≤ n = omega (arith, (x before).some a s.0 s.3, total) in
      let first : (read before p >>= next_of n before) ≡ each_from n read (before ++ a ∷ []) (behind p.at s.0 s.1) =
      reads_first (e before) (read before) (x before) (λ a. Trails) (λ a q. each_from n read (before ++ a ∷ []) q) p a s.0 s.1 s.2.parts s.3 in
      rw (longer p.rest more) (first ∙ again_from vs n (before ++ a ∷ []) (behind p.at s.0 s.1) less s.4 ∙ ap (λ (l : List A). Ok l) (append_assoc before (a ∷ []) vs))

  -- a fault behind a number of members
  abbrev FaultFrom : List A → Place → Fault → Type 0
  FaultFrom before p f = (vs : List A) × (next : Place) × Stands (EachSpells e before) p vs next × (next.rest ≢ []) × (e (before ++ vs)).FaultAt next f

  -- a fault that the loop gives is the one there
  faults_from : (n : ℕ) (before : List A) (p : Place) (f : Fault) → length p.rest ≤ n → IsBytes p.rest → each_from n read before p ≡ Err f → FaultFrom before p f
  faults_from zero before p f le bytes d = absurd cc
  faults_from (suc n) before p f le bytes d =
      elim (choice (eqb (length p.rest) 0) (Ok before) (read before p >>= next_of n before) (Err f) d) [
        | inl k ↦ absurd (let m = k.1 in cc)
        | inr k ↦ elim (bind_err (read before p) (next_of n before) f k.1) [
          | inl r ↦
              let here : (e before).FaultAt p f = (x before).faults p f bytes r in (
                [],
                p,
                record { front = []; parts = refl; spelled = refl; behind = omega arith },
                is_longer p.rest k.0,
                subst (λ (l : List A). (e l).FaultAt p f) (sym (append-nil before)) here,
              )
          | inr r ↦
              let t = (x before).takes p r.0.0 r.0.1 bytes r.1 in
              let less : length r.0.1.rest ≤ n = omega (arith, (x before).some r.0.0 t.front t.spelled, ap (λ (l : List ℕ). length l) t.parts, length-append t.front r.0.1.rest) in
              let i = faults_from n (before ++ r.0.0 ∷ []) r.0.1 f less (IsBytes-behind p.rest t.front r.0.1.rest bytes t.parts) r.2 in
              let parts : p.rest ≡ (t.front ++ i.2.front) ++ i.1.rest = t.parts ∙ ap (λ (l : List ℕ). t.front ++ l) i.2.parts ∙ sym (append_assoc t.front i.2.front i.1.rest) in (
                r.0.0 ∷ i.0,
                i.1,
                record {
                  front = t.front ++ i.2.front;
                  parts = parts;
                  spelled = (t.front, i.2.front, record { parts = refl }, t.spelled, i.2.spelled);
                  behind = omega (arith, i.2.behind, t.behind, length-append t.front i.2.front);
                },
                i.3,
                subst (λ (l : List A). (e l).FaultAt i.1 f) (append_assoc before (r.0.0 ∷ []) i.0) i.4,
              )
        ]
      ]

  -- a fault there is what the loop gives
  refuses_from : (vs : List A) (n : ℕ) (before : List A) (p : Place) (f : Fault) (front rest : List ℕ) → length p.rest ≤ n → p.rest ≡ front ++ rest → EachSpells e before vs front → rest ≢ [] → (e (before ++ vs)).FaultAt (behind p.at front rest) f → each_from n read before p ≡ Err f
  refuses_from [] zero before p f front rest le parts s more d = absurd (more (nil_from_length rest (omega (arith, ap (λ (l : List ℕ). length l) parts, length-append front rest))))
  refuses_from [] (suc n) before p f front rest le parts s more d =
      let all : p.rest ≡ rest = parts ∙ ap (λ (l : List ℕ). l ++ rest) s in
      let here : (e before).FaultAt (behind p.at front rest) f = subst (λ (l : List A). (e l).FaultAt (behind p.at front rest) f) (append-nil before) d in
      let place : behind p.at front rest ≡ p = ap (λ (l : List ℕ). behind p.at l rest) s ∙ ap (λ (k : ℕ). place_of k rest) (omega arith) ∙ ap (place_of p.at) (sym all) in
      let first : read before p ≡ Err f = (x before).refuses p f (subst (λ (q : Place). (e before).FaultAt q f) place here) in
      rw (longer p.rest (λ m. more (sym all ∙ m)), first) refl
  refuses_from (a ∷ vs) zero before p f front rest le parts s more d = absurd (more (nil_from_length rest (omega (arith, ap (λ (l : List ℕ). length l) parts, length-append front rest))))
  refuses_from (a ∷ vs) (suc n) before p f front rest le parts s more d =
      let behind_a = s.1 ++ rest in
      let parts_a : p.rest ≡ s.0 ++ behind_a = parts ∙ ap (λ (l : List ℕ). l ++ rest) s.2.parts ∙ append_assoc s.0 s.1 rest in
      let total : length p.rest ≡ length s.0 + length behind_a = ap (λ (l : List ℕ). length l) parts_a ∙ length-append s.0 behind_a in
      let some_a = (x before).some a s.0 s.3 in
      let not_empty : p.rest ≢ [] = λ m. absurd (omega (arith, some_a, total, ap (λ (l : List ℕ). length l) m)) in
      let less : length behind_a ≤ n = omega (arith, some_a, total) in
      let q : Place = behind p.at s.0 behind_a in
      let place : behind p.at front rest ≡ behind q.at s.1 rest = ap (λ (k : ℕ). place_of k rest) (omega (arith, ap (λ (l : List ℕ). length l) s.2.parts, length-append s.0 s.1)) in
      let here : (e ((before ++ a ∷ []) ++ vs)).FaultAt (behind q.at s.1 rest) f =
      subst (λ (l : List A). (e l).FaultAt (behind q.at s.1 rest) f) (sym (append_assoc before (a ∷ []) vs)) (subst (λ (r : Place). (e (before ++ a ∷ vs)).FaultAt r f) place d) in
      let first : (read before p >>= next_of n before) ≡ each_from n read (before ++ a ∷ []) q =
      reads_first (e before) (read before) (x before) (λ a. Trails) (λ a q. each_from n read (before ++ a ∷ []) q) p a s.0 behind_a parts_a s.3 in
      rw (longer p.rest not_empty) (first ∙ refuses_from vs n (before ++ a ∷ []) q f s.1 rest less refl s.4 more here)

  -- members to the end are read exactly if each is
  pub exact_each : ExactMembers (each e) (read_each read)
  exact_each = record {
    takes = λ p v bytes d. let t = takes_from (length p.rest) [] p v (omega arith) bytes d in subst (λ (l : List A). EachSpells e [] l p.rest) (sym t.1) t.2;
    again = λ p v s. again_from v (length p.rest) [] p (omega arith) s;
    faults = λ p f bytes d. faults_from (length p.rest) [] p f (omega arith) bytes d;
    refuses = λ p f d.
        refuses_from d.0 (length p.rest) [] p f d.2.front d.1.rest (omega arith) d.2.parts d.2.spelled d.3 (subst (λ (q : Place). (e d.0).FaultAt q f) (next_is p d.1 d.0 d.2) d.4);
  }
