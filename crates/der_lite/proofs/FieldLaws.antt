-- Reading over what a cursor's reads give is exact too.
use Rattle.std.proofs.Common.{◌≡◌, ℕ, ◌<◌, Bool, true, false, eqb, cond, List, [], ◌∷◌, ◌++◌, length, Option, Some, None, Result, Ok, Err, refl, sym, ap, subst, ◌∙◌, arith, length-drop}
use Rattle.der_lite.specs.Place.{Place, Fault}
use Rattle.der_lite.specs.Der.{head_rules, content_end, length_end}
use Rattle.der_lite.specs.Grammar.{Element, Members, element, primitive, constructed, last, optional}
use Rattle.der_lite.specs.DerReading.{◌>>=◌, judged, element_at, content_at, end_at, content_place, next_place}
use Rattle.der_lite.specs.Decoding.{Read, ReadAll, read_element, read_primitive, read_constructed, read_last, read_optional, ended}
use Rattle.der_lite.specs.Fields.{field_at, sequence_at, last_at, optional_at, valued_at, valued}
use Rattle.der_lite.proofs.Rules.{judged-bind, judged_ok, bind_ok, ok, err, ok_is}
use Rattle.der_lite.proofs.Elements.{head_kept, ends_stand}
use Rattle.der_lite.proofs.Exact.{ExactElement, ExactMembers, ExactContent, exact_element, exact_constructed, exact_last, exact_optional, mapped_err}
use Rattle.der_lite.proofs.Once.{Once}
use Rattle.der_lite.proofs.ContentReads.{usual_head, exact_along}

-- rules in two parts are judged one part after the other
pub judged-append : {A : Type 0} (rules others : List (ℕ × Bool)) (at : ℕ) (r : Result A Fault) → judged (rules ++ others) at r ≡ judged rules at (judged others at r)
judged-append [] others at r = refl
judged-append ((n, true) ∷ rules) others at r = refl
judged-append ((n, false) ∷ rules) others at r = judged-append rules others at r

-- three steps, put together in another way
pub bind-bind : {A B C : Type 0} (r : Result A Fault) (f : A → Result B Fault) (g : B → Result C Fault) → ((r >>= f) >>= g) ≡ (r >>= λ a. f a >>= g)
bind-bind (Ok a) f g = refl
bind-bind (Err e) f g = refl

-- the same first step, and then what gives the same
pub bind-same : {A B : Type 0} (r : Result A Fault) (f g : A → Result B Fault) → ((a : A) → f a ≡ g a) → (r >>= f) ≡ (r >>= g)
bind-same (Ok a) f g same = same a
bind-same (Err e) f g same = refl

-- ---- a field: its content as a cursor reads it, and then the rules of its value

module _ {V : Type 0} (tag : ℕ) (own rules : List ℕ → List (ℕ × Bool)) (value : List ℕ → V) where
  -- the content with its own rules first is the field
  pub field_is : (p : Place) → read_element (head_rules tag) (read_primitive (λ c. own c ++ rules c) value) p ≡ field_at (content_at tag own p) p.at rules value
  unfolding content_at element_at
  field_is p =
      let c = (content_place p).rest in
      let then_next : V → Result (V × Place) Fault = λ v. Ok (v, next_place p) in
      let own_then : Place × Place → Result (List ℕ × Place) Fault = λ x. judged (own x.0.rest) p.at (Ok (x.0.rest, x.1)) in
      let rules_then : List ℕ × Place → Result (V × Place) Fault = λ x. judged (rules x.0) p.at (Ok (value x.0, x.1)) in
      let inner : (judged (own c ++ rules c) p.at (Ok (value c)) >>= then_next) ≡ judged (own c) p.at (judged (rules c) p.at (Ok (value c, next_place p))) =
      ap (λ (r : Result V Fault). r >>= then_next) (judged-append (own c) (rules c) p.at (Ok (value c)))
      ∙ judged-bind (own c) p.at (judged (rules c) p.at (Ok (value c))) then_next ∙ ap (judged (own c) p.at) (judged-bind (rules c) p.at (Ok (value c)) then_next) in
      let outer : ((judged (head_rules tag p.rest) p.at (Ok (content_place p, next_place p)) >>= own_then) >>= rules_then) ≡ judged (head_rules tag p.rest) p.at (judged (own c) p.at (judged (rules c) p.at (Ok (value c, next_place p)))) =
      ap (λ (r : Result (List ℕ × Place) Fault). r >>= rules_then) (judged-bind (head_rules tag p.rest) p.at (Ok (content_place p, next_place p)) own_then)
      ∙ judged-bind (head_rules tag p.rest) p.at (judged (own c) p.at (Ok (c, next_place p))) rules_then
      ∙ ap (judged (head_rules tag p.rest) p.at) (judged-bind (own c) p.at (Ok (c, next_place p)) rules_then) in
      ap (judged (head_rules tag p.rest) p.at) inner ∙ sym outer

  -- a field is read exactly if its content is
  pub exact_field : (Spells : V → List ℕ → Type 0) → ExactContent (primitive Spells (λ c. own c ++ rules c)) (read_primitive (λ c. own c ++ rules c) value)
      → ExactElement (element tag (head_rules tag) (primitive Spells (λ c. own c ++ rules c))) (λ p. field_at (content_at tag own p) p.at rules value)
  exact_field Spells x =
      let read = read_element (head_rules tag) (read_primitive (λ c. own c ++ rules c) value) in
      exact_along (element tag (head_rules tag) (primitive Spells (λ c. own c ++ rules c))) read (λ p. field_at (content_at tag own p) p.at rules value) field_is
      (exact_element tag (head_rules tag) (primitive Spells (λ c. own c ++ rules c)) (read_primitive (λ c. own c ++ rules c) value) (usual_head tag) x)

-- ---- members

-- reading all in another way that gives the same
pub members_along : {V : Type 0} (m : Members V) (read other : ReadAll V) → ((p : Place) → read p ≡ other p) → ExactMembers m read → ExactMembers m other
members_along m read other same x = record {
  takes = λ p v bytes d. x.takes p v bytes (same p ∙ d);
  again = λ p v s. sym (same p) ∙ x.again p v s;
  faults = λ p f bytes d. x.faults p f bytes (same p ∙ d);
  refuses = λ p f d. sym (same p) ∙ x.refuses p f d;
}

-- what was chosen at the end, and then the value
chosen_is : {V : Type 0} (at_end : Bool) (v : V) (f : Fault) → cond at_end (ok v) (err f) ≡ (cond at_end (ok tt) (err {A = Unit {0}} f) >>= λ _. ok v)
chosen_is true v f = refl
chosen_is false v f = refl

-- the end, and then the value
ended_is : {V : Type 0} (p : Place) (v : V) → ended p v ≡ (end_at p >>= λ _. Ok v)
unfolding end_at
ended_is p v = chosen_is (eqb (length p.rest) 0) v (record { number = 5; offset = p.at })

-- one member and the end
pub exact_last_at : {V : Type 0} (e : Element V) (read : Read V) → ExactElement e read → ExactMembers (last e) (last_at read)
exact_last_at e read x = members_along (last e) (read_last read) (last_at read) (λ p. bind-same (read p) (λ y. ended y.1 y.0) (λ y. end_at y.1 >>= λ _. Ok y.0) (λ y. ended_is y.1 y.0)) (exact_last e read x)

-- a member that is there
some_of : {V : Type 0} → V → Option V
some_of v = Some v

-- a member if bytes remain, and the end
pub exact_optional_at : {V : Type 0} (e : Element V) (read : Read V) → ExactElement e read → ExactMembers (optional e) (optional_at read)
unfolding some_of
exact_optional_at {V} e read x =
    members_along (optional e) (read_optional read) (optional_at read)
    (λ p. ap (λ (r : Result (Option V) Fault). cond (eqb (length p.rest) 0) (Ok None) r)
    (bind-same (read p) (λ y. ended y.1 (some_of y.0)) (λ y. end_at y.1 >>= λ _. Ok (some_of y.0)) (λ y. ended_is y.1 (some_of y.0))))
    (exact_optional e read x)

module _ {A B : Type 0} (make : A → B) (parts : B → A) (parts_is : (a : A) → parts (make a) ≡ a) (make_is : (b : B) → make (parts b) ≡ b) where
  -- a value with the members' as its parts is read exactly if they are
  pub exact_valued : (m : Members A) (read : ReadAll A) → ExactMembers m read → ExactMembers (valued parts m) (valued_at make read)
  exact_valued m read x = record {
    takes = λ p b bytes d.
        let r = bind_ok (read p) (λ a. Ok (make a)) b d in
        let same : r.0 ≡ parts b = sym (parts_is r.0) ∙ ap parts (ok_is (make r.0) b r.2) in
        subst (λ (a : A). m.Spells a p.rest) same (x.takes p r.0 bytes r.1);
    again = λ p b s. ap (λ (r : Result A Fault). r >>= λ a. Ok (make a)) (x.again p (parts b) s) ∙ ap (λ (c : B). Ok c) (make_is b);
    faults = λ p f bytes d. x.faults p f bytes (mapped_err (read p) make f d);
    refuses = λ p f d. ap (λ (r : Result A Fault). r >>= λ a. Ok (make a)) (x.refuses p f d);
  }

-- and it has one spelling if they have
pub once_valued : {A B : Type 0} (parts : B → A) (m : Members A) → Once m.Spells → Once (valued parts m).Spells
once_valued parts m once b x y bx by s t = once (parts b) x y bx by s t

module _ {V : Type 0} (before : List ℕ → List (ℕ × Bool)) (m : Members V) (read : ReadAll V) (whole : V → List (ℕ × Bool)) where
  -- a SEQUENCE, its head first and then its content
  sequence_is : (p : Place) → read_element (head_rules 48) (read_constructed before read whole) p ≡ sequence_at before read whole p
  unfolding element_at
  sequence_is p =
      let inner = content_place p in
      let then_next : V → Result (V × Place) Fault = λ v. Ok (v, next_place p) in
      let judge : V → Result V Fault = λ v. judged (whole v) p.at (Ok v) in
      let at_places : Place × Place → Result (V × Place) Fault = λ x. judged (before x.0.rest) p.at (read x.0 >>= λ v. judged (whole v) p.at (Ok (v, x.1))) in
      ap (judged (head_rules 48 p.rest) p.at)
      (judged-bind (before inner.rest) p.at (read inner >>= judge) then_next
      ∙ ap (judged (before inner.rest) p.at)
      (bind-bind (read inner) judge then_next ∙ bind-same (read inner) (λ v. judge v >>= then_next) (λ v. judged (whole v) p.at (Ok (v, next_place p))) (λ v. judged-bind (whole v) p.at (Ok v) then_next)))
      ∙ sym (judged-bind (head_rules 48 p.rest) p.at (Ok (content_place p, next_place p)) at_places)

  -- a SEQUENCE is read exactly if its members are
  pub exact_sequence : ExactMembers m read → ExactElement (element 48 (head_rules 48) (constructed before m whole)) (sequence_at before read whole)
  exact_sequence x =
      exact_along (element 48 (head_rules 48) (constructed before m whole)) (read_element (head_rules 48) (read_constructed before read whole)) (sequence_at before read whole) sequence_is
      (exact_element 48 (head_rules 48) (constructed before m whole) (read_constructed before read whole) (usual_head 48) (exact_constructed before m read whole x))

-- ---- reading continues

-- behind an element less remains
pub element_shorter : (tag : ℕ) (p x q : Place) → element_at tag p ≡ Ok (x, q) → length q.rest < length p.rest
unfolding element_at next_place content_end length_end
element_shorter tag p x q e =
    let j = judged_ok (head_rules tag p.rest) p.at (Ok (content_place p, next_place p)) (x, q) e in
    let same = ok_is (content_place p, next_place p) (x, q) j.1 in
    let k = head_kept tag p.rest j.0 in
    let s = ends_stand p.rest k.whole k.fewest in
    let len : length (next_place p).rest ≡ length q.rest = ap (λ (y : Place × Place). length y.1.rest) same in
    omega (arith, s.0, s.1, len, length-drop (content_end p.rest) p.rest)

-- behind a SEQUENCE less remains
pub sequence_shorter : {V : Type 0} (before : List ℕ → List (ℕ × Bool)) (read : ReadAll V) (whole : V → List (ℕ × Bool)) (p : Place) (v : V) (q : Place)
    → sequence_at before read whole p ≡ Ok (v, q) → length q.rest < length p.rest
sequence_shorter {V} before read whole p v q e =
    let b = bind_ok (element_at 48 p) (λ x. judged (before x.0.rest) p.at (read x.0 >>= λ w. judged (whole w) p.at (Ok (w, x.1)))) (v, q) e in
    let j = judged_ok (before b.0.0.rest) p.at (read b.0.0 >>= λ w. judged (whole w) p.at (Ok (w, b.0.1))) (v, q) b.2 in
    let r = bind_ok (read b.0.0) (λ w. judged (whole w) p.at (Ok (w, b.0.1))) (v, q) j.1 in
    let k = judged_ok (whole r.0) p.at (Ok (r.0, b.0.1)) (v, q) r.2 in
    let same : b.0.1 ≡ q = ap (λ (y : V × Place). y.1) (ok_is (r.0, b.0.1) (v, q) k.1) in
    let less = element_shorter 48 p b.0.0 b.0.1 b.1 in
    omega (arith, less, ap (λ (y : Place). length y.rest) same)
