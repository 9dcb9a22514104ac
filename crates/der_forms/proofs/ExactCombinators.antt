-- Reading by the grammars that CMS and X.509 need is exact.
use Rattle.std.proofs.Common.{◌≡◌, ◌⊎◌, ℕ, ◌-◌, ◌<◌, Bool, true, false, not, eqb, cond, List, [], ◌∷◌, ◌++◌, length, take, Option, Some, None, Result, Ok, Err, refl, sym, ap, subst, ◌∙◌, arith, inl, inr, length-append}
use Rattle.std.proofs.lemmas.Bool.{eqb-true, eqb-false, ne_eqb, not-false}
use Rattle.std.proofs.lemmas.Slice.Eq.{bytes_eq-Decides}
use Rattle.std.proofs.lemmas.List.{nil_from_length}
use Rattle.std.proofs.Math.Seq.{take-append_seam}
use Rattle.std.specs.Prelude.{bytes_eq}
use Rattle.der_lite.specs.Place.{Place, Fault, place_of}
use Rattle.der_lite.specs.Der.{IsBytes, is_truncated, has_der_length, head_rules, length_end}
use Rattle.der_lite.specs.Grammar.{Element, Members, Content, KeepsRules, Stands, element, primitive, member}
use Rattle.der_lite.specs.DerReading.{◌>>=◌, judged, element_at, content_at, content_place, next_place}
use Rattle.der_lite.specs.Decoding.{Read, ReadAll, ReadContent, read_element, read_primitive, read_member}
use Rattle.der_lite.proofs.Rules.{kept_first, kept_on, judged-bind, bind_ok, ok_is, err_is}
use Rattle.der_lite.proofs.Elements.{behind}
use Rattle.der_lite.proofs.Exact.{ExactElement, ExactMembers, ExactContent, exact_element, exact_primitive, exact_constructed, exact_member, mapped_err}
use Rattle.der_lite.proofs.ContentReads.{element_is, exact_along}
use Rattle.der_lite.proofs.FieldLaws.{judged-append, exact_field}
use Rattle.der_forms.specs.Combinators.{no_rules, begins, fault_at, needed, barred, element_behind, not_empty, nothing, told, told_content, first_part, sole, holding_one, anything, with_octets, standing, either, spelling, needed_octets, FixedSpells, fixed_rules, fixed, branch, present, absent, maybe, told_element}
use Rattle.der_forms.specs.CombinatorReading.{found_at, opened_at, nothing_at, told_at, told_content_at, with_octets_at, standing_at, sole_at, one_of, anything_at, either_at, or_fault, fixed_field, all_octets, needed_octets_at, branch_at, maybe_at, told_element_at}

-- ---- elements behind rules

-- of rules in two parts both are kept
parts_kept : (rules others : List (ℕ × Bool)) → KeepsRules (rules ++ others) → KeepsRules rules × KeepsRules others
parts_kept [] others h = (refl, h)
parts_kept ((n, true) ∷ rules) others h = absurd cc
parts_kept ((n, false) ∷ rules) others h = parts_kept rules others h

-- and back
both_kept : (rules others : List (ℕ × Bool)) → KeepsRules rules → KeepsRules others → KeepsRules (rules ++ others)
both_kept [] others h k = k
both_kept ((n, true) ∷ rules) others h k = absurd cc
both_kept ((n, false) ∷ rules) others h k = both_kept rules others h k

-- an element of this tag is a head that keeps these rules
abbrev pub Follows : (List ℕ → List (ℕ × Bool)) → ℕ → Type 0
Follows rules tag = (bytes : List ℕ) → KeepsRules (head_rules tag bytes) → KeepsRules (rules bytes)

pub no_rules_follow : (tag : ℕ) → Follows no_rules tag
no_rules_follow tag bytes h = refl

-- an element that is here begins with its tag
pub begins_here : (tag : ℕ) (bytes : List ℕ) → KeepsRules (head_rules tag bytes) → begins tag bytes ≡ true
unfolding head_rules is_truncated length_end
begins_here tag [] h = absurd cc
begins_here tag (first ∷ more) h =
    let last_rule : List (ℕ × Bool) = (3, not (has_der_length (first ∷ more))) ∷ [] in
    let k = kept_first 1 (is_truncated (first ∷ more)) ((2, not (eqb first tag)) ∷ last_rule) h in
    not-false (eqb first tag) (kept_first 2 (not (eqb first tag)) last_rule k.1).0

pub needed_follow : (number tag : ℕ) → Follows (needed number tag) tag
needed_follow number tag bytes h = kept_on number (not (begins tag bytes)) [] (ap not (begins_here tag bytes h)) refl

-- bytes begin with one tag
one_tag : (a b : ℕ) (bytes : List ℕ) → eqb a b ≡ false → begins a bytes ≡ true → begins b bytes ≡ false
one_tag a b [] other h = absurd cc
one_tag a b (first ∷ more) other h = ne_eqb first b (λ e. eqb-false a b other (sym (eqb-true first a h) ∙ e))

pub barred_follow : (number barring tag : ℕ) → eqb tag barring ≡ false → Follows (barred number barring) tag
barred_follow number barring tag other bytes h = kept_on number (begins barring bytes) [] (one_tag tag barring bytes other (begins_here tag bytes h)) refl

module _ {V : Type 0} (rules : List ℕ → List (ℕ × Bool)) (tag : ℕ) where
  -- the rules first, then the head, then the content
  behind_is : (content : ReadContent V) (p : Place) → read_element (λ bytes. rules bytes ++ head_rules tag bytes) content p ≡ opened_at (found_at rules tag p) p.at content
  behind_is content p =
      let then_next : Place × Place → Result (V × Place) Fault = λ x. content p.at x.0 >>= λ v. Ok (v, x.1) in
      judged-append (rules p.rest) (head_rules tag p.rest) p.at (content p.at (content_place p) >>= λ v. Ok (v, next_place p))
      ∙ ap (judged (rules p.rest) p.at) (element_is tag content p) ∙ sym (judged-bind (rules p.rest) p.at (element_at tag p) then_next)

  -- an element behind rules is read exactly if its content is
  pub exact_behind : (c : Content V) (read : ReadContent V) → Follows rules tag → ExactContent c read → ExactElement (element_behind rules tag c) (λ p. opened_at (found_at rules tag p) p.at read)
  exact_behind c read follows x =
      let head : List ℕ → List (ℕ × Bool) = λ bytes. rules bytes ++ head_rules tag bytes in
      exact_along (element_behind rules tag c) (read_element head read) (λ p. opened_at (found_at rules tag p) p.at read) (behind_is read)
      (exact_element tag head c read
      (record { usual = λ bytes h. (parts_kept (rules bytes) (head_rules tag bytes) h).1; keeps = λ bytes h. both_kept (rules bytes) (head_rules tag bytes) (follows bytes h) h })
      x)

-- an element of its content
pub exact_opened : {V : Type 0} (tag : ℕ) (c : Content V) (read : ReadContent V) → ExactContent c read → ExactElement (element tag (head_rules tag) c) (λ p. opened_at (element_at tag p) p.at read)
exact_opened tag c read x = exact_behind no_rules tag c read (no_rules_follow tag) x

-- a content that is taken as it is
pub exact_all : ExactContent (primitive (λ v inner. inner ≡ v) no_rules) all_octets
exact_all = exact_primitive (λ v inner. inner ≡ v) no_rules (λ content. content) (λ inner bytes k. refl) (λ inner v k s. s)

pub exact_needed_octets : (number tag : ℕ) → ExactElement (needed_octets number tag) (needed_octets_at number tag)
unfolding needed_octets_at
exact_needed_octets number tag = exact_behind (needed number tag) tag (primitive (λ v inner. inner ≡ v) no_rules) all_octets (needed_follow number tag) exact_all

-- a content that is this one
pub exact_fixed_content : (number : ℕ) (wanted : List ℕ) → ExactContent (primitive (FixedSpells wanted) (fixed_rules number wanted)) (read_primitive (fixed_rules number wanted) (λ content. tt))
exact_fixed_content number wanted =
    exact_primitive (FixedSpells wanted) (fixed_rules number wanted) (λ content. tt)
    (λ content bytes kept. (bytes_eq-Decides content wanted).0 (not-false (bytes_eq content wanted) (kept_first number (not (bytes_eq content wanted)) [] kept).0))
    (λ content u kept s. refl)

pub exact_fixed : (number tag : ℕ) (wanted : List ℕ) → ExactElement (fixed number tag wanted) (λ p. fixed_field (content_at tag no_rules p) p.at number wanted)
exact_fixed number tag wanted = exact_field tag no_rules (fixed_rules number wanted) (λ content. tt) (FixedSpells wanted) (exact_fixed_content number wanted)

-- ---- the end

-- one of two was chosen
choice : {X : Type 0} (b : Bool) (x y z : X) → cond b x y ≡ z → ((b ≡ true) × (x ≡ z)) ⊎ ((b ≡ false) × (y ≡ z))
choice true x y z e = inl (refl, e)
choice false x y z e = inr (refl, e)

pub exact_nothing : (number : List ℕ → ℕ) → ExactMembers (nothing number) (nothing_at number)
exact_nothing number = record {
  takes = λ p v bytes d.
      elim (choice (eqb (length p.rest) 0) (Ok tt) (Err (fault_at (number p.rest) p.at)) (Ok v) d) [
        | inl k ↦ nil_from_length p.rest (eqb-true (length p.rest) 0 k.0)
        | inr k ↦ absurd (let h = k.1 in cc)
      ];
  again = λ p v s. rw s refl;
  faults = λ p f bytes d.
      elim (choice (eqb (length p.rest) 0) (Ok tt) (Err (fault_at (number p.rest) p.at)) (Err f) d) [
        | inl k ↦ absurd (let h = k.1 in cc)
        | inr k ↦ ((λ n. eqb-false (length p.rest) 0 k.0 (ap (λ (l : List ℕ). length l) n)), sym (err_is {A = Unit {0}} (fault_at (number p.rest) p.at) f k.1))
      ];
  refuses = λ p f h.
      let b : eqb (length p.rest) 0 ≡ false = ne_eqb (length p.rest) 0 (λ n. h.0 (nil_from_length p.rest n)) in
      rw (b, h.1) refl;
}

-- ---- parts that are told

module _ {A B : Type 0} (tell : A → B) where
  pub exact_told : (m : Members A) (read : ReadAll A) → ExactMembers m read → ExactMembers (told tell m) (told_at tell read)
  exact_told m read x = record {
    takes = λ p b bytes d.
        let r = bind_ok (read p) (λ a. Ok (tell a)) b d in
        (r.0, x.takes p r.0 bytes r.1, ok_is (tell r.0) b r.2);
    again = λ p b s. ap (λ (r : Result A Fault). r >>= λ a. Ok (tell a)) (x.again p s.0 s.1) ∙ ap (λ (c : B). Ok c) s.2;
    faults = λ p f bytes d. x.faults p f bytes (mapped_err (read p) tell f d);
    refuses = λ p f d. ap (λ (r : Result A Fault). r >>= λ a. Ok (tell a)) (x.refuses p f d);
  }

  pub exact_told_content : (c : Content A) (read : ReadContent A) → ExactContent c read → ExactContent (told_content tell c) (told_content_at tell read)
  exact_told_content c read x = record {
    takes = λ at p b bytes d.
        let r = bind_ok (read at p) (λ a. Ok (tell a)) b d in
        (r.0, x.takes at p r.0 bytes r.1, ok_is (tell r.0) b r.2);
    again = λ at p b s. ap (λ (r : Result A Fault). r >>= λ a. Ok (tell a)) (x.again at p s.0 s.1) ∙ ap (λ (c : B). Ok c) s.2;
    faults = λ at p f bytes d. x.faults at p f bytes (mapped_err (read at p) tell f d);
    refuses = λ at p f d. ap (λ (r : Result A Fault). r >>= λ a. Ok (tell a)) (x.refuses at p f d);
  }

-- one member, and the end
pub exact_sole : {V : Type 0} (number : ℕ) (e : Element V) (read : Read V) → ExactElement e read → ExactMembers (sole number e) (sole_at number read)
exact_sole {V} number e read x =
    exact_told {A = V × Unit {0}} first_part (member e (λ _. nothing (λ bytes. number))) (read_member read (λ _. nothing_at (λ bytes. number)))
    (exact_member e read x (λ _. nothing (λ bytes. number)) (λ _. nothing_at (λ bytes. number)) (λ _. exact_nothing (λ bytes. number)))

pub exact_one : {V : Type 0} (number : ℕ) (e : Element V) (read : Read V) → ExactElement e read → ExactContent (holding_one number e) (one_of number read)
exact_one number e read x = exact_constructed (not_empty number) (sole number e) (sole_at number read) no_rules (exact_sole number e read x)

-- whatever there is
pub exact_anything : ExactMembers anything anything_at
exact_anything = record {
  takes = λ p v bytes d. ok_is p.rest v d;
  again = λ p v s. ap (λ (l : List ℕ). Ok l) s;
  faults = λ p f bytes d. absurd cc;
  refuses = λ p f d. absurd d;
}

-- ---- octets as they stand

-- what is in front of a place
front_is : (bytes front rest : List ℕ) → bytes ≡ front ++ rest → take (length bytes - length rest) bytes ≡ front
front_is bytes front rest e =
    let n : length bytes - length rest ≡ length front = omega (arith, ap (λ (l : List ℕ). length l) e, length-append front rest) in
    ap (λ k. take k bytes) n ∙ ap (λ (l : List ℕ). take (length front) l) e ∙ take-append_seam front rest

module _ {V : Type 0} where
  -- a value with the octets
  with_value : List ℕ → V → List ℕ × V
  with_value octets v = (octets, v)

  pub exact_octets : (c : Content V) (read : ReadContent V) → ExactContent c read → ExactContent (with_octets c) (with_octets_at read)
  unfolding with_value
  exact_octets c read x = record {
    takes = λ at p v bytes d.
        let r = bind_ok (read at p) (λ a. Ok (p.rest, a)) v d in
        subst (λ (w : List ℕ × V). (p.rest ≡ w.0) × c.Spells w.1 p.rest) (ok_is (with_value p.rest r.0) v r.2) (refl, x.takes at p r.0 bytes r.1);
    again = λ at p v s. ap (λ (r : Result V Fault). r >>= λ a. Ok (p.rest, a)) (x.again at p v.1 s.1) ∙ ap (λ (l : List ℕ). Ok (with_value l v.1)) s.0;
    faults = λ at p f bytes d. x.faults at p f bytes (mapped_err (read at p) (with_value p.rest) f d);
    refuses = λ at p f d. ap (λ (r : Result V Fault). r >>= λ a. Ok (p.rest, a)) (x.refuses at p f d);
  }

  -- a value with the octets of its element, and the next place
  standing_here : Place → V × Place → (List ℕ × V) × Place
  standing_here p x = ((take (length p.rest - length x.1.rest) p.rest, x.0), x.1)

  pub exact_standing : (e : Element V) (read : Read V) → ExactElement e read → ExactElement (standing e) (standing_at read)
  unfolding standing_here with_value
  exact_standing e read x = record {
    takes = λ p v q bytes d.
        let r = bind_ok (read p) (λ y. Ok (standing_here p y)) (v, q) d in
        let t = x.takes p r.0.0 r.0.1 bytes r.1 in
        let whole : Stands (standing e).Spells p (standing_here p r.0).0 r.0.1 =
        record { front = t.front; parts = t.parts; spelled = (sym (front_is p.rest t.front r.0.1.rest t.parts), t.spelled); behind = t.behind } in
        subst (λ (y : (List ℕ × V) × Place). Stands (standing e).Spells p y.0 y.1) (ok_is (standing_here p r.0) (v, q) r.2) whole;
    again = λ at v front rest s.
        let p = place_of at (front ++ rest) in
        ap (λ (r : Result (V × Place) Fault). r >>= λ y. Ok (standing_here p y)) (x.again at v.1 front rest s.1)
        ∙ ap (λ (l : List ℕ). Ok (with_value l v.1, behind at front rest)) (front_is (front ++ rest) front rest refl ∙ s.0);
    faults = λ p f bytes d. x.faults p f bytes (mapped_err (read p) (standing_here p) f d);
    refuses = λ p f d. ap (λ (r : Result (V × Place) Fault). r >>= λ y. Ok (standing_here p y)) (x.refuses p f d);
    some = λ v front s. x.some v.1 front s.1;
  }

-- ---- one of two

-- the front begins as the whole does
same_begin : (tag : ℕ) (bytes front rest : List ℕ) → bytes ≡ front ++ rest → 0 < length front → begins tag front ≡ begins tag bytes
same_begin tag bytes [] rest e more = absurd (omega (arith, more))
same_begin tag bytes (first ∷ front) rest e more = ap (begins tag) (sym e)

module _ {V : Type 0} (tag : ℕ) (first second : Element V) (read other : Read V) (x : ExactElement first read) (y : ExactElement second other) where
  -- what is spelled is read so
  either_again : (at : ℕ) (v : V) (front rest : List ℕ) → (either tag first second).Spells v front → either_at tag read other (place_of at (front ++ rest)) ≡ Ok (v, behind at front rest)
  either_again at v front rest (inl s) =
      let b : begins tag (front ++ rest) ≡ true = sym (same_begin tag (front ++ rest) front rest refl (x.some v front s.1)) ∙ s.0 in
      rw b (x.again at v front rest s.1)
  either_again at v front rest (inr s) =
      let b : begins tag (front ++ rest) ≡ false = sym (same_begin tag (front ++ rest) front rest refl (y.some v front s.1)) ∙ s.0 in
      rw b (y.again at v front rest s.1)

  either_refuses : (p : Place) (f : Fault) → (either tag first second).FaultAt p f → either_at tag read other p ≡ Err f
  either_refuses p f (inl s) = rw s.0 (x.refuses p f s.1)
  either_refuses p f (inr s) = rw s.0 (y.refuses p f s.1)

  either_some : (v : V) (front : List ℕ) → (either tag first second).Spells v front → 0 < length front
  either_some v front (inl s) = x.some v front s.1
  either_some v front (inr s) = y.some v front s.1

  pub exact_either : ExactElement (either tag first second) (either_at tag read other)
  exact_either = record {
    takes = λ p v q bytes d.
        elim (choice (begins tag p.rest) (read p) (other p) (Ok (v, q)) d) [
          | inl k ↦
              let t = x.takes p v q bytes k.1 in
              record { front = t.front; parts = t.parts; spelled = inl (same_begin tag p.rest t.front q.rest t.parts (x.some v t.front t.spelled) ∙ k.0, t.spelled); behind = t.behind }
          | inr k ↦
              let t = y.takes p v q bytes k.1 in
              record { front = t.front; parts = t.parts; spelled = inr (same_begin tag p.rest t.front q.rest t.parts (y.some v t.front t.spelled) ∙ k.0, t.spelled); behind = t.behind }
        ];
    again = either_again;
    faults = λ p f bytes d.
        elim (choice (begins tag p.rest) (read p) (other p) (Err f) d) [ inl k ↦ inl (k.0, x.faults p f bytes k.1) | inr k ↦ inr (k.0, y.faults p f bytes k.1) ];
    refuses = either_refuses;
    some = either_some;
  }

-- ---- a content that spells a value, or a fault

module _ {V : Type 0} (number : ℕ) (Spells : V → List ℕ → Type 0) (find : List ℕ → Option V) (found : (bytes : List ℕ) (v : V) → IsBytes bytes → find bytes ≡ Some v → Spells v bytes) (again : (bytes : List ℕ) (v : V) → Spells v bytes → find bytes ≡ Some v) where
  -- what was found, or nothing was
  given : (at : ℕ) (o : Option V) (v : V) → or_fault number at o ≡ Ok v → o ≡ Some v
  given at (Some w) v e = ap (λ (u : V). Some u) (ok_is w v e)
  given at None v e = absurd cc

  denied : (at : ℕ) (o : Option V) (f : Fault) → or_fault number at o ≡ Err f → (o ≡ None) × (f ≡ fault_at number at)
  denied at (Some w) f e = absurd cc
  denied at None f e = (refl, sym (err_is {A = V} (fault_at number at) f e))

  none_found : (at : ℕ) (bytes : List ℕ) (o : Option V) → find bytes ≡ o → IsBytes bytes → ((v : V) → ¬ (Spells v bytes)) → or_fault number at o ≡ Err (fault_at number at)
  none_found at bytes (Some v) e are none = absurd (none v (found bytes v are e))
  none_found at bytes None e are none = refl

  pub exact_spelling : ExactContent (spelling number Spells) (λ at inner. or_fault number at (find inner.rest))
  exact_spelling = record {
    takes = λ at p v bytes d. found p.rest v bytes (given at (find p.rest) v d);
    again = λ at p v s. ap (or_fault number at) (again p.rest v s);
    faults = λ at p f bytes d.
        let k = denied at (find p.rest) f d in
        (bytes, (λ v s. let h : find p.rest ≡ Some v = again p.rest v s in let g = k.0 in cc), k.1);
    refuses = λ at p f h. none_found at p.rest (find p.rest) refl h.0 h.1 ∙ ap (λ (g : Fault). Err g) (sym h.2);
  }

-- ---- one of two ways to go on

pub exact_branch : {V : Type 0} (tag : ℕ) (first second : Members V) (read other : ReadAll V) → ExactMembers first read → ExactMembers second other → ExactMembers (branch tag first second) (branch_at tag read other)
exact_branch {V} tag first second read other x y = record {
  takes = λ p v bytes d.
      elim (choice (begins tag p.rest) (read p) (other p) (Ok v) d) [ inl k ↦ inl (k.0, x.takes p v bytes k.1) | inr k ↦ inr (k.0, y.takes p v bytes k.1) ];
  again = λ p v s. elim s [ inl k ↦ rw k.0 (x.again p v k.1) | inr k ↦ rw k.0 (y.again p v k.1) ];
  faults = λ p f bytes d.
      elim (choice (begins tag p.rest) (read p) (other p) (Err f) d) [ inl k ↦ inl (k.0, x.faults p f bytes k.1) | inr k ↦ inr (k.0, y.faults p f bytes k.1) ];
  refuses = λ p f s. elim s [ inl k ↦ rw k.0 (x.refuses p f k.1) | inr k ↦ rw k.0 (y.refuses p f k.1) ];
}

pub exact_maybe : {A B : Type 0} (tag : ℕ) (e : Element A) (read : Read A) → ExactElement e read → (others : Option A → Members B) (rest : Option A → ReadAll B) → ((a : Option A) → ExactMembers (others a) (rest a))
    → ExactMembers (maybe tag e others) (maybe_at tag read rest)
exact_maybe {A} {B} tag e read x others rest y =
    exact_branch tag (told {A = A × B} present (member e (λ a. others (Some a)))) (told absent (others None)) (told_at present (read_member read (λ a. rest (Some a)))) (told_at absent (rest None))
    (exact_told {A = A × B} present (member e (λ a. others (Some a))) (read_member read (λ a. rest (Some a))) (exact_member e read x (λ a. others (Some a)) (λ a. rest (Some a)) (λ a. y (Some a))))
    (exact_told absent (others None) (rest None) (y None))

-- ---- an element of which a part is kept

module _ {A B : Type 0} (tell : A → B) where
  -- a part, and the next place
  told_next : A × Place → B × Place
  told_next x = (tell x.0, x.1)

  pub exact_told_element : (e : Element A) (read : Read A) → ExactElement e read → ExactElement (told_element tell e) (told_element_at tell read)
  unfolding told_next
  exact_told_element e read x = record {
    takes = λ p b q bytes d.
        let r = bind_ok (read p) (λ y. Ok (told_next y)) (b, q) d in
        let t = x.takes p r.0.0 r.0.1 bytes r.1 in
        let s : Stands (told_element tell e).Spells p (tell r.0.0) r.0.1 = record { front = t.front; parts = t.parts; spelled = (r.0.0, t.spelled, refl); behind = t.behind } in
        subst (λ (y : B × Place). Stands (told_element tell e).Spells p y.0 y.1) (ok_is (told_next r.0) (b, q) r.2) s;
    again = λ at b front rest s.
        ap (λ (r : Result (A × Place) Fault). r >>= λ y. Ok (told_next y)) (x.again at s.0 front rest s.1) ∙ ap (λ (c : B). Ok (c, behind at front rest)) s.2;
    faults = λ p f bytes d. x.faults p f bytes (mapped_err (read p) told_next f d);
    refuses = λ p f d. ap (λ (r : Result (A × Place) Fault). r >>= λ y. Ok (told_next y)) (x.refuses p f d);
    some = λ b front s. x.some s.0 front s.1;
  }
