-- What the cursor reads is what the grammar of its element says.
use Rattle.std.proofs.Common.{◌≡◌, ℕ, Bool, List, [], ◌++◌, Result, Ok, Err, refl, sym, ap, subst, ◌∙◌, inl, inr}
use Rattle.der_lite.specs.Place.{Place, Fault, place_of}
use Rattle.der_lite.specs.Der.{IsBytes, head_rules, tlv}
use Rattle.der_lite.specs.Grammar.{Element, Breaks, inside, primitive, plain}
use Rattle.der_lite.specs.DerReading.{◌>>=◌, judged, element_at, content_at, content_place, next_place}
use Rattle.der_lite.specs.Decoding.{Read, ReadContent, read_element, read_primitive}
use Rattle.der_lite.specs.DerLaws.{Found}
use Rattle.der_lite.proofs.Rules.{judged-bind, judged-kept, judged_ok, judged_err, judged_breaks, ok_is}
use Rattle.der_lite.proofs.Elements.{Opens, behind, stands, stands_again}
use Rattle.der_lite.proofs.Exact.{ExactElement, IsHead, exact_element, exact_primitive, next_is}

-- the usual rules of a head
pub usual_head : (tag : ℕ) → IsHead tag (head_rules tag)
usual_head tag = record { usual = λ bytes h. h; keeps = λ bytes h. h }

-- an element as a cursor reads it: the head first, and then the content at its own place
pub element_is : {V : Type 0} (tag : ℕ) (content : ReadContent V) (p : Place) → read_element (head_rules tag) content p ≡ (element_at tag p >>= λ x. content p.at x.0 >>= λ v. Ok (v, x.1))
unfolding element_at
element_is tag content p = sym (judged-bind (head_rules tag p.rest) p.at (Ok (content_place p, next_place p)) (λ x. content p.at x.0 >>= λ v. Ok (v, x.1)))

-- reading in another way that gives the same
pub exact_along : {V : Type 0} (e : Element V) (read other : Read V) → ((p : Place) → read p ≡ other p) → ExactElement e read → ExactElement e other
exact_along e read other same x = record {
  takes = λ p v q bytes d. x.takes p v q bytes (same p ∙ d);
  again = λ at v front rest s. sym (same (place_of at (front ++ rest))) ∙ x.again at v front rest s;
  faults = λ p f bytes d. x.faults p f bytes (same p ∙ d);
  refuses = λ p f d. sym (same p) ∙ x.refuses p f d;
  some = x.some;
}

-- the content of a primitive element, as it is
pub plain_is : (tag : ℕ) (rules : List ℕ → List (ℕ × Bool)) (p : Place) → read_element (head_rules tag) (read_primitive rules (λ inner. inner)) p ≡ content_at tag rules p
unfolding content_at element_at
plain_is tag rules p =
    let inner = (content_place p).rest in
    let with_next : List ℕ → Result (List ℕ × Place) Fault = λ v. Ok (v, next_place p) in
    let at_places : Place × Place → Result (List ℕ × Place) Fault = λ x. judged (rules x.0.rest) p.at (Ok (x.0.rest, x.1)) in
    ap (λ (r : Result (List ℕ × Place) Fault). judged (head_rules tag p.rest) p.at r) (judged-bind (rules inner) p.at (Ok inner) with_next)
    ∙ sym (judged-bind (head_rules tag p.rest) p.at (Ok (content_place p, next_place p)) at_places)

-- reading it is exact
pub exact_plain : (tag : ℕ) (rules : List ℕ → List (ℕ × Bool)) → ExactElement (plain tag rules) (content_at tag rules)
exact_plain tag rules =
    let read = read_primitive rules (λ inner. inner) in
    let c = exact_primitive (λ content inner. content ≡ inner) rules (λ inner. inner) (λ inner bytes k. refl) (λ inner v k s. sym s) in
    exact_along (plain tag rules) (read_element (head_rules tag) read) (content_at tag rules) (plain_is tag rules)
    (exact_element tag (head_rules tag) (primitive (λ content inner. content ≡ inner) rules) read (usual_head tag) c)

-- ---- laws

-- a content has one spelling
pub plain_once : (tag : ℕ) (rules : List ℕ → List (ℕ × Bool)) (v a b : List ℕ) → (plain tag rules).Spells v a → (plain tag rules).Spells v b → a ≡ b
plain_once tag rules v a b s t = s.1.spelled ∙ ap (λ (l : List ℕ). tlv tag l) (sym s.2.0 ∙ t.2.0) ∙ sym t.1.spelled

-- what is opened is there
pub opens_found : (tag : ℕ) (p inner next : Place) → IsBytes p.rest → element_at tag p ≡ Ok (inner, next) → Found tag (λ content. []) p inner.rest next × (inner ≡ inside p.at inner.rest)
unfolding element_at
opens_found tag p inner next bytes e =
    let j = judged_ok (head_rules tag p.rest) p.at (Ok (content_place p, next_place p)) (inner, next) e in
    let s = subst (λ (x : Place × Place). Opens tag p x.0 x.1) (ok_is (content_place p, next_place p) (inner, next) j.1) (stands tag p bytes j.0) in
    (record { front = tlv tag inner.rest; parts = s.parts; spelled = (inner.rest, record { short = s.short; spelled = refl }, (refl, refl)); behind = ap (λ (x : Place). x.at) s.r_is }, s.q_is)

-- what is there is opened
pub found_opens : (tag : ℕ) (p inner next : Place) → Found tag (λ content. []) p inner.rest next → inner ≡ inside p.at inner.rest → element_at tag p ≡ Ok (inner, next)
unfolding element_at
found_opens tag p inner next h inner_is =
    let content = h.spelled.0 in
    let same : content ≡ inner.rest = sym h.spelled.2.0 in
    let a = stands_again tag p.at content next.rest h.spelled.1.short in
    let q = place_of p.at (tlv tag content ++ next.rest) in
    let place : p ≡ q = ap (place_of p.at) (h.parts ∙ ap (λ (l : List ℕ). l ++ next.rest) h.spelled.1.spelled) in
    let first : content_place q ≡ inner = a.content_is ∙ ap (λ (l : List ℕ). inside p.at l) same ∙ sym inner_is in
    let second : next_place q ≡ next = a.next_is ∙ ap (λ (l : List ℕ). behind p.at l next.rest) (sym h.spelled.1.spelled) ∙ sym (next_is p next inner.rest h) in
    ap (element_at tag) place
    ∙ judged-kept (head_rules tag q.rest) q.at (Ok (content_place q, next_place q)) a.kept
    ∙ ap (λ (x : Place). Ok (x, next_place q)) first ∙ ap (λ (x : Place). Ok (inner, x)) second

-- a fault at opening is that of the head
pub opens_breaks : (tag : ℕ) (p : Place) (f : Fault) → element_at tag p ≡ Err f → Breaks (head_rules tag p.rest) p.at f
unfolding element_at
opens_breaks tag p f e = elim (judged_err (head_rules tag p.rest) p.at (Ok (content_place p, next_place p)) f e) [ inl b ↦ b | inr k ↦ absurd (let h = k.1 in cc) ]

-- and such a fault is read
pub breaks_opens : (tag : ℕ) (p : Place) (f : Fault) → Breaks (head_rules tag p.rest) p.at f → element_at tag p ≡ Err f
unfolding element_at
breaks_opens tag p f b = judged_breaks (head_rules tag p.rest) p.at (Ok (content_place p, next_place p)) f b
