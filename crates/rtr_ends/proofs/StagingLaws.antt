-- What records that are staged lead to, record by record.
use Rattle.rtr_ends.proofs.Words.{◌≡◌, ℕ, ◌+◌, ◌-◌, ◌≤◌, ◌<◌, Bool, true, false, not, ◌&&◌, ◌||◌, nat_lt, List, [], ◌∷◌, Some, Result, Ok, Err, IfOk, IsErrOf, refl, sym, ap, ◌∙◌, subst, arith, or-true, and-false, nat_tests, tells_apart, eq_by_cmp_equiv, AllByRecursion, Payload, vrp_total, vrp_exact, VrpSet, empty, has, set_of, size, union, with_member, without, SetFault, TooMany, Memory, has-empty, has-set_of, has-union, has-with_member, has-without, same_set, same_vrp, lt_true, false_of_not, or_swap, true_of_not, size_le, size_more}
use Rattle.rtr_ends.specs.RouterLink as linked
use Rattle.rtr_ends.specs.LinkRules.{Router}
use Rattle.rtr_ends.specs.Seen.{Does, IsStaged, ShowsRouter, begun_with, seen_question}
use Rattle.rtr_ends.specs.Staging.{GoesTo, LeadsToSet}
use Rattle.rtr_ends.specs.Transcript.{Begun, acts_once, base_of, is_among, led_to, may_announce, may_withdraw}
use Rattle.rtr_ends.specs.declared.machine.Machine.{Machine}
use Rattle.rtr_ends.specs.declared.machine.State.TheVariants as states
use Rattle.rtr_ends.specs.declared.question.Question.{Question}
use Rattle.rtr_ends.specs.declared.staging.Staging.{Staging}
use Rattle.rtr_ends.specs.declared.staging.Staged.TheVariants.{Stays, Wrong}
use Rattle.rtr_ends.proofs.TableLaws.{acts_exactly, false_true}

-- what a staged set has
module _ (base : VrpSet) (w a : List Payload) where
  has-led : (q : Payload) → has (led_to base w a) q ≡ ((has base q && not (is_among q w)) || is_among q a)
  unfolding led_to
  has-led q = has-union (without base (set_of w)) (set_of a) q ∙ (λ i. (has-without base (set_of w) q ∙ ap (λ b. has base q && not b) (has-set_of w q)) i || has-set_of a q i)

-- Nothing is staged.
none_staged : (b : Bool) → ((b && true) || false) ≡ b
none_staged true = refl
none_staged false = refl

pub led_none : (base : VrpSet) → led_to base [] [] ≡ base
led_none base = same_set _ _ (λ q. has-led base [] [] q ∙ none_staged (has base q))

-- A record more is announced.
pub led_announced : (base : VrpSet) (w a : List Payload) (v : Payload) → led_to base w (v ∷ a) ≡ with_member (led_to base w a) v
led_announced base w a v = same_set _ _ (λ q.
    has-led base w (v ∷ a) q ∙ or_swap (has base q && not (is_among q w)) (same_vrp q v) (is_among q a)
    ∙ ap (λ b. same_vrp q v || b) (sym (has-led base w a q)) ∙ sym (has-with_member (led_to base w a) v q))

-- A record more is withdrawn.
pub led_withdrawn : (base : VrpSet) (w a : List Payload) (v : Payload) → has base v ≡ true → is_among v w ≡ false → led_to base w a ≡ with_member (led_to base (v ∷ w) a) v
led_withdrawn base w a v known fresh = same_set _ _ (λ q.
    has-led base w a q ∙ by_tie q (same_vrp q v) refl ∙ ap (λ b. same_vrp q v || b) (sym (has-led base (v ∷ w) a q)) ∙ sym (has-with_member (led_to base (v ∷ w) a) v q))
  where
    by_tie : (q : Payload) (b : Bool) → same_vrp q v ≡ b → ((has base q && not (is_among q w)) || is_among q a) ≡ (same_vrp q v || ((has base q && not (same_vrp q v || is_among q w)) || is_among q a))
    by_tie q true is =
        let same : q ≡ v = tells_apart vrp_exact q v is in
        (λ i. ((ap (λ x. has base x) same ∙ known) i && not ((ap (λ x. is_among x w) same ∙ fresh) i)) || is_among q a)
        ∙ sym (ap (λ b. b || ((has base q && not (b || is_among q w)) || is_among q a)) is)
    by_tie q false is = sym (ap (λ b. b || ((has base q && not (b || is_among q w)) || is_among q a)) is)

-- What is announced is none of the base.
not_announced : (base : VrpSet) (v : Payload) (a : List Payload) → AllByRecursion (λ x. has base x ≡ false) a → has base v ≡ true → is_among v a ≡ false
not_announced base v [] h known = refl
not_announced base v (x ∷ a) h known = λ i. apart (same_vrp v x) refl i || not_announced base v a h.1 known i
  where
    apart : (b : Bool) → same_vrp v x ≡ b → same_vrp v x ≡ false
    apart false is = is
    apart true is = false_true (sym h.0 ∙ ap (λ y. has base y) (sym (tells_apart vrp_exact v x is)) ∙ known)

announced_apart : (base : VrpSet) (w a : List Payload) (v : Payload) → acts_once base w a ≡ true → has base v ≡ true → is_among v a ≡ false
announced_apart base w a v once known = not_announced base v a ((acts_exactly base w a).0 once).unknown known

-- The sizes
pub size_announced : (base : VrpSet) (w a : List Payload) (v : Payload) → has base v ≡ false → is_among v a ≡ false → size (led_to base w (v ∷ a)) ≡ size (led_to base w a) + 1
size_announced base w a v out fresh =
    ap (λ s. size s) (led_announced base w a v) ∙ size_more (led_to base w a) v (has-led base w a v ∙ (λ i. (out i && not (is_among v w)) || fresh i))

pub size_withdrawn : (base : VrpSet) (w a : List Payload) (v : Payload) → acts_once base w a ≡ true → has base v ≡ true → is_among v w ≡ false → size (led_to base w a) ≡ size (led_to base (v ∷ w) a) + 1
size_withdrawn base w a v once known fresh =
    ap (λ s. size s) (led_withdrawn base w a v known fresh)
    ∙ size_more (led_to base (v ∷ w) a) v (has-led base (v ∷ w) a v ∙ gone (same_vrp v v) ((eq_by_cmp_equiv vrp_total).refl v) (is_among v a) (announced_apart base w a v once known))
  where
    gone : (s : Bool) → s ≡ true → (l : Bool) → l ≡ false → ((has base v && not (s || is_among v w)) || l) ≡ false
    gone s is l none = (λ i. (has base v && not (is i || is_among v w)) || none i) ∙ ap (λ b. b || false) (and-false (has base v))

-- An answer begins, with nothing staged.
pub begins : (q : Question) (session count : ℕ) (old new : Machine) → count ≡ size (base_of (seen_question q) old.table) → count ≤ 16777215 → (s : Staging) → s ≡ record { withdrawn = empty; announced = empty; count = count }
    → new ≡ record old { agreed = true; session = Some session; staging = s; state = states.Answering q session }
    → Does (λ r. record r { agreed = true; session = Some session; link = linked.Answering (begun_with q session [] []) }) old new
begins q session count old new is fits s made e r shows =
    subst (λ n. ShowsRouter (record r { agreed = true; session = Some session; link = linked.Answering (begun_with q session [] []) }) n) (sym e)
    (record {
      withdrawn = [];
      announced = [];
      staged = subst (λ x. IsStaged (base_of (seen_question q) old.table) [] [] x) (sym made) (record {
        withdrawn_are = refl;
        announced_are = refl;
        once = refl;
        count = is ∙ ap (λ x. size x) (sym (led_none (base_of (seen_question q) old.table)));
        fits = fits;
      });
      is = ap (λ (x : Router). record x { agreed = true; session = Some session; link = linked.Answering (begun_with q session [] []) }) shows.is;
    })

module _ (most : ℕ) (base : VrpSet) (b : Begun) (v : Payload) (s : Staging) (st : IsStaged base b.withdrawn b.announced s) where
  listed_withdrawn : (found : Bool) → found ≡ has s.withdrawn v → is_among v b.withdrawn ≡ found
  listed_withdrawn found is = sym (is ∙ ap (λ x. has x v) st.withdrawn_are ∙ has-set_of b.withdrawn v)

  listed_announced : (found : Bool) → found ≡ has s.announced v → is_among v b.announced ≡ found
  listed_announced found is = sym (is ∙ ap (λ x. has x v) st.announced_are ∙ has-set_of b.announced v)

  pub twice_withdrawn : (new : Staging) → has s.withdrawn v ≡ true → GoesTo most base b false v (Ok (Wrong 6)) new
  twice_withdrawn new found = rw (listed_withdrawn true (sym found), and-false (has base v)) refl

  pub lacks_withdrawn : (new : Staging) → has base v ≡ true → has s.withdrawn v ≡ false → GoesTo most base b false v (Err Memory) new
  lacks_withdrawn new known fresh = rw (known, listed_withdrawn false (sym fresh)) tt

  pub stays_withdrawn : (set : VrpSet) (count : ℕ) → has base v ≡ true → has s.withdrawn v ≡ false → set ≡ with_member s.withdrawn v → count ≡ s.count - 1
      → GoesTo most base b false v (Ok Stays) (record s { withdrawn = set; count = count })
  stays_withdrawn set count known fresh more less =
      rw (known, unlisted) (staged, refl, refl)
    where
      unlisted : is_among v b.withdrawn ≡ false
      unlisted = listed_withdrawn false (sym fresh)

      sized : size (led_to base b.withdrawn b.announced) ≡ size (led_to base (v ∷ b.withdrawn) b.announced) + 1
      sized = size_withdrawn base b.withdrawn b.announced v st.once known unlisted

      staged : IsStaged base (v ∷ b.withdrawn) b.announced (record s { withdrawn = set; count = count })
      staged = record {
        withdrawn_are = more ∙ ap (λ x. with_member x v) st.withdrawn_are;
        announced_are = st.announced_are;
        once = (λ i. ((known i && not (unlisted i)) && may_withdraw base b.withdrawn) && may_announce base b.announced) ∙ st.once;
        count = omega (arith, less, st.count, sized);
        fits = omega (arith, less, st.fits);
      }

  pub twice_announced : (new : Staging) → has s.announced v ≡ true → GoesTo most base b true v (Ok (Wrong 7)) new
  twice_announced new found = rw (listed_announced true (sym found), or-true (has base v)) refl

  module _ (out : has base v ≡ false) (fresh : has s.announced v ≡ false) where
    unlisted_so : is_among v b.announced ≡ false
    unlisted_so = listed_announced false (sym fresh)

    more_so : size (led_to base b.withdrawn (v ∷ b.announced)) ≡ s.count + 1
    more_so = size_announced base b.withdrawn b.announced v out unlisted_so ∙ ap (λ n. n + 1) (sym st.count)

    pub over_announced : (new : Staging) → most ≤ s.count → GoesTo most base b true v (Err TooMany) new
    over_announced new full = rw (out, unlisted_so, more_so, lt_true most (s.count + 1) (omega (arith, full))) tt

    fits_so : s.count < most → nat_lt most (size (led_to base b.withdrawn (v ∷ b.announced))) ≡ false
    fits_so room = rw more_so (grind (arith, nat_tests))

    pub lacks_announced : (new : Staging) → s.count < most → GoesTo most base b true v (Err Memory) new
    lacks_announced new room = rw (out, unlisted_so, fits_so room) tt

    pub stays_announced : (set : VrpSet) (count : ℕ) → most ≤ 16777215 → s.count < most → set ≡ with_member s.announced v → count ≡ s.count + 1
        → GoesTo most base b true v (Ok Stays) (record s { announced = set; count = count })
    stays_announced set count few room more one =
        rw (out, unlisted_so, fits_so room) (staged, refl, refl)
      where
        once : (w : Bool) → (w && may_announce base b.announced) ≡ true → (w && ((not (has base v) && not (is_among v b.announced)) && may_announce base b.announced)) ≡ true
        once w h = (λ i. w && ((not (out i) && not (unlisted_so i)) && may_announce base b.announced)) ∙ h

        staged : IsStaged base b.withdrawn (v ∷ b.announced) (record s { announced = set; count = count })
        staged = record {
          withdrawn_are = st.withdrawn_are;
          announced_are = more ∙ ap (λ x. with_member x v) st.announced_are;
          once = once (may_withdraw base b.withdrawn) st.once;
          count = one ∙ sym more_so;
          fits = omega (arith, one, room, few);
        }

-- Sets that are staged fit.
module _ (base : VrpSet) (b : Begun) (s : Staging) (st : IsStaged base b.withdrawn b.announced s) where
  pub led_is : union (without base s.withdrawn) s.announced ≡ led_to base b.withdrawn b.announced
  unfolding led_to
  led_is = λ i. union (without base (st.withdrawn_are i)) (st.announced_are i)

  pub led_fits : size (union (without base s.withdrawn) s.announced) ≤ 16777215
  led_fits = let is = ap (λ x. size x) led_is in omega (arith, is, st.count, st.fits)

  pub announced_fit : size s.announced ≤ 16777215
  announced_fit =
      let le = size_le s.announced (union (without base s.withdrawn) s.announced) (λ q one. has-union (without base s.withdrawn) s.announced q ∙ ap (λ x. has (without base s.withdrawn) q || x) one ∙ or-true (has (without base s.withdrawn) q)) in
      omega (arith, le, led_fits)

  by_tie : (w : List Payload) (q x : Payload) (t : Bool) → has base x ≡ true → (is_among q w ≡ true → has base q ≡ true) → same_vrp q x ≡ t → (t || is_among q w) ≡ true → has base q ≡ true
  by_tie w q x true known later is one = ap (λ y. has base y) (tells_apart vrp_exact q x is) ∙ known
  by_tie w q x false known later is one = later one

  known_all : (w : List Payload) → AllByRecursion (λ x. has base x ≡ true) w → (q : Payload) → is_among q w ≡ true → has base q ≡ true
  known_all [] h q one = false_true one
  known_all (x ∷ w) h q one = by_tie w q x (same_vrp q x) h.0 (known_all w h.1 q) refl one

  pub withdrawn_fit : size base ≤ 16777215 → size s.withdrawn ≤ 16777215
  withdrawn_fit most =
      let known = ((acts_exactly base b.withdrawn b.announced).0 st.once).known in
      let le = size_le s.withdrawn base (λ q one. known_all b.withdrawn known q (sym (has-set_of b.withdrawn q) ∙ ap (λ x. has x q) (sym st.withdrawn_are) ∙ one)) in
      omega (arith, le, most)

error_is : {T E : Type 0} (x t : E) → ◌≡◌ {A = Result T E} (Err x) (Err t) → x ≡ t
error_is x t h = cc

-- the error that a `?` hands on
pub same_error : {T S E : Type 0} (r : Result T E) (q : Result S E) (x y t : E) → r ≡ Err x → x ≡ y → q ≡ Err y → r ≡ Err t → q ≡ Err t
same_error {T = T} r q x y t a b d e = d ∙ ap Err (sym b ∙ error_is {T = T} x t (sym a ∙ e))

-- The end of an answer, from nothing and from a table
led_empty : (w a : List Payload) → led_to empty w a ≡ set_of a
led_empty w a = same_set _ _ (λ q. has-led empty w a q ∙ ap (λ b. (b && not (is_among q w)) || is_among q a) (has-empty q) ∙ sym (has-set_of a q))

pub leads_from_nothing : (b : Begun) (s : Staging) (result : Result VrpSet SetFault) → IfOk result (λ table. table ≡ s.announced) → ¬ (IsErrOf result TooMany) → IsStaged empty b.withdrawn b.announced s → LeadsToSet empty b result
leads_from_nothing b s (Ok table) is fits st = is ∙ st.announced_are ∙ sym (led_empty b.withdrawn b.announced)
leads_from_nothing b s (Err Memory) is fits st = refl
leads_from_nothing b s (Err TooMany) is fits st = absurd (fits refl)

pub leads_from : (base : VrpSet) (b : Begun) (s : Staging) (result : Result VrpSet SetFault) → IfOk result (λ table. table ≡ union (without base s.withdrawn) s.announced) → ¬ (IsErrOf result TooMany)
    → IsStaged base b.withdrawn b.announced s → LeadsToSet base b result
leads_from base b s (Ok table) is fits st = is ∙ led_is base b s st
leads_from base b s (Err Memory) is fits st = refl
leads_from base b s (Err TooMany) is fits st = absurd (fits refl)

-- whether a record was new
pub was_new : (b added : Bool) → added ≡ not b → added ≡ true → b ≡ false
was_new b added e h = false_of_not b (sym e ∙ h)

pub was_there : (b added : Bool) → added ≡ not b → added ≡ false → b ≡ true
was_there b added e h = true_of_not b (sym e ∙ h)
