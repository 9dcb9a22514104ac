-- A whole answer leads from its base to its version.
use Rattle.rtr_world.proofs.Words.{◌≡◌, ℕ, ◌≤◌, Bool, true, false, not, ◌&&◌, ◌||◌, nat_lt, List, [], ◌∷◌, ◌++◌, map, if◌then◌else◌, refl, sym, ap, ◌∙◌, subst, arith, AllByRecursion, eq_by_cmp, nat_tests, Payload, vrp_cmp, vrp_total, VrpSet, has, size, set_of, without, same_set, has-union, has-without, has-set_of, Unit, is_notify, false_true, SerialNotify, Prefix, Version, V0, V1, end_of_data, Stays, Wrong, Over, stage, Intervals, Begun, Question, is_among, led_to, Commits, or-false, or_assoc, eq_by_cmp_equiv, or_swap, size_le}
use Rattle.std.specs.List.{IsDistinct}
use Rattle.rtr_world.specs.OneAnswer.{NotifiesOf, without_notifies}
use Rattle.rtr_world.proofs.Invariant.{after_stage, Leads, nothing_yet}

-- PDUs of which none is a notify
abbrev pub Plain : List Unit → Type 0
Plain units = AllByRecursion (λ u. is_notify u ≡ false) units

pub plain_stays : (units : List Unit) → Plain units → without_notifies units ≡ units
plain_stays [] h = refl
plain_stays (SerialNotify session serial ∷ units) h = false_true (sym h.0)
plain_stays (u ∷ units) h = ap (λ x. u ∷ x) (plain_stays units h.1)

pub plain_notifies : (session : ℕ) (units : List Unit) → Plain units → NotifiesOf session units
plain_notifies session [] h = tt
plain_notifies session (SerialNotify one serial ∷ units) h = false_true (sym h.0)
plain_notifies session (u ∷ units) h = plain_notifies session units h.1

pub plain_records : (announce : Bool) (vs : List Payload) → Plain (map (λ v. Prefix announce v) vs)
plain_records announce [] = tt
plain_records announce (v ∷ vs) = (refl, plain_records announce vs)

pub without-append : (us vs : List Unit) → without_notifies (us ++ vs) ≡ without_notifies us ++ without_notifies vs
without-append [] vs = refl
without-append (SerialNotify session serial ∷ us) vs = without-append us vs
without-append (u ∷ us) vs = ap (λ x. u ∷ x) (without-append us vs)

pub notifies-append : (session : ℕ) (us vs : List Unit) → NotifiesOf session us → NotifiesOf session vs → NotifiesOf session (us ++ vs)
notifies-append session [] vs h k = k
notifies-append session (SerialNotify one serial ∷ us) vs h k = (h.0, notifies-append session us vs h.1 k)
notifies-append session (u ∷ us) vs h k = notifies-append session us vs h k

-- the members of what staged records lead to
has-led_to : (base : VrpSet) (withdrawn announced : List Payload) (q : Payload) → has (led_to base withdrawn announced) q ≡ ((has base q && not (is_among q withdrawn)) || is_among q announced)
unfolding led_to
has-led_to base withdrawn announced q =
    has-union (without base (set_of withdrawn)) (set_of announced) q
    ∙ (λ i. (has-without base (set_of withdrawn) q ∙ ap (λ b. has base q && not b) (has-set_of withdrawn q)) i || has-set_of announced q i)

-- records that follow, without duplicates
abbrev Fresh : List Payload → Type 0
Fresh vs = IsDistinct (eq_by_cmp vrp_cmp) vs

-- each of these is not listed there
abbrev NoneListed : List Payload → List Payload → Type 0
NoneListed before vs = AllByRecursion (λ v. is_among v before ≡ false) vs

none_more : (w : Payload) (before vs : List Payload) → AllByRecursion (λ v. eq_by_cmp vrp_cmp w v ≡ false) vs → NoneListed before vs → NoneListed (w ∷ before) vs
none_more w before [] apart h = tt
none_more w before (v ∷ vs) apart h = ((λ i. ((eq_by_cmp_equiv vrp_total).symm v w ∙ apart.0) i || h.0 i), none_more w before vs apart.1 h.1)

none_of : (vs : List Payload) → NoneListed [] vs
none_of [] = tt
none_of (v ∷ vs) = (refl, none_of vs)

-- All of these are to come, or were before.
abbrev Together : List Payload → List Payload → List Payload → Type 0
Together all rest before = (q : Payload) → (is_among q rest || is_among q before) ≡ is_among q all

one_more : (all : List Payload) (v : Payload) (rest before : List Payload) → Together all (v ∷ rest) before → Together all rest (v ∷ before)
one_more all v rest before h q = or_swap (is_among q rest) (eq_by_cmp vrp_cmp q v) (is_among q before) ∙ sym (or_assoc (eq_by_cmp vrp_cmp q v) (is_among q rest) (is_among q before)) ∙ h q

none_before : (vs : List Payload) → Together vs vs []
none_before vs q = or-false (is_among q vs)

-- The records of a change, and an End of Data behind them, lead from the first set to the second.
module _ (base set : VrpSet) (ws vs : List Payload) (c : Commits base ws vs set) (fits : size set ≤ 16777215) (pv : Version) (t : Intervals) (session serial : ℕ) where
  abbrev end : List Unit
  end = end_of_data pv session serial t ∷ []

  has-second : (q : Payload) → has set q ≡ ((has base q && not (is_among q ws)) || is_among q vs)
  unfolding led_to
  has-second q = ap (λ s. has s q) c.leads ∙ has-led_to base ws vs q

  -- what is led to is in the set
  within : (a : Begun) (w : Payload) (rest : List Payload) → ((q : Payload) → is_among q a.withdrawn ≡ is_among q ws) → Together vs (w ∷ rest) a.announced → (q : Payload) → has (led_to base a.withdrawn (w ∷ a.announced)) q ≡ true → has set q ≡ true
  within a w rest gone come q h =
      has-second q ∙ ap (λ b. (has base q && not (is_among q ws)) || b) (sym (come q))
      ∙ wider (has base q && not (is_among q ws)) (eq_by_cmp vrp_cmp q w) (is_among q rest) (is_among q a.announced) (ap (λ b. (has base q && not b) || is_among q (w ∷ a.announced)) (sym (gone q)) ∙ sym (has-led_to base a.withdrawn (w ∷ a.announced) q) ∙ h)
    where
      wider : (x y z u : Bool) → (x || (y || u)) ≡ true → (x || ((y || z) || u)) ≡ true
      wider true y z u e = refl
      wider false true z u e = refl
      wider false false true u e = refl
      wider false false false u e = e

  ends : (a : Begun) → ((q : Payload) → is_among q a.withdrawn ≡ is_among q ws) → Together vs [] a.announced → Leads base a end session serial set
  ends a gone come = by_version pv
    where
      leads : led_to base a.withdrawn a.announced ≡ set
      leads = same_set _ _ (λ q. has-led_to base a.withdrawn a.announced q ∙ (λ i. (has base q && not (gone q i)) || come q i) ∙ sym (has-second q))

      by_version : (pv : Version) → Leads base a (end_of_data pv session serial t ∷ []) session serial set
      by_version V0 = (refl, refl, refl, leads)
      by_version V1 = (refl, refl, refl, leads)

  -- the announcements
  announces : (a : Begun) (rest : List Payload) → Fresh rest → AllByRecursion (λ v. has base v ≡ false) rest → NoneListed a.announced rest → ((q : Payload) → is_among q a.withdrawn ≡ is_among q ws) → Together vs rest a.announced
      → Leads base a (map (λ v. Prefix true v) rest ++ end) session serial set
  unfolding IsDistinct
  announces a [] once known none gone come = ends a gone come
  announces a (w ∷ rest) once known none gone come =
      let less = size_le (led_to base a.withdrawn (w ∷ a.announced)) set (within a w rest gone come) in
      let room : nat_lt 16777215 (size (led_to base a.withdrawn (w ∷ a.announced))) ≡ false = not_over (size (led_to base a.withdrawn (w ∷ a.announced))) (omega (arith, less, fits)) in
      let e : stage 16777215 base a true w ≡ Stays (record a { announced = w ∷ a.announced }) = λ i. if known.0 i || none.0 i then Wrong 7 else if room i then Over else Stays (record a { announced = w ∷ a.announced }) in
      subst (λ st. after_stage st (λ b. Leads base b (map (λ v. Prefix true v) rest ++ end) session serial set)) (sym e)
      (announces (record a { announced = w ∷ a.announced }) rest once.1 known.1 (none_more w a.announced rest once.0 none.1) gone (one_more vs w rest a.announced come))
    where
      not_over : (n : ℕ) → n ≤ 16777215 → nat_lt 16777215 n ≡ false
      not_over n h = grind (arith, nat_tests)

  -- the withdrawals
  withdraws : (a : Begun) (rest : List Payload) → Fresh rest → AllByRecursion (λ v. has base v ≡ true) rest → NoneListed a.withdrawn rest → Together ws rest a.withdrawn → a.announced ≡ []
      → Leads base a ((map (λ v. Prefix false v) rest ++ map (λ v. Prefix true v) vs) ++ end) session serial set
  unfolding IsDistinct
  withdraws a [] once known none gone nothing = announces a vs c.announced_once c.unknown (subst (λ x. NoneListed x vs) (sym nothing) (none_of vs)) gone (subst (Together vs vs) (sym nothing) (none_before vs))
  withdraws a (w ∷ rest) once known none gone nothing =
      let e : stage 16777215 base a false w ≡ Stays (record a { withdrawn = w ∷ a.withdrawn }) = λ i. if known.0 i && not (none.0 i) then Stays (record a { withdrawn = w ∷ a.withdrawn }) else Wrong 6 in
      subst (λ st. after_stage st (λ b. Leads base b ((map (λ v. Prefix false v) rest ++ map (λ v. Prefix true v) vs) ++ end) session serial set)) (sym e)
      (withdraws (record a { withdrawn = w ∷ a.withdrawn }) rest once.1 known.1 (none_more w a.withdrawn rest once.0 none.1) (one_more ws w rest a.withdrawn gone) nothing)

  pub commits_lead : (q : Question) (own : ℕ) → Leads base (nothing_yet q own) ((map (λ v. Prefix false v) ws ++ map (λ v. Prefix true v) vs) ++ end) session serial set
  commits_lead q own = withdraws (nothing_yet q own) ws c.withdrawn_once c.known (none_of ws) (none_before ws) refl
