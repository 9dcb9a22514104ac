-- The first of the records that are in just one of two ascending lists
use Rattle.std.proofs.Common.{◌≡◌, ◌∙◌, ◌+◌, ◌-◌, ◌≤◌, ◌<◌, ℕ, Bool, true, false, not, ◌&&◌, ◌||◌, cond, List, [], ◌∷◌, ◌++◌, append-nil, append_assoc, ◌⊎◌, inl, inr, Option, Some, None, length, get_or, take, drop, refl, ap, sym, subst, arith}
use Rattle.std.specs.List.{AllByRecursion, list_any}
use Rattle.std.specs.Ordering.{ordering_reverse}
use Rattle.std.proofs.lemmas.List.{take_all}
use Rattle.std.specs.declared.cmp.Ordering.TheVariants.{Less, Equal, Greater}
use Rattle.prefixes.specs.Payload.{Payload, vrp_cmp}
use Rattle.prefixes.specs.Orders.{vrp_total, vrp_exact}
use Rattle.vrps.specs.Merging.{IsFront, AreAfter, first_and}
use Rattle.vrps.specs.Walk.{IsCut, led, left_out}
use Rattle.vrps.proofs.SetLaws.{same_vrp}
use Rattle.vrps.proofs.Walks.{Above, Ascends, any-led, cut_left_out, head_below, left_out_above, left_out_cut, kept_or_not, left_out_none, led_ascends, led_cut, led_end, no_records, nothing_cut, same_listing, weaker}

pub above_list : (x y : Payload) (ws : List Payload) → vrp_cmp x y ≡ Less → Above y ws → Above x (y ∷ ws)
above_list x y ws low above = (low, weaker (λ v. vrp_cmp y v ≡ Less) (λ v. vrp_cmp x v ≡ Less) (λ v h. vrp_total.trans x y v low h) ws above)

cut_before : (x : Payload) (ws : List Payload) → Above x ws → IsCut ws x [] false ws
cut_before x ws above = record { parts = refl; below_it = tt; above_it = above }

only_first : (x : Payload) (vs ws : List Payload) → Ascends (x ∷ vs) → Above x ws → left_out (x ∷ vs) ws ≡ x ∷ left_out vs ws
only_first x vs ws h above = left_out_cut x vs ws [] false ws h (cut_before x ws above)

not_first : (x : Payload) (vs ws : List Payload) → Ascends (x ∷ vs) → Ascends ws → Above x ws → left_out ws (x ∷ vs) ≡ left_out ws vs
not_first x vs ws h k above = cut_left_out x vs ws [] false ws h k (cut_before x ws above)

tail_of : (x : Payload) (vs : List Payload) → Ascends (x ∷ vs) → Ascends vs
unfolding Rattle.std.specs.List.Sorted.IsStrictlySortedBy
tail_of x vs h = h.1

-- a record in both is in neither difference
pub both_left : (x : Payload) (vs ws : List Payload) → Ascends (x ∷ vs) → Ascends (x ∷ ws) → left_out (x ∷ vs) (x ∷ ws) ≡ left_out vs ws
both_left x vs ws h k = left_out_cut x vs (x ∷ ws) [] true ws h (record { parts = refl; below_it = tt; above_it = head_below x ws k })

pub front_s : (s t : List Payload) (x : Payload) (vs ws : List Payload) → Ascends (x ∷ vs) → Ascends ws → Above x ws → left_out (x ∷ vs) ws ≡ left_out s t → left_out ws (x ∷ vs) ≡ left_out t s
    → length (x ∷ vs) + length ws ≤ length s + length t → IsFront s t (Some x) true vs ws
front_s s t x vs ws h k above only_s only_t fewer = record {
  only_s = sym only_s ∙ only_first x vs ws h above;
  only_t = sym only_t ∙ not_first x vs ws h k above;
  after_s = left_out_above x vs ws (head_below x vs h);
  after_t = left_out_above x ws vs above;
  s_ascends = tail_of x vs h;
  t_ascends = k;
  fewer = omega (arith, fewer);
}

pub front_t : (s t : List Payload) (y : Payload) (vs ws : List Payload) → Ascends vs → Ascends (y ∷ ws) → Above y vs → left_out vs (y ∷ ws) ≡ left_out s t → left_out (y ∷ ws) vs ≡ left_out t s
    → length vs + length (y ∷ ws) ≤ length s + length t → IsFront s t (Some y) false vs ws
front_t s t y vs ws h k above only_s only_t fewer = record {
  only_s = sym only_s ∙ not_first y ws vs k h above;
  only_t = sym only_t ∙ only_first y ws vs k above;
  after_s = left_out_above y vs ws above;
  after_t = left_out_above y ws vs (head_below y ws k);
  s_ascends = h;
  t_ascends = tail_of y ws k;
  fewer = omega (arith, fewer);
}

pub front_none : (s t l m : List Payload) → l ≡ [] → m ≡ [] → left_out l m ≡ left_out s t → left_out m l ≡ left_out t s → IsFront s t None false l m
front_none s t l m e f only_s only_t = record {
  only_s = sym only_s;
  only_t = sym only_t;
  after_s = (λ i. left_out (e i) (f i)) ∙ left_out_none [];
  after_t = (λ i. left_out (f i) (e i)) ∙ left_out_none [];
  s_ascends = subst (λ u. Ascends u) (sym e) no_records;
  t_ascends = subst (λ u. Ascends u) (sym f) no_records;
  fewer = let a = ap (λ u. length u) e in let b = ap (λ u. length u) f in omega (arith, a, b);
}

-- in either order
pub swapped : (vs zs : List Payload) → led vs [] zs ≡ led zs [] vs
swapped vs zs = same_listing _ _ (led_ascends vs [] zs) (led_ascends zs [] vs) (λ q. any-led q vs [] zs ∙ turn (list_any (same_vrp q) vs) (list_any (same_vrp q) zs) ∙ sym (any-led q zs [] vs))
  where
    turn : (a b : Bool) → ((a && true) || b) ≡ ((b && true) || a)
    turn true true = refl
    turn true false = refl
    turn false true = refl
    turn false false = refl

joins : (x : Payload) (vs : List Payload) → Ascends vs → Above x vs → Ascends (x ∷ vs)
unfolding Rattle.std.specs.List.Sorted.IsStrictlySortedBy
joins x vs h above = (above, h)

pub and_ascends : (first : Option Payload) (here : Bool) (vs : List Payload) → AreAfter first vs → Ascends vs → Ascends (first_and first here vs)
and_ascends None here vs after h = h
and_ascends (Some x) true vs after h = joins x vs h after
and_ascends (Some x) false vs after h = h

and_above : (x y : Payload) (here : Bool) (vs : List Payload) → vrp_cmp x y ≡ Less → Above y vs → Above x (first_and (Some y) here vs)
and_above x y true vs low after = above_list x y vs low after
and_above x y false vs low after = (above_list x y vs low after).1

-- the first record of both lists comes from the one, or from the other
takes_first : (x : Payload) (f : Bool) (vs zs : List Payload) → Above x vs → Ascends vs → Above x zs → Ascends zs → led (first_and (Some x) f vs) [] zs ≡ cond f (x ∷ led vs [] zs) (led vs [] zs)
takes_first x true vs zs after h above k = led_cut x vs [] zs [] false [] [] false zs (joins x vs h after) k (nothing_cut x) (cut_before x zs above)
takes_first x false vs zs after h above k = refl

pub takes_s : (x y : Payload) (f g : Bool) (vs zs : List Payload) → vrp_cmp x y ≡ Less → Above x vs → Ascends vs → Above y zs → Ascends zs
    → led (first_and (Some x) f vs) [] (first_and (Some y) g zs) ≡ cond f (x ∷ led vs [] (first_and (Some y) g zs)) (led vs [] (first_and (Some y) g zs))
takes_s x y f g vs zs low after h above k = takes_first x f vs (first_and (Some y) g zs) after h (and_above x y g zs low above) (and_ascends (Some y) g zs above k)

pub takes_t : (x y : Payload) (f g : Bool) (vs zs : List Payload) → vrp_cmp y x ≡ Less → Above x vs → Ascends vs → Above y zs → Ascends zs
    → led (first_and (Some x) f vs) [] (first_and (Some y) g zs) ≡ cond g (y ∷ led (first_and (Some x) f vs) [] zs) (led (first_and (Some x) f vs) [] zs)
takes_t x y f g vs zs low after h above k =
    swapped (first_and (Some x) f vs) (first_and (Some y) g zs) ∙ takes_s y x g f zs vs low above k after h
    ∙ ap (λ l. cond g (y ∷ l) l) (swapped zs (first_and (Some x) f vs))

-- if both come first, one represents both
pub takes_both : (x : Payload) (f g : Bool) (vs zs : List Payload) → Above x vs → Ascends vs → Above x zs → Ascends zs
    → led (first_and (Some x) f vs) [] (first_and (Some x) g zs) ≡ cond (not f && g) (x ∷ led (first_and (Some x) f vs) [] zs) (led (first_and (Some x) f vs) [] zs)
takes_both x f false vs zs after h above k = pick f
  where
    pick : (f : Bool) → led (first_and (Some x) f vs) [] zs ≡ cond (not f && false) (x ∷ led (first_and (Some x) f vs) [] zs) (led (first_and (Some x) f vs) [] zs)
    pick true = refl
    pick false = refl
takes_both x false true vs zs after h above k =
    swapped vs (x ∷ zs) ∙ takes_first x true zs vs above k after h ∙ ap (λ l. x ∷ l) (swapped zs vs)
takes_both x true true vs zs after h above k =
    led_cut x vs [] (x ∷ zs) [] false [] [] true zs (joins x vs h after) (joins x zs k above) (nothing_cut x) (record { parts = refl; below_it = tt; above_it = above })
    ∙ sym (takes_first x true vs zs after h above k)

-- what comes after the first of a list
abbrev pub rest_of : List Payload → List Payload
rest_of l = take (length l - 1) (drop 1 l)

pub split_of : (l : List Payload) (x : Payload) → 1 ≤ length l → x ≡ get_or l 0 x → l ≡ x ∷ rest_of l
split_of [] x some is = absurd (omega (arith, some))
split_of (y ∷ l) x some is = ap (λ v. v ∷ l) (sym is) ∙ ap (λ m. x ∷ m) (sym (take_all (length (y ∷ l) - 1) l (omega arith)))

pub none_of : (l : List Payload) → length l < 1 → l ≡ []
none_of [] few = refl
none_of (y ∷ l) few = absurd (omega (arith, few))

pub front_at_s : (s t l m : List Payload) (x : Payload) → 1 ≤ length l → x ≡ get_or l 0 x → Ascends l → Ascends m → Above x m → left_out l m ≡ left_out s t → left_out m l ≡ left_out t s
    → length l + length m ≤ length s + length t → IsFront s t (Some x) true (rest_of l) m
front_at_s s t l m x some is h k above only_s only_t fewer =
    let e = split_of l x some is in
    front_s s t x (rest_of l) m (subst (λ u. Ascends u) e h) k above (ap (λ u. left_out u m) (sym e) ∙ only_s) (ap (λ u. left_out m u) (sym e) ∙ only_t) (subst (λ u. length u + length m ≤ length s + length t) e fewer)

pub front_at_t : (s t l m : List Payload) (y : Payload) → 1 ≤ length m → y ≡ get_or m 0 y → Ascends l → Ascends m → Above y l → left_out l m ≡ left_out s t → left_out m l ≡ left_out t s
    → length l + length m ≤ length s + length t → IsFront s t (Some y) false l (rest_of m)
front_at_t s t l m y some is h k above only_s only_t fewer =
    let e = split_of m y some is in
    front_t s t y l (rest_of m) h (subst (λ u. Ascends u) e k) above (ap (λ u. left_out l u) (sym e) ∙ only_s) (ap (λ u. left_out u l) (sym e) ∙ only_t) (subst (λ u. length l + length u ≤ length s + length t) e fewer)

pub above_at : (x y : Payload) (m : List Payload) → 1 ≤ length m → y ≡ get_or m 0 y → Ascends m → vrp_cmp x y ≡ Less → Above x m
above_at x y m some is k low =
    let e = split_of m y some is in
    subst (λ u. Above x u) (sym e) (above_list x y (rest_of m) low (head_below y (rest_of m) (subst (λ u. Ascends u) e k)))

pub both_at : (l m : List Payload) (x y : Payload) → 1 ≤ length l → 1 ≤ length m → x ≡ get_or l 0 x → y ≡ get_or m 0 y → Ascends l → Ascends m → vrp_cmp x y ≡ Equal → left_out (rest_of l) (rest_of m) ≡ left_out l m
both_at l m x y some more is at h k same =
    let e = split_of l x some is in
    let f = split_of m y more at ∙ ap (λ v. v ∷ rest_of m) (sym (vrp_exact x y same)) in
    sym (both_left x (rest_of l) (rest_of m) (subst (λ u. Ascends u) e h) (subst (λ u. Ascends u) f k)) ∙ (λ i. left_out (sym e i) (sym f i))

pub rest_ascends : (l : List Payload) (x : Payload) → 1 ≤ length l → x ≡ get_or l 0 x → Ascends l → Ascends (rest_of l)
rest_ascends l x some is h = tail_of x (rest_of l) (subst (λ u. Ascends u) (split_of l x some is) h)

pub swaps : (x y : Payload) → vrp_cmp x y ≡ Greater → vrp_cmp y x ≡ Less
swaps x y is = vrp_total.antisymm y x ∙ ap ordering_reverse is

pub swaps_equal : (x y : Payload) → vrp_cmp x y ≡ Equal → vrp_cmp y x ≡ Equal
swaps_equal x y is = vrp_total.antisymm y x ∙ ap ordering_reverse is

pub above_none : (x : Payload) (m : List Payload) → length m < 1 → Above x m
above_none x m few = subst (λ u. Above x u) (sym (none_of m few)) tt

pub length_rest : (l : List Payload) → length (rest_of l) ≤ length l
length_rest [] = omega arith
length_rest (y ∷ l) = let e = ap (λ u. length u) (take_all (length (y ∷ l) - 1) l (omega arith)) in omega (arith, e)

pub both_fewer : (l m : List Payload) (n : ℕ) → length l + length m ≤ n → length (rest_of l) + length (rest_of m) ≤ n
both_fewer l m n fewer = let a = length_rest l in let b = length_rest m in omega (arith, a, b, fewer)

pub first_then : (first : Option Payload) (here : Bool) (vs : List Payload) → first_and first here [] ++ vs ≡ first_and first here vs
first_then None here vs = refl
first_then (Some x) true vs = refl
first_then (Some x) false vs = refl

-- what is known of the front of two lists and of what comes after it
pub record IsAhead (first : Option Payload) (s t : List Payload) : Type 0 where
  pub after_s : AreAfter first (left_out s t)
  pub after_t : AreAfter first (left_out t s)
  pub s_ascends : Ascends s
  pub t_ascends : Ascends t

pub ahead : (s t : List Payload) (first : Option Payload) (of_s : Bool) (more_s more_t : List Payload) → IsFront s t first of_s more_s more_t → IsAhead first more_s more_t
ahead s t first of_s more_s more_t h = record { after_s = h.after_s; after_t = h.after_t; s_ascends = h.s_ascends; t_ascends = h.t_ascends }

-- One step of the walk, by which of the two records is the first one
pub step_less : (x y : Payload) (f g : Bool) (vs zs next old new all : List Payload) → vrp_cmp x y ≡ Less → Above x vs → Ascends vs → Above y zs → Ascends zs
    → vs ≡ next → new ≡ old ++ cond f (x ∷ []) [] → old ++ led (first_and (Some x) f vs) [] (first_and (Some y) g zs) ≡ all → new ++ led next [] (first_and (Some y) g zs) ≡ all
step_less x y f g vs zs next old new all low after h above k is put inv =
    kept_or_not x old new (led next [] (first_and (Some y) g zs)) f put
    ∙ ap (λ u. old ++ cond f (x ∷ led u [] (first_and (Some y) g zs)) (led u [] (first_and (Some y) g zs))) (sym is)
    ∙ ap (λ u. old ++ u) (sym (takes_s x y f g vs zs low after h above k)) ∙ inv

pub step_greater : (x y : Payload) (f g : Bool) (vs zs next old new all : List Payload) → vrp_cmp x y ≡ Greater → Above x vs → Ascends vs → Above y zs → Ascends zs
    → zs ≡ next → new ≡ old ++ cond g (y ∷ []) [] → old ++ led (first_and (Some x) f vs) [] (first_and (Some y) g zs) ≡ all → new ++ led (first_and (Some x) f vs) [] next ≡ all
step_greater x y f g vs zs next old new all high after h above k is put inv =
    kept_or_not y old new (led (first_and (Some x) f vs) [] next) g put
    ∙ ap (λ u. old ++ cond g (y ∷ led (first_and (Some x) f vs) [] u) (led (first_and (Some x) f vs) [] u)) (sym is)
    ∙ ap (λ u. old ++ u) (sym (takes_t x y f g vs zs (swaps x y high) after h above k)) ∙ inv

pub step_equal : (x y : Payload) (f g keep : Bool) (vs zs next old new all : List Payload) → keep ≡ (not f && g) → vrp_cmp x y ≡ Equal → Above x vs → Ascends vs → Above y zs → Ascends zs
    → zs ≡ next → new ≡ old ++ cond keep (y ∷ []) [] → old ++ led (first_and (Some x) f vs) [] (first_and (Some y) g zs) ≡ all → new ++ led (first_and (Some x) f vs) [] next ≡ all
step_equal x y f g keep vs zs next old new all keeps same after h above k is put inv =
    let e : x ≡ y = vrp_exact x y same in
    let both = subst (λ v. led (first_and (Some v) f vs) [] (first_and (Some y) g zs) ≡ cond (not f && g) (y ∷ led (first_and (Some v) f vs) [] zs) (led (first_and (Some v) f vs) [] zs)) (sym e)
    (takes_both y f g vs zs (subst (λ v. Above v vs) e after) h above k) in
    kept_or_not y old new (led (first_and (Some x) f vs) [] next) keep put
    ∙ (λ i. old ++ cond (keeps i) (y ∷ led (first_and (Some x) f vs) [] (sym is i)) (led (first_and (Some x) f vs) [] (sym is i)))
    ∙ ap (λ u. old ++ u) (sym both) ∙ inv

pub not_not : (b : Bool) → b ≡ not (not b)
not_not true = refl
not_not false = refl

-- if one of both ends, the other is left
nothing : (first : Option Payload) (here : Bool) (vs : List Payload) → first ≡ None → AreAfter first vs → first_and first here vs ≡ []
nothing None here vs e after = after
nothing (Some x) here vs e after = absurd (let h : ◌≡◌ {A = Option Payload} (Some x) None = e in cc)

pub step_end : (first other : Option Payload) (f g : Bool) (vs zs : List Payload) → AreAfter first vs → AreAfter other zs → Ascends vs → Ascends zs → (first ≡ None) ⊎ (other ≡ None)
    → led (first_and first f vs) [] (first_and other g zs) ≡ first_and first f vs ++ first_and other g zs
step_end first other f g vs zs after above h k (inl e) =
    let none : first_and first f vs ≡ [] = nothing first f vs e after in
    (λ i. led (none i) [] (first_and other g zs)) ∙ led_end [] _ (and_ascends other g zs above k) ∙ (λ i. sym none i ++ first_and other g zs)
step_end first other f g vs zs after above h k (inr e) =
    let none : first_and other g zs ≡ [] = nothing other g zs e above in
    (λ i. led (first_and first f vs) [] (none i)) ∙ swapped _ [] ∙ led_end [] _ (and_ascends first f vs after h) ∙ sym (append-nil _) ∙ (λ i. first_and first f vs ++ sym none i)

-- the same, of the fronts of a walk
pub goes_less : (p q : Option Payload) (x y : Payload) (f g : Bool) (vs zs next old new all : List Payload) → p ≡ Some x → q ≡ Some y → vrp_cmp x y ≡ Less → AreAfter p vs → Ascends vs → AreAfter q zs → Ascends zs
    → vs ≡ next → new ≡ old ++ cond f (x ∷ []) [] → old ++ led (first_and p f vs) [] (first_and q g zs) ≡ all → new ++ led next [] (first_and q g zs) ≡ all
goes_less p q x y f g vs zs next old new all d e low after h above k is put inv =
    (λ i. new ++ led next [] (first_and (e i) g zs))
    ∙ step_less x y f g vs zs next old new all low (subst (λ o. AreAfter o vs) d after) h (subst (λ o. AreAfter o zs) e above) k is put
    ((λ i. old ++ led (first_and (sym d i) f vs) [] (first_and (sym e i) g zs)) ∙ inv)

pub goes_greater : (p q : Option Payload) (x y : Payload) (f g : Bool) (vs zs next old new all : List Payload) → p ≡ Some x → q ≡ Some y → vrp_cmp x y ≡ Greater → AreAfter p vs → Ascends vs → AreAfter q zs → Ascends zs
    → zs ≡ next → new ≡ old ++ cond g (y ∷ []) [] → old ++ led (first_and p f vs) [] (first_and q g zs) ≡ all → new ++ led (first_and p f vs) [] next ≡ all
goes_greater p q x y f g vs zs next old new all d e high after h above k is put inv =
    (λ i. new ++ led (first_and (d i) f vs) [] next)
    ∙ step_greater x y f g vs zs next old new all high (subst (λ o. AreAfter o vs) d after) h (subst (λ o. AreAfter o zs) e above) k is put
    ((λ i. old ++ led (first_and (sym d i) f vs) [] (first_and (sym e i) g zs)) ∙ inv)

pub goes_equal : (p q : Option Payload) (x y : Payload) (f g keep : Bool) (vs zs next old new all : List Payload) → keep ≡ (not f && g) → p ≡ Some x → q ≡ Some y → vrp_cmp x y ≡ Equal → AreAfter p vs → Ascends vs → AreAfter q zs → Ascends zs
    → zs ≡ next → new ≡ old ++ cond keep (y ∷ []) [] → old ++ led (first_and p f vs) [] (first_and q g zs) ≡ all → new ++ led (first_and p f vs) [] next ≡ all
goes_equal p q x y f g keep vs zs next old new all keeps d e same after h above k is put inv =
    (λ i. new ++ led (first_and (d i) f vs) [] next)
    ∙ step_equal x y f g keep vs zs next old new all keeps same (subst (λ o. AreAfter o vs) d after) h (subst (λ o. AreAfter o zs) e above) k is put
    ((λ i. old ++ led (first_and (sym d i) f vs) [] (first_and (sym e i) g zs)) ∙ inv)

pub goes_end : (p q : Option Payload) (f g : Bool) (vs zs old one new all : List Payload) → AreAfter p vs → AreAfter q zs → Ascends vs → Ascends zs → (p ≡ None) ⊎ (q ≡ None)
    → one ≡ old ++ first_and p f vs → new ≡ one ++ first_and q g zs → old ++ led (first_and p f vs) [] (first_and q g zs) ≡ all → new ≡ all
goes_end p q f g vs zs old one new all after above h k ends first second inv =
    second ∙ ap (λ l. l ++ first_and q g zs) first ∙ append_assoc old (first_and p f vs) (first_and q g zs)
    ∙ ap (λ l. old ++ l) (sym (step_end p q f g vs zs after above h k ends)) ∙ inv

pub goes_first : (old p q vs zs : List Payload) → old ≡ [] → vs ≡ p → zs ≡ q → old ++ led p [] q ≡ led vs [] zs
goes_first old p q vs zs none d e = ap (λ l. l ++ led p [] q) none ∙ (λ i. led (sym d i) [] (sym e i))
