-- What a walk over ascending lists gives: each step reads one record of one list, and the part of another list that is not above it.
use Rattle.std.proofs.Common.{◌≡◌, ◌∙◌, ℕ, Bool, true, false, not, ◌&&◌, ◌||◌, cond, List, [], ◌∷◌, ◌++◌, append_assoc, append-nil, take, drop, refl, ap, sym, subst}
use Rattle.std.proofs.Math.Bool.{or-false, and-true}
use Rattle.std.proofs.lemmas.Bool.{and_parts}
use Rattle.std.specs.List.{AllByRecursion, list_any}
use Rattle.std.specs.List.Sorted.{IsStrictlySortedBy}
use Rattle.std.specs.Ordering.{is_eq, ordering_reverse}
use Rattle.std.specs.declared.cmp.Ordering.TheVariants.{Less, Equal, Greater}
use Rattle.std.proofs.lemmas.List.{take-append-drop}
use Rattle.std.proofs.lemmas.List.Folds.{list_any-append}
use Rattle.prefixes.specs.Payload.{Payload, vrp_cmp}
use Rattle.prefixes.specs.Orders.{vrp_total, vrp_exact}
use Rattle.vrps.specs.Change.{apply}
use Rattle.vrps.specs.VrpSet.{VrpSet, listing, set_of, union, without}
use Rattle.vrps.specs.Walk.{IsCut, led, left_out}
use Rattle.vrps.specs.declared.change.Change.{Change}
use Rattle.vrps.proofs.SetLaws.{all_of_members, has-set_of, has-union, has-without, listing-set_of, listing_ascends, same_set, same_vrp, set_of-listing, has-listing}

abbrev pub Ascends : List Payload → Type 0
Ascends vs = IsStrictlySortedBy vrp_cmp vs

-- each of these is above a record, or below it
abbrev pub Above : Payload → List Payload → Type 0
Above x vs = AllByRecursion (λ v. vrp_cmp x v ≡ Less) vs

abbrev Below : Payload → List Payload → Type 0
Below x vs = AllByRecursion (λ v. vrp_cmp v x ≡ Less) vs

pub weaker : (P Q : Payload → Type 0) → ((v : Payload) → P v → Q v) → (vs : List Payload) → AllByRecursion P vs → AllByRecursion Q vs
weaker P Q f [] h = tt
weaker P Q f (v ∷ vs) h = (f v h.0, weaker P Q f vs h.1)

-- Parts of ascending lists ascend.
pub ascends_after : (vs ws : List Payload) → Ascends (vs ++ ws) → Ascends ws
unfolding IsStrictlySortedBy
ascends_after [] ws h = h
ascends_after (v ∷ vs) ws h = ascends_after vs ws h.1

pub ascends_drop : (n : ℕ) (vs : List Payload) → Ascends vs → Ascends (drop n vs)
ascends_drop n vs h = ascends_after (take n vs) (drop n vs) (subst (λ l. Ascends l) (sym (take-append-drop n vs)) h)

left_part : (P : Payload → Type 0) (vs ws : List Payload) → AllByRecursion P (vs ++ ws) → AllByRecursion P vs
left_part P [] ws h = tt
left_part P (v ∷ vs) ws h = (h.0, left_part P vs ws h.1)

ascends_before : (vs ws : List Payload) → Ascends (vs ++ ws) → Ascends vs
unfolding IsStrictlySortedBy
ascends_before [] ws h = tt
ascends_before (v ∷ vs) ws h = (left_part (λ w. vrp_cmp v w ≡ Less) vs ws h.0, ascends_before vs ws h.1)

pub no_records : Ascends []
unfolding IsStrictlySortedBy
no_records = tt

pub head_below : (x : Payload) (vs : List Payload) → Ascends (x ∷ vs) → Above x vs
unfolding IsStrictlySortedBy
head_below x vs h = h.0

tail_ascends : (x : Payload) (vs : List Payload) → Ascends (x ∷ vs) → Ascends vs
unfolding IsStrictlySortedBy
tail_ascends x vs h = h.1

-- Below x first, then what is above it, ascends; so it does with x between.
both_parts : (P : Payload → Type 0) (vs ws : List Payload) → AllByRecursion P vs → AllByRecursion P ws → AllByRecursion P (vs ++ ws)
both_parts P [] ws h k = k
both_parts P (v ∷ vs) ws h k = (h.0, both_parts P vs ws h.1 k)

joins_above : (x : Payload) (bs vs : List Payload) → Ascends bs → Below x bs → Ascends vs → Above x vs → Ascends (bs ++ vs)
unfolding IsStrictlySortedBy
joins_above x [] vs b below a above = a
joins_above x (w ∷ bs) vs b below a above = (
  both_parts (λ v. vrp_cmp w v ≡ Less) bs vs b.0 (weaker (λ v. vrp_cmp x v ≡ Less) (λ v. vrp_cmp w v ≡ Less) (λ v h. vrp_total.trans w x v below.0 h) vs above),
  joins_above x bs vs b.1 below.1 a above,
)

joins_at : (x : Payload) (bs vs : List Payload) → Ascends bs → Below x bs → Ascends vs → Above x vs → Ascends (bs ++ x ∷ vs)
unfolding IsStrictlySortedBy
joins_at x [] vs b below a above = (above, a)
joins_at x (w ∷ bs) vs b below a above = (
  both_parts (λ v. vrp_cmp w v ≡ Less) bs (x ∷ vs) b.0 (below.0, weaker (λ v. vrp_cmp x v ≡ Less) (λ v. vrp_cmp w v ≡ Less) (λ v h. vrp_total.trans w x v below.0 h) vs above),
  joins_at x bs vs b.1 below.1 a above,
)

-- What is above or below all of a list is none of it.
none_above : (q : Payload) (vs : List Payload) → Above q vs → list_any (same_vrp q) vs ≡ false
none_above q [] h = refl
none_above q (v ∷ vs) h = (λ i. is_eq (h.0 i) || list_any (same_vrp q) vs) ∙ none_above q vs h.1

none_below : (q : Payload) (vs : List Payload) → Below q vs → list_any (same_vrp q) vs ≡ false
none_below q [] h = refl
none_below q (v ∷ vs) h =
    (λ i. is_eq (vrp_total.antisymm q v i) || list_any (same_vrp q) vs) ∙ (λ i. is_eq (ordering_reverse (h.0 i)) || list_any (same_vrp q) vs) ∙ none_below q vs h.1

-- a fact of each element is one of what ties with an element
pub of_member : (P : Payload → Type 0) (vs : List Payload) → AllByRecursion P vs → (q : Payload) → list_any (same_vrp q) vs ≡ true → P q
of_member P [] h q one = absurd (cc)
of_member P (v ∷ vs) h q one =
    elim (vrp_cmp q v) as (λ o. vrp_cmp q v ≡ o → (is_eq o || list_any (same_vrp q) vs) ≡ true → P q) [
      | Less ↦ λ is one. of_member P vs h.1 q one
      | Equal ↦ λ is one. subst P (sym (vrp_exact q v is)) h.0
      | Greater ↦ λ is one. of_member P vs h.1 q one
    ] refl one

-- Ascending lists with the same members are one.
pub same_listing : (vs ws : List Payload) → Ascends vs → Ascends ws → ((q : Payload) → list_any (same_vrp q) vs ≡ list_any (same_vrp q) ws) → vs ≡ ws
same_listing vs ws a b h =
    let sets : set_of vs ≡ set_of ws = same_set (set_of vs) (set_of ws) (λ q. has-set_of vs q ∙ h q ∙ sym (has-set_of ws q)) in
    sym (listing-set_of vs a) ∙ ap (λ s. listing s) sets ∙ listing-set_of ws b

-- The members of a list that is cut at x
any_cut : (q x : Payload) (below : List Payload) (found : Bool) (above : List Payload)
    → list_any (same_vrp q) (below ++ cond found (x ∷ above) above) ≡ (list_any (same_vrp q) below || ((found && same_vrp q x) || list_any (same_vrp q) above))
any_cut q x below true above = list_any-append (same_vrp q) below (x ∷ above)
any_cut q x below false above = list_any-append (same_vrp q) below above

any_kept : (q x : Payload) (keep : Bool) (vs : List Payload) → list_any (same_vrp q) (cond keep (x ∷ vs) vs) ≡ ((keep && same_vrp q x) || list_any (same_vrp q) vs)
any_kept q x true vs = refl
any_kept q x false vs = refl

kept_ascends : (x : Payload) (bs vs : List Payload) → Ascends bs → Below x bs → Ascends vs → Above x vs → (keep : Bool) → Ascends (bs ++ cond keep (x ∷ vs) vs)
kept_ascends x bs vs b below a above true = joins_at x bs vs b below a above
kept_ascends x bs vs b below a above false = joins_above x bs vs b below a above

-- A record q is before x, or x, or after it. Then it is in no list above x, in none above or below it, or in none below it. What
-- is one test in each case is one test.
placed : (f g : Bool → Bool → Bool → Bool → Bool → Bool → Bool)
    → ((b c : Bool) → f false false b false c false ≡ g false false b false c false)
    → f true false false false false false ≡ g true false false false false false
    → ((u a d : Bool) → f false u false a false d ≡ g false u false a false d)
    → (q x : Payload) (vs bs ys ls us : List Payload) → Above x vs → Below x bs → Above x ys → Below x ls → Above x us
    → f (same_vrp q x) (list_any (same_vrp q) vs) (list_any (same_vrp q) bs) (list_any (same_vrp q) ys) (list_any (same_vrp q) ls) (list_any (same_vrp q) us)
    ≡ g (same_vrp q x) (list_any (same_vrp q) vs) (list_any (same_vrp q) bs) (list_any (same_vrp q) ys) (list_any (same_vrp q) ls) (list_any (same_vrp q) us)
placed f g before at after q x vs bs ys ls us hv hb ha hl hu =
    elim (vrp_cmp q x) as (λ o. vrp_cmp q x ≡ o → f (same_vrp q x) (any vs) (any bs) (any ys) (any ls) (any us) ≡ g (same_vrp q x) (any vs) (any bs) (any ys) (any ls) (any us)) [
      | Less ↦ λ is.
          let s : same_vrp q x ≡ false = ap is_eq is in
          let v = none_above q vs (lower is vs hv) in
          let a = none_above q ys (lower is ys ha) in
          let u = none_above q us (lower is us hu) in
          (λ i. f (s i) (v i) (any bs) (a i) (any ls) (u i)) ∙ before (any bs) (any ls) ∙ sym (λ i. g (s i) (v i) (any bs) (a i) (any ls) (u i))
      | Equal ↦ λ is.
          let e : x ≡ q = sym (vrp_exact q x is) in
          let s : same_vrp q x ≡ true = ap is_eq is in
          let v = none_above q vs (subst (λ y. Above y vs) e hv) in
          let b = none_below q bs (subst (λ y. Below y bs) e hb) in
          let a = none_above q ys (subst (λ y. Above y ys) e ha) in
          let l = none_below q ls (subst (λ y. Below y ls) e hl) in
          let u = none_above q us (subst (λ y. Above y us) e hu) in
          (λ i. f (s i) (v i) (b i) (a i) (l i) (u i)) ∙ at ∙ sym (λ i. g (s i) (v i) (b i) (a i) (l i) (u i))
      | Greater ↦ λ is.
          let s : same_vrp q x ≡ false = ap is_eq is in
          let b = none_below q bs (higher is bs hb) in
          let l = none_below q ls (higher is ls hl) in
          (λ i. f (s i) (any vs) (b i) (any ys) (l i) (any us)) ∙ after (any vs) (any ys) (any us) ∙ sym (λ i. g (s i) (any vs) (b i) (any ys) (l i) (any us))
    ] refl
  where
    any : List Payload → Bool
    any l = list_any (same_vrp q) l

    lower : vrp_cmp q x ≡ Less → (l : List Payload) → Above x l → Above q l
    lower is l h = weaker (λ v. vrp_cmp x v ≡ Less) (λ v. vrp_cmp q v ≡ Less) (λ v k. vrp_total.trans q x v is k) l h

    higher : vrp_cmp q x ≡ Greater → (l : List Payload) → Below x l → Below q l
    higher is l h = weaker (λ v. vrp_cmp v x ≡ Less) (λ v. vrp_cmp v q ≡ Less) (λ v k. vrp_total.trans v x q k (vrp_total.antisymm x q ∙ ap ordering_reverse is)) l h

-- the members of one list that are none of another
any-left_out : (q : Payload) (vs ws : List Payload) → list_any (same_vrp q) (left_out vs ws) ≡ (list_any (same_vrp q) vs && not (list_any (same_vrp q) ws))
any-left_out q vs ws =
    sym (has-listing (without (set_of vs) (set_of ws)) q) ∙ has-without (set_of vs) (set_of ws) q
    ∙ (λ i. has-set_of vs q i && not (has-set_of ws q i))

-- the members of one list without those of a second, together with those of a third
pub any-led : (q : Payload) (vs ws zs : List Payload) → list_any (same_vrp q) (led vs ws zs) ≡ ((list_any (same_vrp q) vs && not (list_any (same_vrp q) ws)) || list_any (same_vrp q) zs)
any-led q vs ws zs =
    sym (has-listing (union (without (set_of vs) (set_of ws)) (set_of zs)) q) ∙ has-union (without (set_of vs) (set_of ws)) (set_of zs) q
    ∙ (λ i. has-without (set_of vs) (set_of ws) q i || has-set_of zs q i)
    ∙ (λ i. (has-set_of vs q i && not (has-set_of ws q i)) || list_any (same_vrp q) zs)

pub led_ascends : (vs ws zs : List Payload) → Ascends (led vs ws zs)
led_ascends vs ws zs = listing_ascends (union (without (set_of vs) (set_of ws)) (set_of zs))

led_above : (x : Payload) (vs ws zs : List Payload) → Above x vs → Above x zs → Above x (led vs ws zs)
led_above x vs ws zs h k =
    all_of_members (λ v. vrp_cmp x v ≡ Less) (union (without (set_of vs) (set_of ws)) (set_of zs)) (λ q one.
    in_either q _ _ refl refl (sym (any-led q vs ws zs) ∙ sym (has-listing (union (without (set_of vs) (set_of ws)) (set_of zs)) q) ∙ one))
  where
    in_either : (q : Payload) (a b : Bool) → (list_any (same_vrp q) vs && not (list_any (same_vrp q) ws)) ≡ a → list_any (same_vrp q) zs ≡ b
        → ((list_any (same_vrp q) vs && not (list_any (same_vrp q) ws)) || list_any (same_vrp q) zs) ≡ true → vrp_cmp x q ≡ Less
    in_either q true b first second one = of_member (λ v. vrp_cmp x v ≡ Less) vs h q (and_parts _ _ first).0
    in_either q false b first second one = of_member (λ v. vrp_cmp x v ≡ Less) zs k q (sym (λ i. first i || list_any (same_vrp q) zs) ∙ one)

-- A record and those above it, without a list that is cut at the record, together with another that is cut there
pub led_cut : (x : Payload) (vs ws zs gone : List Payload) (is_gone : Bool) (left new : List Payload) (is_new : Bool) (more : List Payload)
    → Ascends (x ∷ vs) → Ascends zs → IsCut ws x gone is_gone left → IsCut zs x new is_new more
    → led (x ∷ vs) ws zs ≡ new ++ cond (is_new || not is_gone) (x ∷ led vs left more) (led vs left more)
led_cut x vs ws zs gone is_gone left new is_new more h k withdrawn announced =
    same_listing _ _ (led_ascends (x ∷ vs) ws zs)
    (kept_ascends x new (led vs left more) (ascends_before new _ (subst (λ l. Ascends l) announced.parts k)) announced.below_it (led_ascends vs left more)
    (led_above x vs left more (head_below x vs h) announced.above_it) (is_new || not is_gone)) (λ q.
    any-led q (x ∷ vs) ws zs
    ∙ (λ i. ((same_vrp q x || list_any (same_vrp q) vs) && not (list_any (same_vrp q) (withdrawn.parts i))) || list_any (same_vrp q) (announced.parts i))
    ∙ (λ i. ((same_vrp q x || list_any (same_vrp q) vs) && not (any_cut q x gone is_gone left i)) || any_cut q x new is_new more i)
    ∙ placed (λ s u b a c d. ((s || u) && not (b || ((is_gone && s) || a))) || (c || ((is_new && s) || d)))
    (λ s u b a c d. c || (((is_new || not is_gone) && s) || ((u && not a) || d)))
    (λ b c. before is_gone is_new b c) (at is_gone is_new) (λ u a d. after is_gone is_new u a d)
    q x vs gone left new more (head_below x vs h) withdrawn.below_it withdrawn.above_it announced.below_it announced.above_it
    ∙ ap (λ b. list_any (same_vrp q) new || (((is_new || not is_gone) && same_vrp q x) || b)) (sym (any-led q vs left more))
    ∙ ap (λ b. list_any (same_vrp q) new || b) (sym (any_kept q x (is_new || not is_gone) (led vs left more)))
    ∙ sym (list_any-append (same_vrp q) new (cond (is_new || not is_gone) (x ∷ led vs left more) (led vs left more))))
  where
    before : (w n b c : Bool) → (c || ((n && false) || false)) ≡ (c || (((n || not w) && false) || false))
    before w true b c = refl
    before true false b c = refl
    before false false b c = refl

    at : (w n : Bool) → (not ((w && true) || false) || ((n && true) || false)) ≡ (((n || not w) && true) || false)
    at true true = refl
    at true false = refl
    at false true = refl
    at false false = refl

    after : (w n u a d : Bool) → ((u && not ((w && false) || a)) || ((n && false) || d)) ≡ (((n || not w) && false) || ((u && not a) || d))
    after true true u a d = refl
    after true false u a d = refl
    after false true u a d = refl
    after false false u a d = refl

pub led_end : (ws zs : List Payload) → Ascends zs → led [] ws zs ≡ zs
led_end ws zs h = same_listing _ _ (led_ascends [] ws zs) h (λ q. any-led q [] ws zs)

pub left_out_ascends : (vs ws : List Payload) → Ascends (left_out vs ws)
left_out_ascends vs ws = listing_ascends (without (set_of vs) (set_of ws))

-- Together with none, the same is what is left out.
led_none : (vs ws : List Payload) → led vs ws [] ≡ left_out vs ws
led_none vs ws = same_listing _ _ (led_ascends vs ws []) (left_out_ascends vs ws) (λ q. any-led q vs ws [] ∙ or-false _ ∙ sym (any-left_out q vs ws))

pub left_out_above : (x : Payload) (vs ws : List Payload) → Above x vs → Above x (left_out vs ws)
left_out_above x vs ws h = subst (λ l. Above x l) (led_none vs ws) (led_above x vs ws [] h tt)

-- no record, cut at any
pub nothing_cut : (x : Payload) → IsCut [] x [] false []
nothing_cut x = record { parts = refl; below_it = tt; above_it = tt }

-- A record and those above it, without a list that is cut at the record
pub left_out_cut : (x : Payload) (vs ws below : List Payload) (found : Bool) (above : List Payload) → Ascends (x ∷ vs) → IsCut ws x below found above
    → left_out (x ∷ vs) ws ≡ cond (not found) (x ∷ left_out vs above) (left_out vs above)
left_out_cut x vs ws below found above h cut =
    sym (led_none (x ∷ vs) ws) ∙ led_cut x vs ws [] below found above [] false [] h no_records cut (nothing_cut x) ∙ ap (λ l. cond (not found) (x ∷ l) l) (led_none vs above)

-- A list that is cut at a record, without the record and those above it
pub cut_left_out : (x : Payload) (vs ws below : List Payload) (found : Bool) (above : List Payload) → Ascends (x ∷ vs) → Ascends ws → IsCut ws x below found above
    → left_out ws (x ∷ vs) ≡ below ++ left_out above vs
cut_left_out x vs ws below found above h k cut =
    same_listing _ _ (left_out_ascends ws (x ∷ vs))
    (joins_above x below (left_out above vs) (ascends_before below _ (subst (λ l. Ascends l) cut.parts k)) cut.below_it (left_out_ascends above vs) (left_out_above x above vs cut.above_it)) (λ q.
    any-left_out q ws (x ∷ vs)
    ∙ ap (λ l. list_any (same_vrp q) l && not (same_vrp q x || list_any (same_vrp q) vs)) cut.parts
    ∙ ap (λ b. b && not (same_vrp q x || list_any (same_vrp q) vs)) (any_cut q x below found above)
    ∙ placed (λ s u b a c d. (b || ((found && s) || a)) && not (s || u)) (λ s u b a c d. b || (a && not u))
    (λ b c. before found b) (at found) (λ u a d. after found u a)
    q x vs below above below above (head_below x vs h) cut.below_it cut.above_it cut.below_it cut.above_it
    ∙ ap (λ b. list_any (same_vrp q) below || b) (sym (any-left_out q above vs))
    ∙ sym (list_any-append (same_vrp q) below (left_out above vs)))
  where
    before : (f b : Bool) → ((b || ((f && false) || false)) && true) ≡ (b || false)
    before true true = refl
    before true false = refl
    before false true = refl
    before false false = refl

    at : (f : Bool) → (((f && true) || false) && false) ≡ false
    at true = refl
    at false = refl

    after : (f u a : Bool) → (((f && false) || a) && not u) ≡ (a && not u)
    after true u a = refl
    after false u a = refl

-- what is left of a list that was cut ascends
pub cut_ascends : (x : Payload) (ws below : List Payload) (found : Bool) (above : List Payload) → Ascends ws → IsCut ws x below found above → Ascends above
cut_ascends x ws below true above k cut = tail_ascends x above (ascends_after below (x ∷ above) (subst (λ l. Ascends l) cut.parts k))
cut_ascends x ws below false above k cut = ascends_after below above (subst (λ l. Ascends l) cut.parts k)

-- without anything nothing is left, and without nothing all
pub left_out_all : (vs : List Payload) → Ascends vs → left_out vs [] ≡ vs
left_out_all vs h = same_listing _ _ (left_out_ascends vs []) h (λ q. any-left_out q vs [] ∙ and-true (list_any (same_vrp q) vs))

pub left_out_none : (ws : List Payload) → left_out [] ws ≡ []
left_out_none ws = sym (led_none [] ws) ∙ led_end ws [] no_records

-- A list to which a record was added, or not
pub kept_or_not : (x : Payload) (old new more : List Payload) (keep : Bool) → new ≡ old ++ cond keep (x ∷ []) [] → new ++ more ≡ old ++ cond keep (x ∷ more) more
kept_or_not x old new more true is = ap (λ l. l ++ more) is ∙ append_assoc old (x ∷ []) more
kept_or_not x old new more false is = ap (λ l. l ++ more) (is ∙ append-nil old)

-- what a change leads to, by the lists of its records
pub led_listings : (c : Change) (s : VrpSet) → led (listing s) (listing c.withdraw) (listing c.announce) ≡ listing (apply c s)
led_listings c s = λ i. listing (union (without (set_of-listing s i) (set_of-listing c.withdraw i)) (set_of-listing c.announce i))
