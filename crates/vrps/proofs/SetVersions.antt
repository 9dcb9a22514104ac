-- What versions and their serials satisfy.
use Rattle.std.specs.Prelude.{◌≡◌, ◌≢◌, ℕ, ◌+◌, ◌%◌, ◌^◌, ◌<◌, Bool, true, false, ◌&&◌, ◌==◌, nat_lt, nat_le, List, [], ◌∷◌, ◌++◌, length, take, Some, if◌then◌else◌, refl}
use Rattle.std.proofs.Common.{sym, ap, ◌∙◌, subst, arith, inl, inr, zero, suc}
use Rattle.std.specs.Cmp.{tied_itself}
use Rattle.std.specs.Cmp.Lexicographic.{pointwise}
use Rattle.std.specs.Ordering.{eq_by_cmp, is_eq}
use Rattle.std.specs.declared.cmp.Ordering.{Ordering}
use Rattle.std.specs.declared.cmp.Ordering.TheVariants.{Less, Equal, Greater}
use Rattle.std.proofs.lemmas.Bool.{and_parts}
use Rattle.std.proofs.lemmas.Bool.Decides.{nat_tests}
use Rattle.std.proofs.lemmas.List.{length-append}
use Rattle.prefixes.specs.Payload.{Payload, vrp_cmp}
use Rattle.prefixes.specs.contracts.vrp.VrpPartialEq.TheImpl as derived_eq
use Rattle.prefixes.specs.contracts.vrp.VrpOrd.TheImpl.Laws.{matches_eq-law}
use Rattle.prefixes.specs.Orders.{vrp_total, vrp_exact}
use Rattle.vrps.specs.Instance.{Instance, IsInstance, AreNews, NumberedSet, versions_from, with_serial}
use Rattle.vrps.specs.Serial.{serial_at, steps_to}
use Rattle.vrps.specs.Store.{same_list, is_same, SameExactly, is_current, PublishedIsInstance, NamesItself, KeptIsItself, IsBeforeNewer}
use Rattle.vrps.specs.VrpSet.{VrpSet, IsVrpSet, listing, set_of}
use Rattle.vrps.proofs.SetLaws.{set_of-listing}
use Rattle.prefixes.proofs.Basics.{eq_self}

-- payloads that tie are one
pub tied : (v w : Payload) → eq_by_cmp vrp_cmp v w ≡ true → v ≡ w
tied v w h = vrp_exact v w (equal (vrp_cmp v w) h)
  where
    equal : (o : Ordering) → is_eq o ≡ true → o ≡ Equal
    equal Less h = absurd (let e : false ≡ true = h in cc)
    equal Equal h = refl
    equal Greater h = absurd (let e : false ≡ true = h in cc)

lists_same : (vs ws : List Payload) → same_list vs ws ≡ true → vs ≡ ws
lists_same [] [] h = refl
lists_same [] (w ∷ ws) h = absurd (let e : false ≡ true = h in cc)
lists_same (v ∷ vs) [] h = absurd (let e : false ≡ true = h in cc)
lists_same (v ∷ vs) (w ∷ ws) h = let parts = and_parts (eq_by_cmp vrp_cmp v w) (same_list vs ws) h in λ i. tied v w parts.0 i ∷ lists_same vs ws parts.1 i

-- the equality that is derived for lists of payloads
pub tied_lists : (vs ws : List Payload) → pointwise (derived_eq.ghosts).eq vs ws ≡ same_list vs ws
tied_lists [] [] = refl
tied_lists [] (w ∷ ws) = refl
tied_lists (v ∷ vs) [] = refl
tied_lists (v ∷ vs) (w ∷ ws) = λ i. matches_eq-law v w i && tied_lists vs ws i

list_itself : (vs : List Payload) → same_list vs vs ≡ true
list_itself [] = refl
list_itself (v ∷ vs) = λ i. is_eq (tied_itself vrp_total v i) && list_itself vs i

-- The test of equal sets is exact.
pub same_exactly : SameExactly
same_exactly s t = (
  λ h. sym (set_of-listing s) ∙ ap set_of (lists_same (listing s) (listing t) h) ∙ set_of-listing t,
  λ e. subst (λ x. is_same s x ≡ true) e (list_itself (listing s)),
)

-- a set that is not the newest one is another
other_set : (s t : VrpSet) → is_same s t ≡ false → t ≢ s
other_set s t different e = let h : is_same s t ≡ true = (same_exactly s t).1 (sym e) in absurd (let k : false ≡ true = sym different ∙ h in cc)

news : (sets : List VrpSet) (set : VrpSet) → is_current sets set ≡ false → AreNews sets → AreNews (set ∷ sets)
news [] set other h = tt
news (now ∷ older) set other h = (other_set now set other, h)

published_by : (b : Bool) (set : VrpSet) (i : Instance) → is_current i.sets set ≡ b → IsVrpSet set → IsInstance i → IsInstance (if b then i else record i { sets = set ∷ i.sets })
published_by true set i e fits h = h
published_by false set i e fits h = record { session = h.session; session0 = h.session0; start = h.start; sets = (fits, h.sets); news = news i.sets set e h.news }

pub published_is_instance : PublishedIsInstance
published_is_instance set i fits h = published_by (is_current i.sets set) set i refl fits h

-- serials of places that are nearer than 2^32 differ
pub serial_differs : (start place steps : ℕ) → 0 < steps → steps < 2 ^ 32 → (serial_at start (place + steps) == serial_at start place) ≡ false
serial_differs start place steps some few =
    let h : (start + (place + steps)) % 4294967296 ≡ (start + place) % 4294967296 → ⊥ = λ e. absurd (omega (arith, e, some, few)) in
    differ _ _ h
  where
    differ : (a b : ℕ) → (a ≡ b → ⊥) → (a == b) ≡ false
    differ a b h = grind (arith, nat_tests, h)

-- how many versions are newer
place_of : (newer : List VrpSet) (set : VrpSet) (older : List VrpSet) → length (newer ++ set ∷ older) ≡ length older + (length newer + 1)
place_of newer set older = omega (arith, length-append newer (set ∷ older))

-- a newer version is skipped
passed : (start : ℕ) (x : VrpSet) (newer : List VrpSet) (set : VrpSet) (older : List VrpSet) → length newer + 1 < 2 ^ 32
    → (serial_at start (length (newer ++ set ∷ older)) == serial_at start (length older)) ≡ false
passed start x newer set older few =
    ap (λ k. serial_at start k == serial_at start (length older)) (place_of newer set older)
    ∙ serial_differs start (length older) (length newer + 1) (omega arith) few

abbrev the_version : ℕ → VrpSet → List VrpSet → NumberedSet
the_version start set older = record { serial = serial_at start (length older); set = set }

pub names_itself : NamesItself
names_itself start [] set older few = ap (λ b. if b then Some (the_version start set older) else with_serial (serial_at start (length older)) (versions_from start older)) (eq_self (serial_at start (length older)))
names_itself start (x ∷ newer) set older few =
    ap (λ b. if b then Some (the_version start x (newer ++ set ∷ older)) else with_serial (serial_at start (length older)) (versions_from start (newer ++ set ∷ older))) (passed start x newer set older (omega (arith, few)))
    ∙ names_itself start newer set older (omega (arith, few))

pub kept_is_itself : KeptIsItself
kept_is_itself start zero newer set older few = inl refl
kept_is_itself start (suc kept) [] set older few =
    inr (ap (λ b. if b then Some (the_version start set older) else with_serial (serial_at start (length older)) (take kept (versions_from start older))) (eq_self (serial_at start (length older))))
kept_is_itself start (suc kept) (x ∷ newer) set older few =
    let on = ap (λ b. if b then Some (the_version start x (newer ++ set ∷ older)) else with_serial (serial_at start (length older)) (take kept (versions_from start (newer ++ set ∷ older)))) (passed start x newer set older (omega (arith, few))) in
    elim (kept_is_itself start kept newer set older (omega (arith, few))) [ inl none ↦ inl (on ∙ none) | inr it ↦ inr (on ∙ it) ]

-- A version is before one that fewer than 2^31 publications made after it.
pub is_before_newer : IsBeforeNewer
is_before_newer start place steps some few =
    let ahead : steps_to (serial_at start place) (serial_at start (place + steps)) ≡ steps = omega (arith, some, few) in
    ap (λ k. nat_le 1 k && nat_lt k 2147483648) ahead ∙ (λ i. le_true some i && lt_true few i)
  where
    le_true : 0 < steps → nat_le 1 steps ≡ true
    le_true h = grind (arith, nat_tests)

    lt_true : steps < 2147483648 → nat_lt steps 2147483648 ≡ true
    lt_true h = grind (arith, nat_tests)
