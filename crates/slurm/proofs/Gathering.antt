-- What files are about, gathered in one list.
use Rattle.std.proofs.Common.{◌≡◌, ◌⊎◌, inl, inr, ℕ, zero, suc, ◌+◌, ◌<◌, List, [], ◌∷◌, ◌++◌, length, map, take, get_or, Option, Some, None, refl, sym, ap, ◌∙◌, subst, arith, append_assoc, append-nil}
use Rattle.std.specs.Prelude.{Contains}
use Rattle.std.specs.List.{cons_option, filter_map, flat_map, slice_get}
use Rattle.std.proofs.lemmas.List.{length-map, length-take-le, take_more}
use Rattle.std.proofs.lemmas.List.Elements.{Contains-append_cases, Contains-append_left, Contains-append_right, Contains-push, Contains-push_cases, filter_map-append}
use Rattle.slurm.specs.Claims.{claims_from}
use Rattle.slurm.specs.Scoped.{Scoped}

-- ---- one more

module _ {A B : Type 0} (g : List A → List B) (joins : (xs ys : List A) → g (xs ++ ys) ≡ g xs ++ g ys) where
  -- what one more element adds
  pub one_more : (fs : List A) (i : ℕ) (f : A) (old now after more : List B) → i < length fs → f ≡ get_or fs i f → now ≡ old ++ g (take i fs) → g (f ∷ []) ≡ more → after ≡ now ++ more → after ≡ old ++ g (take (i + 1) fs)
  one_more fs i f old now after more h is so_far adds pushed =
      pushed ∙ (λ k. so_far k ++ sym adds k) ∙ append_assoc old (g (take i fs)) (g (f ∷ []))
      ∙ ap (λ ys. old ++ ys) (sym (joins (take i fs) (f ∷ [])) ∙ ap g (sym (take_more fs i f h ∙ ap (λ z. take i fs ++ z ∷ []) (sym is))))

  pub no_more : (fs : List A) (i : ℕ) (f : A) (old now after : List B) → i < length fs → f ≡ get_or fs i f → now ≡ old ++ g (take i fs) → g (f ∷ []) ≡ [] → after ≡ now → after ≡ old ++ g (take (i + 1) fs)
  no_more fs i f old now after h is so_far adds same = one_more fs i f old now after [] h is so_far adds (same ∙ sym (append-nil now))

map-append : {A B : Type 0} (f : A → B) (xs ys : List A) → map f (xs ++ ys) ≡ map f xs ++ map f ys
map-append f [] ys = refl
map-append f (x ∷ xs) ys = ap (λ zs. f x ∷ zs) (map-append f xs ys)

-- of those that have one
pub some_join : {A B C : Type 0} (h : A → Option B) (f : B → C) (xs ys : List A) → map f (filter_map h (xs ++ ys)) ≡ map f (filter_map h xs) ++ map f (filter_map h ys)
some_join h f xs ys = ap (map f) (filter_map-append h xs ys) ∙ map-append f (filter_map h xs) (filter_map h ys)

module _ {A B C : Type 0} (h : A → Option B) (f : B → C) (x : A) where
  pub adds_one : (y : B) → h x ≡ Some y → map f (filter_map h (x ∷ [])) ≡ f y ∷ []
  adds_one y is = ap (λ o. map f (cons_option o [])) is

  pub adds_none : h x ≡ None → map f (filter_map h (x ∷ [])) ≡ []
  adds_none is = ap (λ o. map f (cons_option o [])) is

pub flat_join : {A B C : Type 0} (h : B → List C) (f : A → B) (xs ys : List A) → flat_map h (map f (xs ++ ys)) ≡ flat_map h (map f xs) ++ flat_map h (map f ys)
flat_join h f [] ys = refl
flat_join h f (x ∷ xs) ys = ap (λ zs. h (f x) ++ zs) (flat_join h f xs ys) ∙ sym (append_assoc (h (f x)) (flat_map h (map f xs)) (flat_map h (map f ys)))

-- ---- members

module _ {A : Type 0} where
  none : (x : A) → ¬ (Contains [] x)
  none x h = absurd (omega (arith, h.1))

  first_of : (x : A) (xs : List A) → Contains (x ∷ xs) x
  first_of x xs = Contains-append_left (x ∷ []) xs x (Contains-push [] x)

  rest_of : (x : A) (xs : List A) (y : A) → Contains xs y → Contains (x ∷ xs) y
  rest_of x xs y h = Contains-append_right (x ∷ []) xs y h

  in_one : (x y : A) → Contains [] y ⊎ (x ≡ y) → x ≡ y
  in_one x y (inl h) = absurd (none y h)
  in_one x y (inr e) = e

  either : (x : A) (xs : List A) (y : A) → Contains (x ∷ []) y ⊎ Contains xs y → (x ≡ y) ⊎ Contains xs y
  either x xs y (inl h) = inl (in_one x y (Contains-push_cases [] x y h))
  either x xs y (inr h) = inr h

  in_cases : (x : A) (xs : List A) (y : A) → Contains (x ∷ xs) y → (x ≡ y) ⊎ Contains xs y
  in_cases x xs y h = either x xs y (Contains-append_cases (x ∷ []) xs y h)

module _ {A B : Type 0} (f : A → B) where
  abbrev Comes : List A → B → Type 0
  Comes xs y = (x : A) × Contains xs x × (y ≡ f x)

  mapped : (xs : List A) (y : B) → Contains (map f xs) y → Comes xs y
  mapped [] y h = absurd (none y h)
  mapped (x ∷ xs) y h = by_place (λ k. mapped xs y k) (in_cases (f x) (map f xs) y h)
    where
      further : Comes xs y → Comes (x ∷ xs) y
      further m = (m.0, rest_of x xs m.0 m.1, m.2)

      by_place : (Contains (map f xs) y → Comes xs y) → (f x ≡ y) ⊎ Contains (map f xs) y → Comes (x ∷ xs) y
      by_place rest (inl e) = (x, first_of x xs, sym e)
      by_place rest (inr k) = further (rest k)

  map_there : (xs : List A) (x : A) → Contains xs x → Contains (map f xs) (f x)
  map_there [] x h = absurd (none x h)
  map_there (y ∷ xs) x h = by_place (λ k. map_there xs x k) (in_cases y xs x h)
    where
      by_place : (Contains xs x → Contains (map f xs) (f x)) → (y ≡ x) ⊎ Contains xs x → Contains (map f (y ∷ xs)) (f x)
      by_place rest (inl e) = subst (λ z. Contains (map f (y ∷ xs)) (f z)) e (first_of (f y) (map f xs))
      by_place rest (inr k) = rest_of (f y) (map f xs) (f x) (rest k)

-- ---- claims

module _ {X C : Type 0} (claim : ℕ → X → C) (about : Scoped → List X) where
  claims_join : (n : ℕ) (ss ts : List Scoped) → claims_from claim about n (ss ++ ts) ≡ claims_from claim about n ss ++ claims_from claim about (n + length ss) ts
  claims_join n [] ts = ap (λ m. claims_from claim about m ts) (omega arith)
  claims_join n (s ∷ ss) ts =
      ap (λ zs. map (claim n) (about s) ++ zs) (claims_join (suc n) ss ts ∙ ap (λ m. claims_from claim about (suc n) ss ++ claims_from claim about m ts) (omega arith))
      ∙ sym (append_assoc (map (claim n) (about s)) (claims_from claim about (suc n) ss) (claims_from claim about (n + length (s ∷ ss)) ts))

  -- what one more file claims
  pub one_file : {F : Type 0} (seen : F → Scoped) (fs : List F) (i : ℕ) (f : F) (now after : List C) → i < length fs → f ≡ get_or fs i f → now ≡ claims_from claim about 0 (map seen (take i fs))
      → after ≡ now ++ map (claim i) (about (seen f)) → after ≡ claims_from claim about 0 (map seen (take (i + 1) fs))
  one_file seen fs i f now after h is so_far pushed =
      let here : 0 + length (map seen (take i fs)) ≡ i = omega (arith, length-map (take i fs) seen, length-take-le i fs (omega (arith, h))) in
      let last : claims_from claim about (0 + length (map seen (take i fs))) (seen f ∷ []) ≡ map (claim i) (about (seen f)) =
      ap (λ m. claims_from claim about m (seen f ∷ [])) here ∙ append-nil (map (claim i) (about (seen f))) in
      let cut : take (i + 1) fs ≡ take i fs ++ f ∷ [] = take_more fs i f h ∙ ap (λ z. take i fs ++ z ∷ []) (sym is) in
      pushed ∙ (λ k. so_far k ++ sym last k) ∙ sym (claims_join 0 (map seen (take i fs)) (seen f ∷ [])) ∙ ap (claims_from claim about 0) (sym (ap (map seen) cut ∙ map-append seen (take i fs) (f ∷ [])))

  -- Whose claim it is
  pub record ClaimOf (n : ℕ) (ss : List Scoped) (c : C) : Type 0 where
    pub index : ℕ
    pub file : Scoped
    pub file_is : slice_get ss index ≡ Some file
    pub thing : X
    pub is_about : Contains (about file) thing
    pub claim_is : c ≡ claim (n + index) thing

  pub whose : (n : ℕ) (ss : List Scoped) (c : C) → Contains (claims_from claim about n ss) c → ClaimOf n ss c
  whose n [] c h = absurd (none c h)
  whose n (s ∷ ss) c h = by_place (λ k. whose (suc n) ss c k) (Contains-append_cases (map (claim n) (about s)) (claims_from claim about (suc n) ss) c h)
    where
      first : Comes (claim n) (about s) c → ClaimOf n (s ∷ ss) c
      first m = record { index = 0; file = s; file_is = refl; thing = m.0; is_about = m.1; claim_is = m.2 ∙ ap (λ k. claim k m.0) (omega arith) }

      further : ClaimOf (suc n) ss c → ClaimOf n (s ∷ ss) c
      further m =
          record { index = suc m.index; file = m.file; file_is = m.file_is; thing = m.thing; is_about = m.is_about; claim_is = m.claim_is ∙ ap (λ k. claim k m.thing) (omega arith) }

      by_place : (Contains (claims_from claim about (suc n) ss) c → ClaimOf (suc n) ss c) → Contains (map (claim n) (about s)) c ⊎ Contains (claims_from claim about (suc n) ss) c → ClaimOf n (s ∷ ss) c
      by_place rest (inl k) = first (mapped (claim n) (about s) c k)
      by_place rest (inr k) = further (rest k)

  pub claimed : (n : ℕ) (ss : List Scoped) (i : ℕ) (s : Scoped) (x : X) → slice_get ss i ≡ Some s → Contains (about s) x → Contains (claims_from claim about n ss) (claim (n + i) x)
  claimed n [] i s x is h = absurd (cc)
  claimed n (t ∷ ss) zero s x is h =
      let same : t ≡ s = some_is t s is in
      subst (λ m. Contains (claims_from claim about n (t ∷ ss)) (claim m x)) (omega arith)
      (Contains-append_left (map (claim n) (about t)) (claims_from claim about (suc n) ss) (claim n x) (map_there (claim n) (about t) x (subst (λ u. Contains (about u) x) (sym same) h)))
    where
      some_is : (a b : Scoped) → Some a ≡ Some b → a ≡ b
      some_is a b e = cc
  claimed n (t ∷ ss) (suc i) s x is h =
      subst (λ m. Contains (claims_from claim about n (t ∷ ss)) (claim m x)) (omega arith)
      (Contains-append_right (map (claim n) (about t)) (claims_from claim about (suc n) ss) (claim (suc n + i) x) (claimed (suc n) ss i s x is h))

  pub claimed_by : (ss : List Scoped) (i : ℕ) (s : Scoped) (x : X) → slice_get ss i ≡ Some s → Contains (about s) x → Contains (claims_from claim about 0 ss) (claim i x)
  claimed_by ss i s x is h =
      let same : 0 + i ≡ i = omega arith in
      subst (λ m. Contains (claims_from claim about 0 ss) (claim m x)) same (claimed 0 ss i s x is h)
