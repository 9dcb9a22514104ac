-- Values that lists have.
use Rattle.std.proofs.Common.{◌≡◌, ◌⊎◌, inl, inr, ℕ, ◌+◌, ◌<◌, ◌≤◌, List, [], ◌∷◌, ◌++◌, length, take, get_or, sym, subst, ap, ◌∙◌, ◌↔◌, arith}
use Rattle.std.specs.List.{All, Contains}
use Rattle.std.proofs.lemmas.List.{take_all}
use Rattle.std.proofs.lemmas.List.Elements.{All-more, Contains-append_left, Contains-append_right, Contains-append_cases, Contains-push, Contains-push_cases}
use Rattle.authority_walk.specs.Walks.{Has, HasExactly, With}

-- an empty list has none
pub contains_none : {X : Type 0} (xs : List X) → length xs ≡ 0 → (x : X) → ¬ (Contains xs x)
contains_none xs e x (k, lt, is) = absurd (omega (arith, e))

pub has_none : {A V : Type 0} (value : A → V) (xs : List A) → length xs ≡ 0 → (x : V) → ¬ (Has value xs x)
has_none value xs e x (a, among, is) = contains_none xs e a among

-- the same list has the same
pub has_same : {A V : Type 0} (value : A → V) (xs ys : List A) → ys ≡ xs → (x : V) → Has value ys x ↔ Has value xs x
has_same value xs ys e x = (subst (λ zs. Has value zs x) e, subst (λ zs. Has value zs x) (sym e))

-- a list with one more has that too
pub has_pushed : {A V : Type 0} (value : A → V) (xs ys : List A) (a : A) → ys ≡ xs ++ a ∷ [] → (x : V) → Has value ys x ↔ With (Has value xs) (value a) x
has_pushed {A} {V} value xs ys a e x = (
  λ k. (let (b, among, is) = subst (λ zs. Has value zs x) e k in
      elim (Contains-push_cases xs a b among) [ inl h ↦ inl (b, h, is) | inr same ↦ inr (ap value same ∙ is) ]),
  λ k. subst (λ zs. Has value zs x) (sym e) (elim k [ inl (b, among, is) ↦ (b, Contains-append_left xs (a ∷ []) b among, is) | inr is ↦ (a, Contains-push xs a, is) ]),
)

-- a list with others behind it has those too
pub contains_added : {X : Type 0} (xs ys zs : List X) (P : X → Type 0) → zs ≡ xs ++ ys → ((x : X) → Contains ys x ↔ P x) → (x : X) → Contains zs x ↔ (Contains xs x ⊎ P x)
contains_added {X} xs ys zs P e exact x = (
  λ k. elim (Contains-append_cases xs ys x (subst (λ l. Contains l x) e k)) [ inl h ↦ inl h | inr h ↦ inr ((exact x).0 h) ],
  λ k. subst (λ l. Contains l x) (sym e) (elim k [ inl h ↦ Contains-append_left xs ys x h | inr p ↦ Contains-append_right xs ys x ((exact x).1 p) ]),
)

pub has_added : {A V : Type 0} (value : A → V) (xs ys zs : List A) (P : V → Type 0) → zs ≡ xs ++ ys → HasExactly value ys P → (x : V) → Has value zs x ↔ (Has value xs x ⊎ P x)
has_added {A} {V} value xs ys zs P e exact x = (
  λ k. (let (a, among, is) = subst (λ l. Has value l x) e k in
      elim (Contains-append_cases xs ys a among) [ inl h ↦ inl (a, h, is) | inr h ↦ inr ((exact x).0 (a, h, is)) ]),
  λ k. subst (λ l. Has value l x) (sym e) (elim k [
    | inl (a, among, is) ↦ (a, Contains-append_left xs ys a among, is)
    | inr p ↦ (let (a, among, is) = (exact x).1 p in (a, Contains-append_right xs ys a among, is))
  ]),
)

-- ---- a loop over a list ys, which is xs

-- what is true of those so far, and of one more
pub all_so_far : {X : Type 0} (P : X → Type 0) (xs ys : List X) (i : ℕ) (a : X) → ys ≡ xs → i < length ys → a ≡ get_or ys i a → All P (take i xs) → P a → All P (take (i + 1) xs)
all_so_far P xs ys i a e lt is h p = All-more P xs i a (subst (λ l. i < length l) e lt) h (subst P (subst (λ l. a ≡ get_or l i a) e is) p)

pub all_at_end : {X : Type 0} (P : X → Type 0) (xs ys : List X) (i : ℕ) → ys ≡ xs → length ys ≤ i → All P (take i xs) → All P xs
all_at_end P xs ys i e le h = subst (All P) (take_all i xs (subst (λ l. length l ≤ i) e le)) h

pub found_at : {X : Type 0} (xs ys : List X) (i : ℕ) (a : X) → ys ≡ xs → i < length ys → a ≡ get_or ys i a → Contains xs a
found_at xs ys i a e lt is = subst (λ l. Contains l a) e (i, lt, sym is)
