-- Searching in sorted texts.
use Rattle.std.proofs.Common.{◌≡◌, ◌≢◌, ◌<◌, inl, inr, ℕ, zero, suc, Bool, true, false, List, [], ◌∷◌, ◌++◌, map, length, get_or, Result, Ok, Err, is_ok, refl, sym, ap, subst, ◌∙◌, ◌↔◌, arith}
use Rattle.std.specs.Prelude.{IsTrue, bytes_eq}
use Rattle.std.specs.List.{Contains}
use Rattle.std.specs.List.Sorted.{IsBinarySearchResult, IsSearchInRange, IsSortedBy, IsPermutation}
use Rattle.std.specs.Ordering.{nat_cmp, is_lt, is_eq}
use Rattle.std.specs.Cmp.Lexicographic.{slice_cmp}
use Rattle.std.specs.declared.cmp.Ordering.TheVariants.{Equal}
use Rattle.std.proofs.lemmas.Bool.{cases_lt}
use Rattle.std.proofs.lemmas.Cmp.{nat_list_cmp_total}
use Rattle.std.proofs.lemmas.List.Sorted.{searchable_from_sorted, Contains-permutation, IsPermutation-sym}
use Rattle.std.proofs.lemmas.Map.Text.{is_eq-slice_cmp}
use Rattle.std.proofs.lemmas.Slice.Eq.{bytes_eq-Decides}
use Rattle.resource_certificates.specs.Revocations.{SameMembers}

-- texts that compare equal are the same
same_text : (a b : List ℕ) → slice_cmp nat_cmp a b ≡ Equal → a ≡ b
same_text a b e = (bytes_eq-Decides a b).0 (sym (is_eq-slice_cmp a b) ∙ ap is_eq e)

-- and others do not
other_text : (a b : List ℕ) → is_eq (slice_cmp nat_cmp a b) ≡ false → a ≢ b
other_text a b e same = let h : bytes_eq a b ≡ true = (bytes_eq-Decides a b).1 same in let g = sym (is_eq-slice_cmp a b) ∙ e in cc

module _ {X : Type 0} (key : X → List ℕ) where
  -- an element whose text this is
  at_key : (xs : List X) (i : ℕ) (k : List ℕ) → i < length xs → ((d : X) → key (get_or xs i d) ≡ k) → Contains (map key xs) k
  at_key [] i k lt h = absurd (omega (arith, lt))
  at_key (x ∷ xs) zero k lt h = (0, omega arith, h x)
  at_key (x ∷ xs) (suc i) k lt h =
      let r = at_key xs i k (omega (arith, lt)) (λ d. h d) in
      (suc r.0, omega (arith, r.1), r.2)

  -- no element has this text
  no_key : (xs : List X) (k : List ℕ) → ((j : ℕ) (d : X) → j < length xs → key (get_or xs j d) ≢ k) → Contains (map key xs) k → ⊥
  no_key [] k h (j, lt, e) = absurd (omega (arith, lt))
  no_key (x ∷ xs) k h (zero, lt, e) = h 0 x (omega arith) e
  no_key (x ∷ xs) k h (suc j, lt, e) = no_key xs k (λ m d l. h (suc m) d (omega (arith, l))) (j, omega (arith, lt), e)

  unmapped : (xs : List X) (k : List ℕ) → Contains (map key xs) k → (x : X) × Contains xs x × (key x ≡ k)
  unmapped [] k (j, lt, e) = absurd (omega (arith, lt))
  unmapped (x ∷ xs) k (zero, lt, e) = (x, (0, omega arith, refl), e)
  unmapped (x ∷ xs) k (suc j, lt, e) =
      let r = unmapped xs k (j, omega (arith, lt), e) in
      (r.0, (suc r.1.0, omega (arith, r.1.1), r.1.2), r.2)

  mapped : (xs : List X) (x : X) → Contains xs x → Contains (map key xs) (key x)
  mapped [] x (j, lt, e) = absurd (omega (arith, lt))
  mapped (y ∷ xs) x (zero, lt, e) = (0, omega arith, ap key e)
  mapped (y ∷ xs) x (suc j, lt, e) =
      let r = mapped xs x (j, omega (arith, lt), e) in
      (suc r.0, omega (arith, r.1), r.2)

  one_way : (xs ys : List X) (k : List ℕ) → IsPermutation xs ys → Contains (map key xs) k → Contains (map key ys) k
  one_way xs ys k p c =
      let u = unmapped xs k c in
      subst (λ (l : List ℕ). Contains (map key ys) l) u.2 (mapped ys u.0 (Contains-permutation xs ys u.0 p u.1))

  -- a permutation has the same texts
  pub same_members : (xs ys : List X) → IsPermutation xs ys → SameMembers (map key ys) (map key xs)
  same_members xs ys p k = (one_way ys xs k (IsPermutation-sym xs ys p), one_way xs ys k p)

  -- what a search finds in sorted texts
  pub searched : (xs : List X) (k : List ℕ) (r : Result ℕ ℕ) → IsSearchInRange r (length xs) → IsBinarySearchResult (λ y. slice_cmp nat_cmp (key y) k) xs r → IsSortedBy (λ a b. is_lt (slice_cmp nat_cmp (key a) (key b))) xs
      → IsTrue (is_ok r) ↔ Contains (map key xs) k
  searched xs k (Ok i) bound found sorted = ((λ t. at_key xs i k bound (λ d. same_text (key (get_or xs i d)) k (found d))), λ c. refl)
  searched xs k (Err i) bound found sorted =
      let parted = found (searchable_from_sorted nat_list_cmp_total key xs k sorted) in
      let never : (j : ℕ) (d : X) → j < length xs → key (get_or xs j d) ≢ k = λ j d lt.
      elim (cases_lt j i) [
        | inl h ↦ other_text (key (get_or xs j d)) k (ap is_eq (parted.0 j d (omega arith) h))
        | inr h ↦ other_text (key (get_or xs j d)) k (ap is_eq (parted.1 j d h lt))
      ] in
      ((λ t. absurd cc), λ c. absurd (no_key xs k never c))

  -- the same of a copy whose texts are a value
  pub searched_in : (items xs : List X) (texts : List (List ℕ)) (k : List ℕ) (r : Result ℕ ℕ) (b : Bool) → b ≡ is_ok r → xs ≡ items → map key items ≡ texts → IsSearchInRange r (length xs)
      → IsBinarySearchResult (λ y. slice_cmp nat_cmp (key y) k) xs r → IsSortedBy (λ x y. is_lt (slice_cmp nat_cmp (key x) (key y))) items → IsTrue b ↔ Contains texts k
  searched_in items xs texts k r b answers same shown bound found sorted =
      let s = searched xs k r bound found (subst (λ (l : List X). IsSortedBy (λ x y. is_lt (slice_cmp nat_cmp (key x) (key y))) l) (sym same) sorted) in
      subst (λ (l : List (List ℕ)). IsTrue b ↔ Contains l k) (ap (λ (l : List X). map key l) same ∙ shown) (subst (λ (a : Bool). IsTrue a ↔ Contains (map key xs) k) (sym answers) s)

  -- a sorted copy has the same texts
  pub copied : (start given xs ys : List X) (texts : List (List ℕ)) → start ≡ [] → xs ≡ start ++ given → map key given ≡ texts → IsPermutation xs ys → SameMembers (map key ys) texts
  copied start given xs ys texts none made shown p =
      let same : xs ≡ given = made ∙ ap (λ (l : List X). l ++ given) none in
      subst (λ (l : List (List ℕ)). SameMembers (map key ys) l) (ap (λ (l : List X). map key l) same ∙ shown) (same_members xs ys p)
