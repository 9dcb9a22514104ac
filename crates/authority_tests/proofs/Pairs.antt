-- The second of each pair with a number.
use Rattle.std.proofs.Common.{◌≡◌, inl, inr, ℕ, ◌+◌, ◌<◌, List, [], ◌∷◌, ◌++◌, length, take, get_or, sym, subst, ap, ◌∙◌, ◌↔◌}
use Rattle.std.specs.Prelude.{◌≢◌}
use Rattle.std.specs.List.{Contains}
use Rattle.std.proofs.lemmas.List.{take_more}
use Rattle.std.proofs.lemmas.List.Elements.{Contains-append_left, Contains-push, Contains-push_cases}

-- a pair with the number
pub picked : {T : Type 0} (xs : List (ℕ × T)) (ys zs : List T) (i n : ℕ) (p : ℕ × T) → i < length xs → p ≡ get_or xs i p → p.0 ≡ n → zs ≡ ys ++ p.1 ∷ [] → ((x : T) → Contains ys x ↔ Contains (take i xs) (n, x)) → (x : T) → Contains zs x ↔ Contains (take (i + 1) xs) (n, x)
picked {T} xs ys zs i n p lt is same e h x =
    let front : take (i + 1) xs ≡ take i xs ++ p ∷ [] = take_more xs i p lt ∙ ap (λ (q : ℕ × T). take i xs ++ q ∷ []) (sym is) in
    let pair : p ≡ (n, p.1) = ap (λ (k : ℕ). (k, p.1)) same in (
      λ k. subst (λ l. Contains l (n, x)) (sym front) (elim (Contains-push_cases ys p.1 x (subst (λ l. Contains l x) e k)) [
        | inl c ↦ Contains-append_left (take i xs) (p ∷ []) (n, x) ((h x).0 c)
        | inr last ↦ subst (Contains (take i xs ++ p ∷ [])) (pair ∙ ap (λ (y : T). (n, y)) last) (Contains-push (take i xs) p)
      ]),
      λ k. subst (λ l. Contains l x) (sym e) (elim (Contains-push_cases (take i xs) p (n, x) (subst (λ l. Contains l (n, x)) front k)) [
        | inl c ↦ Contains-append_left ys (p.1 ∷ []) x ((h x).1 c)
        | inr last ↦ subst (Contains (ys ++ p.1 ∷ [])) (ap (λ (q : ℕ × T). q.1) last) (Contains-push ys p.1)
      ]),
    )

-- a pair with another
pub passed : {T : Type 0} (xs : List (ℕ × T)) (ys : List T) (i n : ℕ) (p : ℕ × T) → i < length xs → p ≡ get_or xs i p → p.0 ≢ n → ((x : T) → Contains ys x ↔ Contains (take i xs) (n, x)) → (x : T) → Contains ys x ↔ Contains (take (i + 1) xs) (n, x)
passed {T} xs ys i n p lt is other h x =
    let front : take (i + 1) xs ≡ take i xs ++ p ∷ [] = take_more xs i p lt ∙ ap (λ (q : ℕ × T). take i xs ++ q ∷ []) (sym is) in (
      λ k. subst (λ l. Contains l (n, x)) (sym front) (Contains-append_left (take i xs) (p ∷ []) (n, x) ((h x).0 k)),
      λ k. elim (Contains-push_cases (take i xs) p (n, x) (subst (λ l. Contains l (n, x)) front k)) [
        | inl c ↦ (h x).1 c
        | inr last ↦ absurd (other (ap (λ (q : ℕ × T). q.0) last))
      ],
    )
