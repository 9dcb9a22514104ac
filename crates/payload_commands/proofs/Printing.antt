-- What several lines in a row print.
use Rattle.std.proofs.Common.{◌≡◌, ℕ, suc, ◌+◌, ◌<◌, List, [], ◌∷◌, ◌++◌, length, get_or, take, Option, ap, sym, subst, ◌∙◌, append-nil, arith}
use Rattle.std.specs.List.{flat_map}
use Rattle.std.proofs.Math.Seq.{take-suc}
use Rattle.std.specs.Io.KnownBytes.{Appends}
use Rattle.std.proofs.KnownBytes.{Appends-trans}
use Rattle.std.proofs.lemmas.List.Concat.{flat_map-append}

-- one element more of a list whose elements are printed in their order
pub prints_next : {X : Type 0} (f : X → List ℕ) (a b c : Option (List ℕ)) (xs : List X) (i : ℕ) (x : X) → i < length xs → x ≡ get_or xs i x → Appends a b (flat_map f (take i xs)) → Appends b c (f x)
    → Appends a c (flat_map f (take (i + 1) xs))
prints_next {X} f a b c xs i x less is before after =
    let next : i + 1 ≡ suc i = omega arith in
    let more : flat_map f (take (i + 1) xs) ≡ flat_map f (take i xs) ++ f x =
    ap (λ (n : ℕ). flat_map f (take n xs)) next ∙ ap (flat_map f) (take-suc xs i x less) ∙ flat_map-append f (take i xs) (get_or xs i x ∷ [])
    ∙ ap (λ (l : List ℕ). flat_map f (take i xs) ++ l) (append-nil (f (get_or xs i x)) ∙ ap f (sym is)) in
    subst (λ (l : List ℕ). Appends a c l) (sym more) (Appends-trans a b c (flat_map f (take i xs)) (f x) before after)
