-- Files found by their names.
use Rattle.std.proofs.Common.{◌≡◌, ◌≢◌, ◌⊎◌, ℕ, zero, suc, ◌<◌, Bool, true, false, ◌||◌, cond, get_or, bytes_eq, List, [], ◌∷◌, ◌++◌, length, Some, refl, sym, ap, ◌∙◌, inl, inr, arith}
use Rattle.std.proofs.Math.Bool.{or-false}
use Rattle.std.specs.List.{Contains}
use Rattle.std.proofs.lemmas.Bool.{false_from_ne_true}
use Rattle.std.proofs.lemmas.Slice.Eq.{bytes_eq-Decides}
use Rattle.std.proofs.lemmas.List.Folds.{list_any-append}
use Rattle.points.specs.declared.file.FileIn.{FileIn}
use Rattle.points.specs.Files.{has_name, is_named, file_named}

pub differs : (a b : List ℕ) → bytes_eq a b ≡ false → a ≢ b
differs a b h e = let t : bytes_eq a b ≡ true = (bytes_eq-Decides a b).1 e in cc

pub not_equal : (a b : List ℕ) → a ≢ b → bytes_eq a b ≡ false
not_equal a b n = false_from_ne_true (bytes_eq a b) (λ t. n ((bytes_eq-Decides a b).0 t))

-- an element is the first or one of the others
pub contains_cases : {X : Type 0} (x y : X) (ys : List X) → Contains (y ∷ ys) x → (y ≡ x) ⊎ Contains ys x
contains_cases {X} x y ys c = at c.0 c.1 c.2
  where
    at : (k : ℕ) → k < length (y ∷ ys) → get_or (y ∷ ys) k x ≡ x → (y ≡ x) ⊎ Contains ys x
    at zero l e = inl e
    at (suc k) l e = inr (k, omega arith, e)

pub contains_first : {X : Type 0} (x y : X) (ys : List X) → y ≡ x → Contains (y ∷ ys) x
contains_first x y ys e = (0, omega arith, e)

pub contains_later : {X : Type 0} (x y : X) (ys : List X) → Contains ys x → Contains (y ∷ ys) x
contains_later x y ys c = (suc c.0, omega (arith, c.1), c.2)

-- a name among files and one more
pub named_more : (name : List ℕ) (earlier : List FileIn) (file : FileIn) → is_named name (earlier ++ file ∷ []) ≡ (is_named name earlier || bytes_eq file.name.now name)
named_more name earlier file =
    list_any-append (has_name name) earlier (file ∷ []) ∙ ap (λ b. is_named name earlier || b) (or-false (bytes_eq file.name.now name))

some_is : (f g : FileIn) → Some f ≡ Some g → f ≡ g
some_is f g e = cc

found_at : (name : List ℕ) (g f : FileIn) (files : List FileIn) (b : Bool) → bytes_eq g.name.now name ≡ b → (file_named name files ≡ Some f → Contains files f × (f.name.now ≡ name))
    → cond b (Some g) (file_named name files) ≡ Some f → Contains (g ∷ files) f × (f.name.now ≡ name)
found_at name g f files true t later e =
    let here = some_is g f e in
    (contains_first f g files here, ap (λ (x : FileIn). x.name.now) (sym here) ∙ (bytes_eq-Decides g.name.now name).0 t)
found_at name g f files false t later e = let r = later e in (contains_later f g files r.0, r.1)

-- the file that a name finds is one of the files, and has the name
pub found : (name : List ℕ) (files : List FileIn) (f : FileIn) → file_named name files ≡ Some f → Contains files f × (f.name.now ≡ name)
found name [] f e = absurd cc
found name (g ∷ files) f e = found_at name g f files (bytes_eq g.name.now name) refl (found name files f) e
