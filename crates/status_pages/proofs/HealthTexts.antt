-- Texts, one after the other.
use Rattle.std.proofs.Common.{◌≡◌, ◌++◌, ℕ, ◌+◌, ◌<◌, List, [], ◌∷◌, Option, Result, Ok, Err, OnOk, length, take, get_or, ap, refl, subst, sym, append_assoc, ◌∙◌}
use Rattle.std.proofs.KnownBytes.{Appends-trans}
use Rattle.std.proofs.lemmas.List.{append-nil, take_more}
use Rattle.std.specs.Io.KnownBytes.{Appends}
use Rattle.status_pages.specs.Health.{AppendsSome, Both, InTurn}

-- One text was appended, and then another.
pub both : {T E : Type 0} (r : Result T E) (x y z : Option (List ℕ)) (P Q : List ℕ → Type 0)
    → AppendsSome x y P → OnOk r (AppendsSome y z Q) → OnOk r (AppendsSome x z (Both P Q))
both (Ok t) x y z P Q a b = (a.0 ++ b.0, (a.0, b.0, a.1, b.1, refl), Appends-trans x y z a.0 b.0 a.2 b.2)
both (Err e) x y z P Q a b = tt

-- The first one is known.
pub then : {T E : Type 0} (r : Result T E) (x y z : Option (List ℕ)) (text : List ℕ) (Q : List ℕ → Type 0)
    → Appends x y text → OnOk r (AppendsSome y z Q) → OnOk r (AppendsSome x z (Both (λ t. t ≡ text) Q))
then r x y z text Q a b = both r x y z (λ t. t ≡ text) Q (text, refl, a) b

one_after : {A : Type 0} (P : A → List ℕ → Type 0) (list : List A) (x : A) (a b : List ℕ) → InTurn P list a → P x b → InTurn P (list ++ x ∷ []) (a ++ b)
one_after P [] x a b e h = (b, [], h, refl, ap (λ y. y ++ b) e ∙ sym (append-nil b))
one_after P (y ∷ list) x a b t h =
    (t.0, t.1 ++ b, t.2, one_after P list x t.1 b t.3 h, ap (λ z. z ++ b) t.4 ∙ append_assoc t.0 t.1 b)

-- The text of the element at the next place was written.
pub one_more : {A : Type 0} (P : A → List ℕ → Type 0) (list : List A) (i : ℕ) (e : A) (x y z : Option (List ℕ)) → i < length list → e ≡ get_or list i e
    → AppendsSome x y (InTurn P (take i list)) → AppendsSome y z (P e)
    → AppendsSome x z (InTurn P (take (i + 1) list))
one_more {A} P list i e x y z l is before next = (
  before.0 ++ next.0,
  subst (λ (es : List A). InTurn P es (before.0 ++ next.0)) (sym (take_more list i e l ∙ ap (λ g. take i list ++ g ∷ []) (sym is)))
      (one_after P (take i list) e before.0 next.0 before.1 next.1),
  Appends-trans x y z before.0 next.0 before.2 next.2,
)
