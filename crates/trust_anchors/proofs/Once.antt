-- Bytes are read in one way.
use Rattle.std.proofs.Common.{◌≡◌, ℕ, suc, ◌+◌, List, [], ◌∷◌, ◌++◌, length, get_or, drop, refl, sym, ap, subst, ◌∙◌, arith, length-append}
use Rattle.std.proofs.lemmas.List.{get_or_at}
use Rattle.std.specs.List.{concat}
use Rattle.std.specs.Str.Iter.{LacksByte}
use Rattle.std.specs.Str.Lines.{strip_carriage_return}
use Rattle.trust_anchors.specs.Lines.{IsLine, Lines, Section, IsAny, Joins}

-- two lists, cut at the first LF
cut : (xs ys r s : List ℕ) → LacksByte 10 xs → LacksByte 10 ys → xs ++ 10 ∷ r ≡ ys ++ 10 ∷ s → (xs ≡ ys) × (r ≡ s)
cut [] [] r s x y e = (refl, ap (drop 1) e)
cut [] (b ∷ ys) r s x y e = absurd (y 0 (omega arith) (sym (ap (λ l. get_or l 0 0) e)))
cut (a ∷ xs) [] r s x y e = absurd (x 0 (omega arith) (ap (λ l. get_or l 0 0) e))
cut (a ∷ xs) (b ∷ ys) r s x y e =
    let rest : (xs ≡ ys) × (r ≡ s) = cut xs ys r s (λ k l. x (suc k) (omega arith)) (λ k l. y (suc k) (omega arith)) (ap (drop 1) e) in
    (ap (λ h. h ∷ xs) (ap (λ l. get_or l 0 0) e) ∙ ap (λ t. b ∷ t) rest.0, rest.1)

pub same_line : (line other rest after bytes : List ℕ) → IsLine line rest bytes → IsLine other after bytes → (line ≡ other) × (rest ≡ after)
same_line line other rest after bytes x y =
    let c = cut x.part y.part rest after x.first y.first (sym x.ended ∙ y.ended) in
    (x.text ∙ ap strip_carriage_return c.0 ∙ sym y.text, c.1)

-- A line has a line break.
pub has_break : (line rest bytes : List ℕ) → IsLine line rest bytes → LacksByte 10 bytes → ⊥
has_break line rest bytes l lacks =
    let e : length bytes ≡ length l.part + suc (length rest) = ap length l.ended ∙ length-append l.part (10 ∷ rest) in
    lacks (length l.part) (omega arith) (ap (λ b. get_or b (length l.part) 0) l.ended ∙ get_or_at l.part 10 rest 0 (length l.part) refl)

pub same_lines : (P : List ℕ → Type 0) (xs ys : List (List ℕ)) (r s bytes : List ℕ) → Lines P xs r bytes → Lines P ys s bytes
    → ((line after : List ℕ) → IsLine line after r → P line → ⊥) → ((line after : List ℕ) → IsLine line after s → P line → ⊥) → (xs ≡ ys) × (r ≡ s)
same_lines P [] [] r s bytes x y p q = (refl, sym x ∙ y)
same_lines P [] (b ∷ ys) r s bytes x y p q = absurd (p b y.0 (subst (λ z. IsLine b y.0 z) x y.1) y.2)
same_lines P (a ∷ xs) [] r s bytes x y p q = absurd (q a x.0 (subst (λ z. IsLine a x.0 z) y x.1) x.2)
same_lines P (a ∷ xs) (b ∷ ys) r s bytes x y p q =
    let here = same_line a b x.0 y.0 bytes x.1 y.1 in
    let rest : (xs ≡ ys) × (r ≡ s) = same_lines P xs ys r s y.0 (subst (λ z. Lines P xs r z) here.1 x.3) y.3 p q in
    (ap (λ h. h ∷ xs) here.0 ∙ ap (λ t. b ∷ t) rest.0, rest.1)

pub same_section : (P : List ℕ → Type 0) (xs ys : List (List ℕ)) (r s bytes : List ℕ) → Section P xs r bytes → Section P ys s bytes → (xs ≡ ys) × (r ≡ s)
same_section P xs ys r s bytes x y = same_lines P xs ys r s bytes x.all y.all x.ends y.ends

pub same_text : (text other bytes : List ℕ) → Joins text bytes → Joins other bytes → text ≡ other
same_text text other bytes x y =
    let e = same_lines IsAny x.lines y.lines x.last y.last bytes x.all y.all
    (λ line after is p. has_break line after x.last is x.no_break) (λ line after is p. has_break line after y.last is y.no_break) in
    x.joined ∙ ap (λ l. concat l ++ x.last) e.0 ∙ ap (λ l. concat y.lines ++ l) e.1 ∙ sym y.joined
