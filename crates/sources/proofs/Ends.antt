-- If no record ends between two seconds, as many have expired at each second from the first to the last.
use Rattle.std.proofs.Common.{◌≡◌, ℕ, ◌+◌, ◌≤◌, Bool, true, false, cond, nat_lt, List, [], ◌∷◌, None, Some, refl, sym, ◌∙◌, arith}
use Rattle.std.specs.Prelude.{nat_le, count_by, ◌&&◌}
use Rattle.std.specs.List.{list_any}
use Rattle.std.proofs.lemmas.Bool.Decides.{nat_tests}
use Rattle.std.proofs.lemmas.List.Sums.{sum_by-cons}
use Rattle.sources.specs.TakenLaws.{NothingEnds}
use Rattle.sources.proofs.Counts.{both_false}

-- how many of these last seconds are before a second
abbrev gone : ℕ → List ℕ → ℕ
gone at lasts = count_by (λ last. nat_lt last at) lasts

gone-cons : (at last : ℕ) (lasts : List ℕ) → gone at (last ∷ lasts) ≡ cond (nat_lt last at) 1 0 + gone at lasts
gone-cons at last lasts = sum_by-cons (λ x. cond (nat_lt x at) 1 0) last lasts

-- A last second that does not end between them is before both, or before none.
same_test : (from to at last : ℕ) → from ≤ at → at ≤ to → (nat_le from last && nat_lt last to) ≡ false → nat_lt last at ≡ nat_lt last to
same_test from to at last low high none = by_tests (nat_lt last at) (nat_lt last to) (nat_le from last) refl refl refl
  where
    by_tests : (a b f : Bool) → nat_lt last at ≡ a → nat_lt last to ≡ b → nat_le from last ≡ f → nat_lt last at ≡ nat_lt last to
    by_tests true true f is b f_is = is ∙ sym b
    by_tests false false f is b f_is = is ∙ sym b
    by_tests true false f is b f_is = grind (arith, nat_tests)
    by_tests false true true is b f_is = absurd (let both : true ≡ false = (λ i. sym f_is i && sym b i) ∙ none in cc)
    by_tests false true false is b f_is = grind (arith, nat_tests)

same_gone : (from to at : ℕ) → from ≤ at → at ≤ to → (lasts : List ℕ) → list_any (λ last. nat_le from last && nat_lt last to) lasts ≡ false → gone at lasts ≡ gone to lasts
same_gone from to at low high [] none = refl
same_gone from to at low high (last ∷ lasts) none =
    let each = both_false (nat_le from last && nat_lt last to) (list_any (λ x. nat_le from x && nat_lt x to) lasts) none in
    gone-cons at last lasts
    ∙ (λ i. cond (same_test from to at last low high each.0 i) 1 0 + same_gone from to at low high lasts each.1 i)
    ∙ sym (gone-cons to last lasts)

pub nothing_ends : NothingEnds
nothing_ends from to at None none low high = refl
nothing_ends from to at (Some l) none low high = same_gone from to at low high l.lasts.items none
