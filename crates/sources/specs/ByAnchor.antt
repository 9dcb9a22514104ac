-- How many payloads of a file come from each trust anchor.
use Rattle.std.specs.Prelude.{◌≡◌, ◌==◌, ◌&&◌, ◌+◌, ℕ, suc, nat_le, cond, List, [], ◌∷◌, length, slice_get, slice_set, Option, Some, None, unwrap_or}
use Rattle.exports.specs.declared.anchors.ExportAnchors.{ExportAnchors}

-- how many places have this number, and a last second that is not before the moment
abbrev pub left_with : ℕ → ℕ → List ℕ → List ℕ → ℕ
left_with now k [] numbers = 0
left_with now k (last ∷ lasts) [] = 0
left_with now k (last ∷ lasts) (n ∷ numbers) = cond (nat_le now last && (n == k)) (suc (left_with now k lasts numbers)) (left_with now k lasts numbers)

-- For each number below a count: how many places are left with it.
pub record AreLeft (now : ℕ) (names : ℕ) (lasts numbers counts : List ℕ) : Type 0 where
  pub one_each : length counts ≡ names
  pub each : (k n : ℕ) → slice_get counts k ≡ Some n → n ≡ left_with now k lasts numbers

-- one more at a place, if there is one
abbrev pub raised : Option ℕ → List ℕ → List ℕ
raised None counts = counts
raised (Some i) counts = slice_set counts i (unwrap_or (slice_get counts i) 0 + 1)

-- There are no trust anchors.
pub record HasNoAnchors (a : ExportAnchors) : Type 0 where
  pub names : a.names.items ≡ []
  pub numbers : a.of_each.items ≡ []
