-- The texts of moments, with dashes and colons and without.
use Rattle.std.proofs.Common.{◌≡◌, ℕ, List, [], ◌∷◌, length, get_or, refl, ap, ◌∙◌, arith}
use Rattle.der_lite.specs.Moments.{CivilMoment, moment_digits, moment_text}
use Rattle.exports.specs.Built.{time_text}

-- A text of twenty bytes is these.
twenty : (s : List ℕ) → length s ≡ 20 → s ≡ get_or s 0 0 ∷ get_or s 1 0 ∷ get_or s 2 0 ∷ get_or s 3 0 ∷ get_or s 4 0 ∷ get_or s 5 0 ∷ get_or s 6 0 ∷ get_or s 7 0 ∷ get_or s 8 0 ∷ get_or s 9 0 ∷ get_or s 10 0 ∷ get_or s 11 0 ∷ get_or s 12 0 ∷ get_or s 13 0 ∷ get_or s 14 0 ∷ get_or s 15 0 ∷ get_or s 16 0 ∷ get_or s 17 0 ∷ get_or s 18 0 ∷ get_or s 19 0 ∷ []
twenty (x0 ∷ x1 ∷ x2 ∷ x3 ∷ x4 ∷ x5 ∷ x6 ∷ x7 ∷ x8 ∷ x9 ∷ x10 ∷ x11 ∷ x12 ∷ x13 ∷ x14 ∷ x15 ∷ x16 ∷ x17 ∷ x18 ∷ x19 ∷ []) h = refl
twenty s h = absurd (omega arith)

-- The bytes but those between the numbers
abbrev pub plain : List ℕ → List ℕ
plain s = get_or s 0 0 ∷ get_or s 1 0 ∷ get_or s 2 0 ∷ get_or s 3 0 ∷ get_or s 5 0 ∷ get_or s 6 0 ∷ get_or s 8 0 ∷ get_or s 9 0 ∷ get_or s 11 0 ∷ get_or s 12 0 ∷ get_or s 14 0 ∷ get_or s 15 0 ∷ get_or s 17 0 ∷ get_or s 18 0 ∷ 90 ∷ []

-- Where the others stand at their places, and these are the digits of a moment, the text is that of the moment.
pub says_time : (s : List ℕ) (m : CivilMoment) → length s ≡ 20 → get_or s 4 0 ≡ 45 → get_or s 7 0 ≡ 45 → get_or s 10 0 ≡ 84 → get_or s 13 0 ≡ 58 → get_or s 16 0 ≡ 58 → get_or s 19 0 ≡ 90
    → plain s ≡ moment_text m → s ≡ time_text m
unfolding moment_text moment_digits
says_time s m long a b c d e f h = let all = twenty s long in all ∙ cc

pub plain_time : (s : List ℕ) (m : CivilMoment) → s ≡ time_text m → plain s ≡ moment_text m
unfolding moment_text moment_digits
plain_time s m h = ap plain h
