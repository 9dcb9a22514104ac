-- Offers as equations: what decides at a point that holds nothing, and at one that holds the manifest of number 1.
use Rattle.std.proofs.Common.{◌≡◌, ℕ, true, false, Bor, List, [], ◌∷◌, Option, Some, None, refl, replicate}
use Rattle.der_lite.specs.Moments.{CivilMoment, told_moment, moment_before}
use Rattle.payloads.specs.Manifest.{ManifestValue}
use Rattle.points.specs.OfferSteps.{FromFile}
use Rattle.points.specs.declared.file.FileIn.{FileIn}
use Rattle.points.specs.Files.{is_roa_name}
use Rattle.points.specs.Accepted.{Accepted}
use Rattle.points.specs.Offers.{OfferJudgement, Same, NotYet, Stale, OldNumber, OldTime, FileTwice, Missing, first_that_holds, tests}

-- a.roa
abbrev a_roa : List ℕ
a_roa = 97 ∷ 46 ∷ 114 ∷ 111 ∷ 97 ∷ []

-- a manifest of this number and these times, which lists a.roa
abbrev listing_a : List ℕ → CivilMoment → CivilMoment → ManifestValue
listing_a number this next = record { number = number; this_update = this; next_update = next; files = record { name = a_roa; hash = replicate 32 7 } ∷ [] }

-- the first of January 2025, its noon, and the two days after it
abbrev first : CivilMoment
first = told_moment 2025 1 1 0 0 0

abbrev noon : CivilMoment
noon = told_moment 2025 1 1 12 0 0

abbrev second : CivilMoment
second = told_moment 2025 1 2 0 0 0

abbrev third : CivilMoment
third = told_moment 2025 1 3 0 0 0

abbrev held : Option Accepted
held = Some (record { bytes = 1 ∷ 2 ∷ []; manifest = listing_a (1 ∷ []) first second; roas = [] })

abbrev lent : List ℕ → Bor (List ℕ)
lent bytes = record { ref_ptr = (0, 0); now = bytes }

abbrev a_file : FileIn
a_file = record { name = lent a_roa; object = lent []; content = lent [] }

-- what decides before the listed files
abbrev decides : Option Accepted → ManifestValue → List ℕ → List FileIn → CivilMoment → Option OfferJudgement
decides before m bytes files now = first_that_holds (tests before m bytes files now)

-- thisUpdate and nextUpdate are both included
begins : decides None (listing_a (1 ∷ []) first second) (1 ∷ 2 ∷ []) (a_file ∷ []) first ≡ None
unfolding tests moment_before
begins = refl

ends : decides None (listing_a (1 ∷ []) first second) (1 ∷ 2 ∷ []) (a_file ∷ []) second ≡ None
unfolding tests moment_before
ends = refl

a_second_late : decides None (listing_a (1 ∷ []) first second) (1 ∷ 2 ∷ []) (a_file ∷ []) (told_moment 2025 1 2 0 0 1) ≡ Some Stale
unfolding tests moment_before
a_second_late = refl

a_second_early : decides None (listing_a (1 ∷ []) first second) (1 ∷ 2 ∷ []) (a_file ∷ []) (told_moment 2024 12 31 23 59 59) ≡ Some NotYet
unfolding tests moment_before
a_second_early = refl

-- the bytes decide that it is the same, once it is current
again : decides held (listing_a (1 ∷ []) first second) (1 ∷ 2 ∷ []) [] noon ≡ Some Same
unfolding tests moment_before
again = refl

again_late : decides held (listing_a (1 ∷ []) first second) (1 ∷ 2 ∷ []) [] (told_moment 2025 1 2 0 0 1) ≡ Some Stale
unfolding tests moment_before
again_late = refl

again_early : decides held (listing_a (1 ∷ []) first second) (1 ∷ 2 ∷ []) [] (told_moment 2024 12 31 23 59 59) ≡ Some NotYet
unfolding tests moment_before
again_early = refl

-- the number is judged before thisUpdate
the_same_number : decides held (listing_a (1 ∷ []) noon third) (3 ∷ []) (a_file ∷ []) noon ≡ Some OldNumber
unfolding tests moment_before
the_same_number = refl

the_same_number_and_time : decides held (listing_a (1 ∷ []) first third) (3 ∷ []) (a_file ∷ []) noon ≡ Some OldNumber
unfolding tests moment_before
the_same_number_and_time = refl

the_same_time : decides held (listing_a (2 ∷ []) first third) (3 ∷ []) (a_file ∷ []) noon ≡ Some OldTime
unfolding tests moment_before
the_same_time = refl

handed_in_twice : decides held (listing_a (2 ∷ []) noon third) (3 ∷ []) (a_file ∷ a_file ∷ []) noon ≡ Some (FileTwice 1)
unfolding tests moment_before
handed_in_twice = refl

-- numbers are compared as numbers: 0080 is above 7f, and 00ff below 0100
abbrev holds_number : List ℕ → Option Accepted
holds_number number = Some (record { bytes = 1 ∷ []; manifest = listing_a number first second; roas = [] })

above_127 : decides (holds_number (127 ∷ [])) (listing_a (0 ∷ 128 ∷ []) noon third) (3 ∷ []) [] noon ≡ None
unfolding tests moment_before
above_127 = refl

above_255 : decides (holds_number (0 ∷ 255 ∷ [])) (listing_a (1 ∷ 0 ∷ []) noon third) (3 ∷ []) [] noon ≡ None
unfolding tests moment_before
above_255 = refl

below_256 : decides (holds_number (1 ∷ 0 ∷ [])) (listing_a (0 ∷ 255 ∷ []) noon third) (3 ∷ []) [] noon ≡ Some OldNumber
unfolding tests moment_before
below_256 = refl

not_handed_in : FromFile 0 (listing_a (2 ∷ []) noon third).files [] (Missing 0)
not_handed_in = refl

ends_in_roa : is_roa_name a_roa ≡ true
ends_in_roa = refl

-- a.crl, and .roa alone
ends_in_crl : is_roa_name (97 ∷ 46 ∷ 99 ∷ 114 ∷ 108 ∷ []) ≡ false
ends_in_crl = refl

-- The bytes of another manifest would be mistaken for its own, if a point could hold bytes that do not spell what it holds.
without_the_rule : decides held (listing_a (5 ∷ []) noon third) (1 ∷ 2 ∷ []) [] noon ≡ Some Same
unfolding tests moment_before
without_the_rule = refl
