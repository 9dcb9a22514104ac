-- Which records of a file count at a moment, worked out.
use Rattle.std.specs.Prelude.{◌≡◌, ℕ, List, [], ◌∷◌, true, false, count_by, nat_lt, ◌||◌, Some, refl}
use Rattle.std.proofs.Common.{ap, ◌∙◌}
use Rattle.std.specs.List.Sorted.{IsStrictlySortedBy}
use Rattle.prefixes.specs.Payload.{Payload, vrp_cmp}
use Rattle.prefixes.specs.declared.prefix.IpPrefix.TheVariants.{V4}
use Rattle.vrps.specs.VrpSet.{has, listing, set_of}
use Rattle.vrps.proofs.SetLaws.{has-set_of, listing-set_of}
use Rattle.exports.specs.Lasting.{counting}
use Rattle.sources.specs.Served.{counting_at, expired_of, is_any_before, is_listed}
use Rattle.sources.specs.declared.listed.Listed.{Listed}

-- 10.0.0.0/8 of AS 1 and of AS 2
abbrev v : Payload
v = record { prefix = V4 (record { addr = 167772160; len = 8 }); max_len = 8; asn = 1 }

abbrev w : Payload
w = record { prefix = V4 (record { addr = 167772160; len = 8 }); max_len = 8; asn = 2 }

-- The first counts to 99, and the second never ends.
record Two (l : Listed) : Type 0 where
  pub set : l.set ≡ set_of (v ∷ w ∷ [])
  pub lasts : l.lasts.items ≡ 99 ∷ 18446744073709551615 ∷ []

-- ---- both sides of the end

none_before : is_any_before 99 (99 ∷ 18446744073709551615 ∷ []) ≡ false
none_before = refl

one_before : is_any_before 100 (99 ∷ 18446744073709551615 ∷ []) ≡ true
one_before = refl

abbrev expired_among : ℕ → List ℕ → ℕ
expired_among at lasts = count_by (λ last. nat_lt last at) lasts

none_expired : (l : Listed) → Two l → expired_of 99 (Some l) ≡ 0
none_expired l is = ap (λ lasts. expired_among 99 lasts) is.lasts

one_expired : (l : Listed) → Two l → expired_of 100 (Some l) ≡ 1
one_expired l is = ap (λ lasts. expired_among 100 lasts) is.lasts

-- ---- what counts then

both_ascend : IsStrictlySortedBy vrp_cmp (v ∷ w ∷ [])
unfolding IsStrictlySortedBy
both_ascend = ((refl, tt), (tt, tt))

listed : (l : Listed) → Two l → listing l.set ≡ v ∷ w ∷ []
listed l is = ap (λ s. listing s) is.set ∙ listing-set_of (v ∷ w ∷ []) both_ascend

both_count : (l : Listed) → Two l → counting_at 99 l ≡ set_of (v ∷ w ∷ [])
both_count l is = (λ i. set_of (counting 99 (listed l is i) (is.lasts i)))

one_counts : (l : Listed) → Two l → counting_at 100 l ≡ set_of (w ∷ [])
one_counts l is = (λ i. set_of (counting 100 (listed l is i) (is.lasts i)))

-- so the first is said at 99, and not at 100
said_before : (l : Listed) → Two l → is_listed 99 (l ∷ []) v ≡ true
said_before l is = ap (λ s. has s v || false) (both_count l is) ∙ ap (λ b. b || false) (has-set_of (v ∷ w ∷ []) v)

said_no_more : (l : Listed) → Two l → is_listed 100 (l ∷ []) v ≡ false
said_no_more l is = ap (λ s. has s v || false) (one_counts l is) ∙ ap (λ b. b || false) (has-set_of (w ∷ []) v)
