-- Sorting and dropping duplicates keep the set.
use Rattle.std.proofs.Common.{◌≡◌, Bool, true, false, List, sym, ap, ◌∙◌, refl}
use Rattle.std.specs.List.{list_any, dedup}
use Rattle.std.specs.List.Sorted.{IsPermutation}
use Rattle.std.specs.Cmp.{IsEquivalence, eq_by_cmp_equiv}
use Rattle.std.proofs.lemmas.List.Sorted.{list_any-IsPermutation}
use Rattle.std.proofs.lemmas.List.Kept.{Contains-dedup, Contains-from_dedup}
use Rattle.std.proofs.lemmas.Map.Views.{list_any-from_Contains, Contains-from_any, tells_apart}
use Rattle.prefixes.specs.Payload.{Payload}
use Rattle.prefixes.specs.Orders.{vrp_total, vrp_exact}
use Rattle.vrps.specs.VrpSet.{set_of}
use Rattle.vrps.proofs.SetLaws.{has-set_of, same_set, same_vrp}

both_ways : (a b : Bool) → (a ≡ true → b ≡ true) → (b ≡ true → a ≡ true) → a ≡ b
both_ways true b f g = sym (f refl)
both_ways false true f g = g refl
both_ways false false f g = refl

equiv : IsEquivalence same_vrp
equiv = eq_by_cmp_equiv vrp_total

exact : (x y : Payload) → same_vrp x y ≡ true → x ≡ y
exact = tells_apart vrp_exact

any-dedup : (q : Payload) (vs : List Payload) → list_any (same_vrp q) (dedup same_vrp vs) ≡ list_any (same_vrp q) vs
any-dedup q vs = both_ways _ _
    (λ h. list_any-from_Contains equiv q vs (Contains-from_dedup same_vrp vs q (Contains-from_any exact q (dedup same_vrp vs) h)))
    (λ h. list_any-from_Contains equiv q (dedup same_vrp vs) (Contains-dedup equiv exact vs q (Contains-from_any exact q vs h)))

pub set_of-dedup : (vs ws : List Payload) → IsPermutation vs ws → set_of (dedup same_vrp ws) ≡ set_of vs
set_of-dedup vs ws moved = same_set _ _ (λ q.
    has-set_of (dedup same_vrp ws) q ∙ any-dedup q ws ∙ sym (list_any-IsPermutation (same_vrp q) vs ws moved) ∙ sym (has-set_of vs q))

-- the same for a test that answers as the order's ties
pub sorted_set : {E : Payload → Payload → Bool} (ties : (x y : Payload) → E x y ≡ same_vrp x y) (vs ws : List Payload) → IsPermutation vs ws → set_of (dedup E ws) ≡ set_of vs
sorted_set {E = E} ties vs ws moved =
    let same : E ≡ same_vrp = λ i x y. ties x y i in
    ap (λ e. set_of (dedup e ws)) same ∙ set_of-dedup vs ws moved
