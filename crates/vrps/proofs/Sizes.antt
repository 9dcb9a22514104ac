-- How many members sets have.
use Rattle.std.proofs.Common.{◌≡◌, ◌∙◌, ◌+◌, ◌≤◌, true, false, cond, sym, ap, arith}
use Rattle.std.proofs.lemmas.Map.Keys.{IsDistinct-from_sorted}
use Rattle.std.proofs.lemmas.Map.Made.{length-le_from_is_member}
use Rattle.std.specs.Cmp.{eq_by_cmp_equiv}
use Rattle.std.specs.FinMap as map
use Rattle.prefixes.specs.Payload.{Payload, vrp_cmp}
use Rattle.prefixes.specs.Orders.{vrp_total}
use Rattle.vrps.specs.VrpSet.{VrpSet, has, listing, size, with_member}
use Rattle.vrps.proofs.Listed.{size_of_listing}
use Rattle.vrps.proofs.SetLaws.{has-listing, listing_ascends}

-- A set that has the members of another is no smaller.
pub size_le : (s t : VrpSet) → ((q : Payload) → has s q ≡ true → has t q ≡ true) → size s ≤ size t
size_le s t h =
    let le = length-le_from_is_member (eq_by_cmp_equiv vrp_total) (listing s) (listing t) (IsDistinct-from_sorted vrp_cmp (listing s) (listing_ascends s)) (λ q one. sym (has-listing t q) ∙ h q (has-listing s q ∙ one)) in
    omega (arith, le, size_of_listing s, size_of_listing t)

-- one member more
pub size_more : (s : VrpSet) (v : Payload) → has s v ≡ false → size (with_member s v) ≡ size s + 1
size_more s v h = map.len-insert vrp_total s v tt ∙ ap (λ b. cond b (size s) (size s + 1)) h
