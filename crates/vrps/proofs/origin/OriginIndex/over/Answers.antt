use Rattle.std.proofs.Common.{◌≡◌, ◌∙◌, ap, sym, subst}
use Rattle.vrps.specs.VrpSet.{IsListing, listing, set_of}
use Rattle.vrps.proofs.Listed.{lists}
use Rattle.vrps.proofs.SetLaws.{set_of-listing}
use Rattle.vrps.proofs.origin.OriginIndex.over.Goals as goal

pub grouped-requires : goal.grouped-requires
grouped-requires c =
    let copied : c.in_ok-records.records.items ≡ listing c.args.set.now = c.in_ok-records.ensures.items_if_clones_equal (λ x y h. h) ∙ c.as_slice.ensures.value in
    let listed = subst (λ vs. IsListing vs) (sym copied) (lists _ c.as_slice.ensures.set) in
    record { ascends = listed.ascends; payloads = listed.payloads; limit = listed.within_limit }

pub invariant_of-result : goal.invariant_of-result
invariant_of-result c =
    let copied : c.in_ok-records.records.items ≡ listing c.args.set.now = c.in_ok-records.ensures.items_if_clones_equal (λ x y h. h) ∙ c.as_slice.ensures.value in
    subst (λ vs. IsListing vs) (sym (c.in_ok-groups.ensures ∙ copied)) (lists _ c.as_slice.ensures.set)

pub returns : goal.returns
returns c =
    let copied : c.in_ok-records.records.items ≡ listing c.args.set.now = c.in_ok-records.ensures.items_if_clones_equal (λ x y h. h) ∙ c.as_slice.ensures.value in
    ap (λ vs. set_of vs) (c.in_ok-groups.ensures ∙ copied) ∙ set_of-listing c.args.set.now
