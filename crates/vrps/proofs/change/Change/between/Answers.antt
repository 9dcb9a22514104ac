use Rattle.std.proofs.Common.{◌∙◌, ap, sym, subst}
use Rattle.vrps.specs.VrpSet.{IsListing, set_of, without}
use Rattle.vrps.proofs.Listed.{left_out_listings, lists, part_is_set}
use Rattle.vrps.proofs.SetLaws.{set_of-listing}
use Rattle.vrps.proofs.change.Change.between.Goals as goal

pub from_listing-requires : goal.from_listing-requires
from_listing-requires c =
    let is = left_out_listings c.args.s.now c.args.t.now _ _ _ c.in_ok-withdraw.ensures.0 c.as_slice.ensures.value c.as_slice-2.ensures.value in
    subst (λ l. IsListing l) (sym is) (lists (without c.args.s.now c.args.t.now) (part_is_set c.args.s.now c.args.t.now c.as_slice.ensures.set))

pub from_listing-requires-2 : goal.from_listing-requires-2
from_listing-requires-2 c =
    let is = left_out_listings c.args.t.now c.args.s.now _ _ _ c.in_ok-withdraw.ensures.1 c.as_slice-2.ensures.value c.as_slice.ensures.value in
    subst (λ l. IsListing l) (sym is) (lists (without c.args.t.now c.args.s.now) (part_is_set c.args.t.now c.args.s.now c.as_slice-2.ensures.set))

pub returns : goal.returns
returns c =
    let withdraw = left_out_listings c.args.s.now c.args.t.now _ _ _ c.in_ok-withdraw.ensures.0 c.as_slice.ensures.value c.as_slice-2.ensures.value in
    let announce = left_out_listings c.args.t.now c.args.s.now _ _ _ c.in_ok-withdraw.ensures.1 c.as_slice-2.ensures.value c.as_slice.ensures.value in
    λ i. record {
      withdraw = (c.from_listing.ensures ∙ ap (λ l. set_of l) withdraw ∙ set_of-listing (without c.args.s.now c.args.t.now)) i;
      announce = (c.from_listing-2.ensures ∙ ap (λ l. set_of l) announce ∙ set_of-listing (without c.args.t.now c.args.s.now)) i;
    }
