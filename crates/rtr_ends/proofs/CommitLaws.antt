-- What commits satisfy.
use Rattle.rtr_ends.proofs.Words.{◌∙◌, sym, and_parts, false_of_not, IsDistinct-from_sorted, vrp_cmp, union, without, all_of_members, apply-between, has-without, listing_ascends, set_of-listing}
use Rattle.rtr_ends.specs.Commit.{ChangeCommits}

pub change_commits : ChangeCommits
change_commits s t = record {
  known = all_of_members _ (without s t) (λ q h. (and_parts _ _ (sym (has-without s t q) ∙ h)).0);
  withdrawn_once = IsDistinct-from_sorted vrp_cmp _ (listing_ascends (without s t));
  unknown = all_of_members _ (without t s) (λ q h. false_of_not _ (and_parts _ _ (sym (has-without t s q) ∙ h)).1);
  announced_once = IsDistinct-from_sorted vrp_cmp _ (listing_ascends (without t s));
  leads = sym ((λ i. union (without s (set_of-listing (without s t) i)) (set_of-listing (without t s) i)) ∙ apply-between s t);
}
