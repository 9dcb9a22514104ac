use Rattle.std.proofs.Common.{◌∙◌, ap}
use Rattle.std.proofs.lemmas.List.Filters.{dedup_is}
use Rattle.std.proofs.lemmas.List.Kept.{IsStrictlySortedBy-dedup}
use Rattle.prefixes.specs.Orders.{vrp_total}
use Rattle.vrps.specs.VrpSet.{set_of}
use Rattle.prefixes.specs.contracts.vrp.VrpOrd.TheImpl.Laws.{matches_eq-law}
use Rattle.vrps.proofs.Sorting.{sorted_set}
use Rattle.vrps.proofs.set.ascending.Goals as goal

pub returns : goal.returns
returns c =
    let is = dedup_is _ _ _ c.dedup.ensures.filtered in
    record {
      ascending = rw is (IsStrictlySortedBy-dedup vrp_total matches_eq-law _ c.sort_unstable.ensures.sorted);
      same = ap (λ vs. set_of vs) is ∙ sorted_set matches_eq-law _ _ c.sort_unstable.ensures.permutation;
    }
