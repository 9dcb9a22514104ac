use Rattle.std.proofs.Common.{◌↔◌, List, subst, sym}
use Rattle.std.specs.List.{Contains}
use Rattle.std.proofs.lemmas.List.Filters.{dedup_is}
use Rattle.std.proofs.lemmas.List.Kept.{IsStrictlySortedBy-dedup}
use Rattle.prefixes.specs.Payload.{Payload}
use Rattle.prefixes.specs.Orders.{vrp_total}
use Rattle.prefixes.specs.contracts.vrp.VrpOrd.TheImpl.Laws.{matches_eq-law}
use Rattle.points.proofs.Repositories.{same_members}
use Rattle.points.proofs.repository.ascending.Goals as goal

pub returns-clause-ascending : goal.returns-clause-ascending
returns-clause-ascending c =
    rw (dedup_is _ _ _ c.dedup.ensures.filtered) (IsStrictlySortedBy-dedup vrp_total matches_eq-law _ c.sort_unstable.ensures.sorted)

pub returns-clause-same : goal.returns-clause-same
returns-clause-same c = λ vrp.
    subst (λ (vs : List Payload). Contains vs vrp ↔ Contains c.args.list.items vrp) (sym (dedup_is _ _ _ c.dedup.ensures.filtered))
    (same_members _ matches_eq-law c.args.list.items c.sort_unstable.new.self.items vrp c.sort_unstable.ensures.permutation)
