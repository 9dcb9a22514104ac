use Rattle.std.proofs.Common.{◌∷◌, [], Option, map, ap, ◌∙◌}
use Rattle.std.specs.List.{filter_map}
use Rattle.prefixes.specs.declared.prefix.IpPrefix.{IpPrefix}
use Rattle.slurm.specs.Claims.{prefix_claim}
use Rattle.slurm.specs.declared.filter.PrefixFilter.{PrefixFilter}
use Rattle.slurm.proofs.Gathering.{adds_none, adds_one, no_more, one_more, some_join}
use Rattle.slurm.proofs.claims.add_filters.Goals as goal
use Rattle.slurm.proofs.claims.add_filters.Goals.{in-Some+in_ok-push, in_default}

abbrev prefix_in : PrefixFilter → Option IpPrefix
prefix_in f = f.prefix

pub loop-filter-preserved : goal.loop-filter-preserved
loop-filter-preserved c = elim c.match-filter.branch [
  | in-Some+in_ok-push w ↦ one_more (λ fs. map (prefix_claim c.args.file) (filter_map prefix_in fs)) (some_join prefix_in (prefix_claim c.args.file)) c.args.filters.now c.loop-filter.filter-index c.filter-item.result
      c.args.claims.now.items c.loop-filter.claims.items c.match-filter.claims.items (prefix_claim c.args.file w.in-Some.prefix ∷ []) c.loop-filter-test.true c.filter-item.is c.loop-filter.invariant
      (adds_one prefix_in (prefix_claim c.args.file) c.filter-item.result w.in-Some.prefix w.in-Some.is) (ap (λ v. v.items) w.claims-is ∙ w.in_ok-push.ensures.items)
  | in_default w ↦ no_more (λ fs. map (prefix_claim c.args.file) (filter_map prefix_in fs)) (some_join prefix_in (prefix_claim c.args.file)) c.args.filters.now c.loop-filter.filter-index c.filter-item.result
      c.args.claims.now.items c.loop-filter.claims.items c.match-filter.claims.items c.loop-filter-test.true c.filter-item.is c.loop-filter.invariant
      (adds_none prefix_in (prefix_claim c.args.file) c.filter-item.result w.in_default.is) (ap (λ v. v.items) w.claims-is)
]
