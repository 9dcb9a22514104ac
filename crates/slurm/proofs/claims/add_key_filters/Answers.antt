use Rattle.std.proofs.Common.{◌∷◌, [], None, Option, get_or, map, ap, ◌∙◌}
use Rattle.std.specs.List.{filter_map}
use Rattle.std.proofs.lemmas.List.{get_or_default}
use Rattle.prefixes.specs.declared.asn.Asn.{Asn}
use Rattle.slurm.specs.Claims.{asn_claim}
use Rattle.slurm.proofs.Gathering.{adds_none, adds_one, no_more, one_more, some_join}
use Rattle.slurm.proofs.claims.add_key_filters.Goals as goal
use Rattle.slurm.proofs.claims.add_key_filters.Goals.{in-Some+in_ok-push, in_default}

abbrev same : Option Asn → Option Asn
same a = a

pub loop-filter-preserved : goal.loop-filter-preserved
loop-filter-preserved c =
    let filters = c.args.filters.now in
    let i = c.loop-filter.filter-index in
    let filter = get_or filters i None in
    let is = get_or_default filters i None filter c.loop-filter-test.true in
    elim c.match-filter.branch [
      | in-Some+in_ok-push w ↦ one_more (λ fs. map (asn_claim c.args.file) (filter_map same fs)) (some_join same (asn_claim c.args.file)) filters i filter
          c.args.claims.now.items c.loop-filter.claims.items c.match-filter.claims.items (asn_claim c.args.file w.in-Some.asn ∷ []) c.loop-filter-test.true is c.loop-filter.invariant
          (adds_one same (asn_claim c.args.file) filter w.in-Some.asn w.in-Some.is) (ap (λ v. v.items) w.claims-is ∙ w.in_ok-push.ensures.items)
      | in_default w ↦ no_more (λ fs. map (asn_claim c.args.file) (filter_map same fs)) (some_join same (asn_claim c.args.file)) filters i filter
          c.args.claims.now.items c.loop-filter.claims.items c.match-filter.claims.items c.loop-filter-test.true is c.loop-filter.invariant
          (adds_none same (asn_claim c.args.file) filter w.in_default.is) (ap (λ v. v.items) w.claims-is)
    ]
