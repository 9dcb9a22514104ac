use Rattle.std.proofs.Common.{◌∙◌, rules}
use Rattle.std.proofs.lemmas.List.Sorted.{IsNonDecreasingBy-from_sort, IsNonDecreasingBy-from_sort_by_key}
use Rattle.slurm.proofs.Arranging.{sorted_hits}
use Rattle.slurm.proofs.index.Index.over.Goals as goal

pub returns-clause-hits : goal.returns-clause-hits
returns-clause-hits c v =
    sorted_hits c.in_ok-by_prefix.field-0.by_prefix.items c.sort_unstable.new.self.items c.in_ok-by_prefix.field-0.by_both.items c.sort_unstable_by_key.new.self.items
    c.in_ok-by_prefix.field-0.by_as.items c.sort_unstable-2.new.self.items c.in_ok-by_prefix.field-0.all v
    c.sort_unstable.ensures.permutation c.sort_unstable_by_key.ensures.permutation c.sort_unstable-2.ensures.permutation ∙ c.in_ok-by_prefix.ensures v

pub returns-clause-by_both : goal.returns-clause-by_both
returns-clause-by_both c = IsNonDecreasingBy-from_sort_by_key (λ f. f.asn) _ c.sort_unstable_by_key.ensures.sorted (λ a r q k. search rules)

pub returns-clause-by_as : goal.returns-clause-by_as
returns-clause-by_as c = IsNonDecreasingBy-from_sort (λ n. n) c.sort_unstable-2.new.self.items c.sort_unstable-2.ensures.sorted
