use Rattle.std.proofs.Common.{◌≡◌, ◌∙◌, ◌++◌, List, length, ap, arith, rules}
use Rattle.std.proofs.lemmas.Fn.{always_returns_same}
use Rattle.std.proofs.lemmas.List.Sorted.{IsNonDecreasingBy-from_sort_by_key, length_permutation}
use Rattle.prefixes.specs.Payload.{Payload}
use Rattle.vrps.specs.VrpSet.{listing}
use Rattle.vrps.proofs.Listed.{size_of_listing}
use Rattle.ccr.specs.Canonical.{of_as}
use Rattle.ccr.proofs.Sorting.{keeps_order}
use Rattle.ccr.proofs.by_as.by_as.Goals as goal

pub returns-clause-sorted : goal.returns-clause-sorted
returns-clause-sorted c = IsNonDecreasingBy-from_sort_by_key (λ v. v.asn) _ c.in_ok-sort_by_key.ensures.sorted (λ a r q k. search rules)

pub returns-clause-same : goal.returns-clause-same
returns-clause-same c asn =
    let old = c.extend_from_slice.new.self.items in
    let is : old ≡ listing c.args.set.now = c.in_ok-extend_from_slice.ensures.items ∙ ap (λ (l : List Payload). l ++ c.as_slice.result.now) c.new-list.ensures.items ∙ c.as_slice.ensures.value in
    keeps_order old c.sort_by_key.new.self.items (c.in_ok-sort_by_key.ensures.stable (λ v. v.asn) (always_returns_same _ (λ a r. r ≡ a.0.now.asn) _ (λ a r q k. search rules))) asn ∙ ap (of_as asn) is

pub returns-clause-few : goal.returns-clause-few
returns-clause-few c =
    let old = c.extend_from_slice.new.self.items in
    let is : old ≡ listing c.args.set.now = c.in_ok-extend_from_slice.ensures.items ∙ ap (λ (l : List Payload). l ++ c.as_slice.result.now) c.new-list.ensures.items ∙ c.as_slice.ensures.value in
    omega (arith, ap (λ (l : List Payload). length l) is, length_permutation old c.sort_by_key.new.self.items c.in_ok-sort_by_key.ensures.permutation, size_of_listing c.args.set.now, c.as_slice.ensures.set.within_limit)
