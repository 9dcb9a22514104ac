use Rattle.std.proofs.Common.{◌≡◌, ◌-◌, ◌∙◌, drop, length, nat_le, nat_lt, rules, subst, sym, take, arith}
use Rattle.std.specs.List.Sorted.{IsNonDecreasingBy}
use Rattle.std.proofs.lemmas.Fn.{always_returns_same}
use Rattle.std.proofs.lemmas.List.{length-drop, take_all}
use Rattle.std.proofs.lemmas.List.Sorted.{IsNonDecreasingBy-drop, IsPartitionedBy-leb, IsPartitionedBy-ltb}
use Rattle.slurm.proofs.Arranging.{cut_out}
use Rattle.slurm.proofs.index.any_of_both.Goals as goal

pub returns : goal.returns
returns c =
    let xs = c.args.filters.now in
    let start = c.partition_point-start.result in
    let whole : take (length xs - start) (drop start xs) ≡ drop start xs = take_all (length xs - start) (drop start xs) (omega (arith, length-drop start xs)) in
    let up : IsNonDecreasingBy (λ f. f.asn) (take (length xs - start) (drop start xs)) = subst (λ ys. IsNonDecreasingBy (λ f. f.asn) ys) (sym whole) (IsNonDecreasingBy-drop (λ f. f.asn) start xs c.requires) in
    let one = c.partition_point-start.ensures.partitioned (λ f. nat_lt f.asn c.args.asn) (always_returns_same _ (λ q r. r ≡ nat_lt q.0.now.asn c.args.asn) _ (λ q r f h. search rules)) (IsPartitionedBy-ltb (λ f. f.asn) xs c.args.asn c.requires) in
    let two = c.partition_point-count.ensures.partitioned (λ f. nat_le f.asn c.args.asn) (always_returns_same _ (λ q r. r ≡ nat_le q.0.now.asn c.args.asn) _ (λ q r f h. search rules))
    (IsPartitionedBy-leb (λ f. f.asn) (take (length xs - start) (drop start xs)) c.args.asn up) in
    c.any_of_these_covers.ensures ∙ cut_out xs (take (length xs - start) (drop start xs)) c.args.asn c.args.prefix.now start c.partition_point-count.result whole c.requires one two
