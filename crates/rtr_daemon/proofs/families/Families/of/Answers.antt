use Rattle.std.proofs.Common.{◌≡◌, length, rules}
use Rattle.std.specs.List.{filter}
use Rattle.std.proofs.lemmas.List.Sorted.{IsPartitionPoint-from_clause}
use Rattle.rtr_daemon.specs.Families.{is_ipv4}
use Rattle.rtr_daemon.proofs.FamilyLaws.{is_parted, passing, passing_or_not}
use Rattle.rtr_daemon.proofs.families.Families.of.Goals as goal

pub returns : goal.returns
returns c =
    let vs = c.as_slice-records.result.now in
    let point = IsPartitionPoint-from_clause is_ipv4 vs c.partition_point-ipv4.result c.partition_point-ipv4.ensures.partitioned (is_parted vs c.as_slice-records.ensures.ascends) (λ a r q k. search rules) in
    let four : length (filter is_ipv4 vs) ≡ c.partition_point-ipv4.result = passing is_ipv4 vs c.partition_point-ipv4.result c.partition_point-ipv4.ensures.bound point in
    let both = passing_or_not is_ipv4 vs in
    search rules
