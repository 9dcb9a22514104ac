use Rattle.std.proofs.Common.{◌≡◌, ◌+◌, length, drop, filter, reverse}
use Rattle.prefixes.specs.Payload.{block_of}
use Rattle.vrps.specs.Groups.{begin}
use Rattle.vrps.specs.Origin.{covers_route}
use Rattle.vrps.specs.Search.{CostsLengths, IsLeft}
use Rattle.vrps.proofs.origin.OriginIndex.covering.Given as goal

-- what was found, the last one first
abbrev pub invariant-loop-group : goal.invariant-loop-group
invariant-loop-group l =
    let records = l.self-inside.groups.records.items in
    let starts = l.self-inside.groups.starts.items in
    record {
      left : IsLeft records starts l.route.prefix l.rest.places l.rest.lengths;
      found : l.found.items ≡ reverse (filter (covers_route l.route) (drop (begin records starts l.rest.places) records));
      cost : CostsLengths (length starts) ((block_of l.route.prefix).len + 1) l.rest.lengths 0 l.probes;
    }

abbrev pub decreases-loop-group : goal.decreases-loop-group
decreases-loop-group l = l.rest.lengths
