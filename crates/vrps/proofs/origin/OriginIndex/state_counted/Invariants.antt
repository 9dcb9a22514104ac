use Rattle.std.proofs.Common.{◌≡◌, ◌<◌, length, ◌+◌}
use Rattle.prefixes.specs.Payload.{block_of}
use Rattle.vrps.specs.Groups.{begin}
use Rattle.vrps.specs.Search.{CostsLengths, IsLeft}
use Rattle.vrps.proofs.JudgingRoutes.{Judged, NoneMatches}
use Rattle.vrps.proofs.origin.OriginIndex.state_counted.Given as goal

-- what the groups that were found say of the route
abbrev pub invariant-loop-group : goal.invariant-loop-group
invariant-loop-group l =
    let records = l.self-inside.groups.records.items in
    let starts = l.self-inside.groups.starts.items in
    record {
      left : IsLeft records starts l.route.prefix l.rest.places l.rest.lengths;
      judged : Judged records l.route (begin records starts l.rest.places) l.state;
      none : NoneMatches records l.route (begin records starts l.rest.places);
      some : l.probes ≡ 0 → (l.rest.places ≡ length starts) × (0 < l.rest.lengths);
      cost : CostsLengths (length starts) ((block_of l.route.prefix).len + 1) l.rest.lengths 0 l.probes;
    }

abbrev pub decreases-loop-group : goal.decreases-loop-group
decreases-loop-group l = l.rest.lengths
