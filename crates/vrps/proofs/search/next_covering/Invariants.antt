use Rattle.std.proofs.Common.{◌≡◌, ◌<◌, ◌≤◌, length}
use Rattle.vrps.specs.Groups.{begin}
use Rattle.vrps.specs.Search.{CostsLengths, IsLeft, NoneCovers}
use Rattle.vrps.proofs.search.next_covering.Given as goal

-- No group that was already skipped covers the prefix.
abbrev pub invariant-loop-rest : goal.invariant-loop-rest
invariant-loop-rest l = record {
  left : IsLeft l.groups.records.items l.groups.starts.items l.prefix l.rest.places l.rest.lengths;
  fewer : l.rest.places ≤ l.fn.rest.places;
  none : NoneCovers l.groups.records.items l.prefix (begin l.groups.records.items l.groups.starts.items l.rest.places) (begin l.groups.records.items l.groups.starts.items l.fn.rest.places);
  cost : CostsLengths (length l.groups.starts.items) l.fn.rest.lengths l.rest.lengths l.fn.probes l.probes;
  some : 0 < l.fn.rest.places → l.probes ≤ l.fn.probes → (l.rest.places ≡ l.fn.rest.places) × (l.rest.lengths ≡ l.fn.rest.lengths);
}

abbrev pub decreases-loop-rest : goal.decreases-loop-rest
decreases-loop-rest l = l.rest.lengths
