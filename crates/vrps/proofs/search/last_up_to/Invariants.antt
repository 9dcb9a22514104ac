use Rattle.std.proofs.Common.{◌≡◌, ℕ, ◌+◌, ◌-◌, ◌*◌, ◌^◌, ◌<◌, ◌≤◌, true, false}
use Rattle.prefixes.specs.Payload.{Payload}
use Rattle.vrps.specs.Found.{IsLastOf}
use Rattle.vrps.specs.Groups.{prefix_at}
use Rattle.vrps.specs.Keys.{key_prefix, up_to}
use Rattle.vrps.proofs.search.last_up_to.Given as goal

-- The groups below low are not after the key, those from high on are.
abbrev pub invariant-loop-low : goal.invariant-loop-low
invariant-loop-low l = record {
  low : l.low ≤ l.high;
  high : l.high ≤ l.places;
  last : IsLastOf l.groups l.low l.last;
  before : (d : Payload) → 0 < l.low → up_to (prefix_at l.groups.records.items l.groups.starts.items (l.low - 1) d) (key_prefix l.key) ≡ true;
  after : (place : ℕ) (d : Payload) → l.high ≤ place → place < l.places → up_to (prefix_at l.groups.records.items l.groups.starts.items place d) (key_prefix l.key) ≡ false;
  counted : l.fn.probes ≤ l.probes;
  room : l.probes + (l.high - l.low) ≤ l.fn.probes + l.places;
  halves : 2 ^ (l.probes - l.fn.probes) * (l.high - l.low) ≤ l.places;
  few : 2 ^ (l.probes - l.fn.probes) ≤ 2 * l.places + 1;
  some : l.probes ≤ l.fn.probes → l.high ≡ l.low + l.places;
}

abbrev pub decreases-loop-low : goal.decreases-loop-low
decreases-loop-low l = l.high - l.low
