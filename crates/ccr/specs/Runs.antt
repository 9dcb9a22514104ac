-- VRPs of one AS that lie side by side.
use Rattle.std.specs.Prelude.{◌≡◌, ◌≢◌, ℕ, ◌<◌, ◌≤◌, List, length, slice_index_or}
use Rattle.prefixes.specs.Payload.{Payload}

-- This many VRPs at the front have the AS number of the first, and the one behind them, if any, another.
pub record IsFirstRun (vs : List Payload) (count : ℕ) : Type 0 where
  pub within : count ≤ length vs
  pub same : (k : ℕ) (d : Payload) → k < count → (slice_index_or vs k d).asn ≡ (slice_index_or vs 0 d).asn
  pub other : (d : Payload) → count < length vs → (slice_index_or vs count d).asn ≢ (slice_index_or vs 0 d).asn
