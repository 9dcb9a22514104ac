use Rattle.std.proofs.Common.{◌≡◌, ℕ, ◌<◌, slice_index_or}
use Rattle.prefixes.specs.Payload.{Payload}
use Rattle.ccr.proofs.by_as.first_run.Given as goal

-- the VRPs so far have the AS number of the first
abbrev pub invariant-loop-index : goal.invariant-loop-index
invariant-loop-index l = (k : ℕ) (d : Payload) → k < l.index → (slice_index_or l.list k d).asn ≡ (slice_index_or l.list 0 d).asn
