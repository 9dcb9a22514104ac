use Rattle.std.proofs.Common.{ℕ, ◌<◌, slice_index_or}
use Rattle.prefixes.specs.Payload.{Payload, IsPayload}
use Rattle.vrps.proofs.set.know_payloads.Given as goal

-- the records so far are payloads
abbrev pub invariant-loop-vrp : goal.invariant-loop-vrp
invariant-loop-vrp l = (k : ℕ) (d : Payload) → k < l.vrp-index → IsPayload (slice_index_or l.records k d)
