-- A beginning of the bytes has gone out, and no call failed.
use Rattle.rtr_ends.proofs.Words.{length, ◌-◌, ◌≡◌, ◌<◌, ◌≤◌, take, Appends, calls_of, device_of, failures_of}
use Rattle.rtr_ends.proofs.streams.write_bytes.Given as goal

abbrev pub invariant-loop-at : goal.invariant-loop-at
invariant-loop-at g l =
    (l.at ≤ length l.bytes) × (failures_of l.output ≡ failures_of l.initial.output) × (calls_of l.initial.output ≤ calls_of l.output)
    × (0 < l.at → calls_of l.initial.output < calls_of l.output)
    × Appends (g.W.Write.contents (device_of l.initial.output)) (g.W.Write.contents (device_of l.output)) (take l.at l.bytes)

abbrev pub decreases-loop-at : goal.decreases-loop-at
decreases-loop-at g l = length l.bytes - l.at
