-- A beginning of the bytes has gone out, and no call failed.
use Rattle.std.proofs.Common.{length, ◌-◌, ◌+◌, ◌≡◌, ◌≤◌, take}
use Rattle.std.specs.Io.KnownBytes.{Appends}
use Rattle.rtr_pdu.specs.Counted.{device_of, calls_of, failures_of}
use Rattle.rtr_pdu.proofs.device.write_bytes.Given as goal

abbrev pub invariant-loop-at : goal.invariant-loop-at
invariant-loop-at g l =
    (l.at ≤ length l.bytes) × (failures_of l.out ≡ failures_of l.initial.out) × (calls_of l.out ≤ calls_of l.initial.out + l.at)
    × Appends (g.W.Write.contents (device_of l.initial.out)) (g.W.Write.contents (device_of l.out)) (take l.at l.bytes)

abbrev pub decreases-loop-at : goal.decreases-loop-at
decreases-loop-at g l = length l.bytes - l.at
