-- What was read is held, and no call failed.
use Rattle.std.proofs.Common.{length, ◌+◌, ◌-◌, ◌≡◌, ◌≤◌}
use Rattle.std.specs.Prelude.{false, None, Some}
use Rattle.std.specs.Io.KnownBytes.{Consumes}
use Rattle.rtr_pdu.specs.Counted.{device_of, calls_of, failures_of}
use Rattle.rtr_pdu.proofs.device.read_unit_of.Given as goal

abbrev pub invariant-loop-reader : goal.invariant-loop-reader
invariant-loop-reader g l =
    (l.reader.fault ≡ None) × (l.reader.any ≡ false) × (l.reader.version ≡ Some l.version)
    × (failures_of l.input ≡ failures_of l.initial.input)
    × (calls_of l.initial.input ≤ calls_of l.input) × (calls_of l.input ≤ calls_of l.initial.input + length l.reader.held)
    × Consumes (g.R.Read.remaining (device_of l.initial.input)) (g.R.Read.remaining (device_of l.input)) l.reader.held
    × (length l.bytes ≡ 4096)

abbrev pub decreases-loop-reader : goal.decreases-loop-reader
decreases-loop-reader g l = 4096 - length l.reader.held
