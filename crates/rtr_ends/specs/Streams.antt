-- What a stream reads and writes, as its devices count it.
use Rattle.std.specs.Prelude.{◌≡◌, ℕ, Option, Some, None, Result, Ok, Err}
use Rattle.rtr_pdu.specs.declared.counted.Counted.{Counted}
use Rattle.rtr_pdu.specs.Counted.{failures_of, HasFailed}
use Rattle.rtr_ends.specs.declared.streams.StreamFault.{StreamFault}
use Rattle.rtr_ends.specs.declared.streams.StreamFault.TheVariants.{ReadFailed, WriteFailed, Memory}

abbrev pub stream_fault_number : StreamFault → ℕ
stream_fault_number ReadFailed = 1
stream_fault_number WriteFailed = 2
stream_fault_number Memory = 3

abbrev pub stream_fault_of : {A : Type 0} → Result A StreamFault → Option StreamFault
stream_fault_of (Ok a) = None
stream_fault_of (Err fault) = Some fault

-- No call failed since.
abbrev pub FailsNever : {D : Type 0} → Counted D → Counted D → Type 0
FailsNever old new = failures_of new ≡ failures_of old

-- One call failed if the fault says so, and no other. Without a connection no device was called.
abbrev pub FailsSo : {R W : Type 0} → Counted R → Counted R → Counted W → Counted W → Option StreamFault → Type 0
FailsSo input read output written None = FailsNever input read × FailsNever output written
FailsSo input read output written (Some ReadFailed) = HasFailed input read × FailsNever output written
FailsSo input read output written (Some WriteFailed) = FailsNever input read × HasFailed output written
FailsSo input read output written (Some Memory) = (read ≡ input) × (written ≡ output)

abbrev pub WritesSo : {W A E : Type 0} → Counted W → Counted W → Result A E → Type 0
WritesSo output written (Ok a) = FailsNever output written
WritesSo output written (Err e) = HasFailed output written
