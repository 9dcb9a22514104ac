-- The numbers of faults.
use Rattle.std.specs.Prelude.{ℕ}
use Rattle.rtr_pdu.specs.declared.unit.UnitFault.{UnitFault}
use Rattle.rtr_pdu.specs.declared.unit.UnitFault.TheVariants as faults
use Rattle.rtr_pdu.specs.declared.device.ReadFault.{ReadFault}
use Rattle.rtr_pdu.specs.declared.device.ReadFault.TheVariants as read_faults

-- By these a program prints why it stopped.
abbrev pub fault_number : UnitFault → ℕ
fault_number faults.Version = 1
fault_number faults.«Type» = 2
fault_number faults.Length = 3
fault_number faults.TooLong = 4
fault_number faults.Record = 5
fault_number faults.ErrorReport = 6
fault_number faults.Truncated = 7

-- That the reader failed comes after these.
abbrev pub read_fault_number : ReadFault → ℕ
read_fault_number (read_faults.Fault fault) = fault_number fault
read_fault_number read_faults.ReadFailed = 8
