-- The numbers of faults.
use Rattle.std.specs.Prelude.{ℕ}
use Rattle.exports.specs.declared.fault.ExportFault.{ExportFault}
use Rattle.exports.specs.declared.fault.ExportFault.TheVariants.{NotJson, NoRoas, Entry, TooMany, Memory, Repeated}

abbrev pub export_fault_number : ExportFault → ℕ
export_fault_number NotJson = 1
export_fault_number NoRoas = 2
export_fault_number (Entry index what) = 3
export_fault_number TooMany = 4
export_fault_number Memory = 5
export_fault_number Repeated = 6
