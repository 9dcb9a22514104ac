-- The numbers of faults.
use Rattle.std.specs.Prelude.{ℕ}
use Rattle.payload_lists.specs.declared.listing.ListFault.{ListFault}
use Rattle.payload_lists.specs.declared.listing.ListFault.TheVariants.{NoList, Memory}

abbrev pub list_fault_number : ListFault → ℕ
list_fault_number NoList = 1
list_fault_number Memory = 2
