-- The numbers of faults.
use Rattle.std.specs.Prelude.{ℕ}
use Rattle.prefixes.specs.declared.fault.PrefixFault.{PrefixFault}
use Rattle.prefixes.specs.declared.fault.PrefixFault.TheVariants.{TooLong, HostBits, BadText, MaxLength}

abbrev pub prefix_fault_number : PrefixFault → ℕ
prefix_fault_number TooLong = 1
prefix_fault_number HostBits = 2
prefix_fault_number BadText = 3
prefix_fault_number MaxLength = 4
