-- The numbers of faults, worked out.
use Rattle.std.specs.Prelude.{◌≡◌, refl}
use Rattle.prefixes.specs.PrefixFaults.{prefix_fault_number}
use Rattle.prefixes.specs.declared.fault.PrefixFault.TheVariants.{TooLong, HostBits, BadText, MaxLength}

numbers : (prefix_fault_number TooLong ≡ 1) × (prefix_fault_number HostBits ≡ 2) × (prefix_fault_number BadText ≡ 3) × (prefix_fault_number MaxLength ≡ 4)
numbers = (refl, refl, refl, refl)
