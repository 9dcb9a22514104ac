-- Faults by their numbers.
use Rattle.std.specs.Prelude.{ℕ}
use Rattle.der_lite.specs.Place.{Fault}
use Rattle.der_lite.specs.Cursors.{der_kind_number as element_number}
use Rattle.resources.specs.declared.fault.ResourceFaultKind.{ResourceFaultKind}
use Rattle.resources.specs.declared.fault.ResourceFaultKind.TheVariants.{Element, AddressLength, Bound, Order, Single, Empty, Touching, Family, FamilyOrder, AsNumber, Inherit, RoutingDomains}
use Rattle.resources.specs.declared.fault.ResourceFault.{ResourceFault}

-- the number of each kind of fault
abbrev pub kind_number : ResourceFaultKind → ℕ
kind_number (Element kind) = element_number kind
kind_number AddressLength = 6
kind_number Bound = 7
kind_number Order = 8
kind_number Single = 9
kind_number Empty = 10
kind_number Touching = 11
kind_number Family = 12
kind_number FamilyOrder = 13
kind_number AsNumber = 14
kind_number Inherit = 15
kind_number RoutingDomains = 16

-- a fault by its number
abbrev pub fault_of : ResourceFault → Fault
fault_of fault = record { number = kind_number fault.kind; offset = fault.offset }
