-- Faults by their numbers.
use Rattle.std.specs.Prelude.{ℕ}
use Rattle.der_lite.specs.Place.{Fault}
use Rattle.der_lite.specs.Cursors.{der_kind_number as element_number}
use Rattle.payloads.specs.declared.fault.GrammarFaultKind.{GrammarFaultKind}
use Rattle.payloads.specs.declared.fault.GrammarFaultKind.TheVariants.{Element, VersionPresent, AsnRange, Family, Empty, PrefixTooLong, MaxLength, Order, NumberRange, TimesOrder, HashAlg, Name, HashLength, NameTwice, TooMany, MaxLengthSuperfluous}
use Rattle.payloads.specs.declared.fault.GrammarFault.{GrammarFault}

-- the number of each kind of fault
abbrev pub kind_number : GrammarFaultKind → ℕ
kind_number (Element kind) = element_number kind
kind_number VersionPresent = 6
kind_number AsnRange = 7
kind_number Family = 8
kind_number Empty = 9
kind_number PrefixTooLong = 10
kind_number MaxLength = 11
kind_number Order = 12
kind_number NumberRange = 13
kind_number TimesOrder = 14
kind_number HashAlg = 15
kind_number Name = 16
kind_number HashLength = 17
kind_number NameTwice = 18
kind_number TooMany = 19
kind_number MaxLengthSuperfluous = 20

-- a fault by its number
abbrev pub grammar_fault_of : GrammarFault → Fault
grammar_fault_of fault = record { number = kind_number fault.kind; offset = fault.offset }
