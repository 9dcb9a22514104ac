-- What a message says of the text of a prefix that has a fault
use Rattle.std.specs.Prelude.{ℕ, List, codes}
use Rattle.prefixes.specs.declared.fault.PrefixFault.{PrefixFault}
use Rattle.prefixes.specs.declared.fault.PrefixFault.TheVariants.{TooLong, HostBits, BadText, MaxLength}

abbrev pub prefix_reason : PrefixFault → List ℕ
prefix_reason TooLong = codes "is longer than 32 (IPv4) or 128 (IPv6) bits"
prefix_reason HostBits = codes "has host bits set"
prefix_reason BadText = codes "is not a prefix"
prefix_reason MaxLength = codes "is not from the prefix length to 32 (IPv4) or 128 (IPv6)"
