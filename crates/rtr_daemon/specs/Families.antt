-- How many VRPs of each address family a set has.
use Rattle.std.specs.Prelude.{Bool, true, false, length, not, Option, None, Some}
use Rattle.std.specs.List.{filter}
use Rattle.prefixes.specs.Payload.{Payload}
use Rattle.prefixes.specs.declared.prefix.IpPrefix.{IpPrefix}
use Rattle.prefixes.specs.declared.prefix.IpPrefix.TheVariants.{V4, V6}
use Rattle.vrps.specs.Instance.{NumberedSet}
use Rattle.vrps.specs.VrpSet.{VrpSet, listing}
use Rattle.rtr_daemon.specs.declared.families.Families.{Families}

abbrev pub is_ipv4_prefix : IpPrefix → Bool
is_ipv4_prefix (V4 p) = true
is_ipv4_prefix (V6 p) = false

-- Whether a VRP is of IPv4. All others are of IPv6.
abbrev pub is_ipv4 : Payload → Bool
is_ipv4 v = is_ipv4_prefix v.prefix

-- how many VRPs of each address family a set has
abbrev pub families_of : VrpSet → Families
families_of set = record { ipv4 = length (filter is_ipv4 (listing set)); ipv6 = length (filter (λ v. not (is_ipv4 v)) (listing set)) }

-- those of no set
abbrev pub no_families : Families
no_families = record { ipv4 = 0; ipv6 = 0 }

-- those of a version, if there is one
abbrev pub families_in : Option NumberedSet → Families
families_in None = no_families
families_in (Some version) = families_of version.set
