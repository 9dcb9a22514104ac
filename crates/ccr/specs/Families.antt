-- The address families of a ROAPayloadSet, by the words for those of a ROA.
use Rattle.std.specs.Prelude.{ℕ, Bool, List, [], ◌∷◌}
use Rattle.prefixes.specs.declared.prefix.IpPrefix.{IpPrefix}
use Rattle.payloads.specs.declared.roa_entry.RoaEntry.{RoaEntry}
use Rattle.payloads.specs.Roa.{family_number}
use Rattle.payloads.specs.RoaReading.{family_in}
use Rattle.payloads.specs.RoaBytes.{family_bytes, is_of, list_bytes}
use Rattle.ccr.specs.declared.family.Family.{Family}
use Rattle.ccr.specs.declared.family.Family.TheVariants.{Ipv4, Ipv6}

-- RFC 9582 section 4.3.1: addressFamily
abbrev pub family_content : Family → List ℕ
family_content Ipv4 = 0 ∷ 1 ∷ []
family_content Ipv6 = 0 ∷ 2 ∷ []

-- the type of a value
abbrev pub TypeOf : {A : Type 0} → A → Type 0
TypeOf {A} _ = A

-- the families of a ROA
abbrev pub RoaFamily : Type 0
RoaFamily = TypeOf (family_in [])

-- the same family, of a ROA
abbrev pub of_roa : Family → RoaFamily
of_roa family = family_in (family_content family)

-- the number of a family, whether a prefix is of it, the addresses of the entries of it, and the element of a family and its addresses
abbrev pub number_of : Family → ℕ
number_of family = family_number (of_roa family)

abbrev pub is_in : Family → IpPrefix → Bool
is_in family prefix = is_of (of_roa family) prefix

abbrev pub addresses_of : Family → List RoaEntry → List ℕ
addresses_of family entries = list_bytes (of_roa family) entries

abbrev pub element_of : Family → List ℕ → List ℕ
element_of family list = family_bytes (of_roa family) list
