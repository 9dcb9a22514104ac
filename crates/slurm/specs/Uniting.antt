-- Several SLURM files as one (RFC 8416 section 4.2).
use Rattle.std.specs.Prelude.{◌≡◌, ◌↔◌, ℕ, ◌<◌, ◌≤◌, ◌^◌, ◌++◌, Bool, true, not, ◌&&◌, ◌||◌, List, [], ◌∷◌, map, Contains, Some, Result, Ok, Err, ⊤}
use Rattle.std.specs.List.{filter_map, flat_map, list_any, slice_get}
use Rattle.std.specs.List.Sorted.{IsPermutation}
use Rattle.prefixes.specs.Address.{IsPrefix}
use Rattle.prefixes.specs.Payload.{Payload, block_of, covers, width_of}
use Rattle.prefixes.specs.declared.asn.Asn.{Asn}
use Rattle.prefixes.specs.declared.prefix.IpPrefix.{IpPrefix}
use Rattle.vrps.specs.VrpSet.{VrpSet, empty, has, listing, size, union}
use Rattle.slurm.specs.Exceptions.{Exceptions, excepted, is_filtered}
use Rattle.slurm.specs.Scoped.{Scoped}
use Rattle.slurm.specs.declared.filter.PrefixFilter.{PrefixFilter}
use Rattle.slurm.specs.declared.unite_fault.Overlap.{Overlap}
use Rattle.slurm.specs.declared.unite_fault.Overlap.TheVariants.{Prefixes, Bgpsec}
use Rattle.slurm.specs.declared.unite_fault.UniteFault.{UniteFault}
use Rattle.slurm.specs.declared.unite_fault.UniteFault.TheVariants as fault

-- ---- scopes

-- the prefixes of a file's prefix filters that have one, and of its prefix assertions
abbrev pub prefixes_of : Scoped → List IpPrefix
prefixes_of s = filter_map (λ f. f.prefix) s.exceptions.filters ++ map (λ v. v.prefix) (listing s.exceptions.assertions)

-- the ASes of its filters on BGPsec that have one, and of its assertions on BGPsec
abbrev pub asns_of : Scoped → List Asn
asns_of s = filter_map (λ a. a) s.bgpsec_filters ++ s.bgpsec_assertions

-- Two prefixes share an address exactly if one covers the other.
abbrev pub shares_address : IpPrefix → IpPrefix → Bool
shares_address p q = covers p q || covers q p

-- Two files overlap here: prefixes of both share an address, or both use one AS for BGPsec.
abbrev pub IsCommon : Scoped → Scoped → Overlap → Type 0
IsCommon s t (Prefixes p q) = Contains (prefixes_of s) p × Contains (prefixes_of t) q × (shares_address p q ≡ true)
IsCommon s t (Bgpsec a) = Contains (asns_of s) a × Contains (asns_of t) a

-- The files at these two places, the first before the second, overlap here.
pub record OverlapAt (ss : List Scoped) (i j : ℕ) (o : Overlap) : Type 0 where
  pub in_order : i < j
  pub first : Scoped
  pub first_is : slice_get ss i ≡ Some first
  pub second : Scoped
  pub second_is : slice_get ss j ≡ Some second
  pub common : IsCommon first second o

-- No two files overlap.
abbrev pub PrefixesApart : List Scoped → Type 0
PrefixesApart ss = (i j : ℕ) (p q : IpPrefix) → ¬ (OverlapAt ss i j (Prefixes p q))

abbrev pub AsnsApart : List Scoped → Type 0
AsnsApart ss = (i j : ℕ) (a : Asn) → ¬ (OverlapAt ss i j (Bgpsec a))

abbrev pub AreApart : List Scoped → Type 0
AreApart ss = (i j : ℕ) (o : Overlap) → ¬ (OverlapAt ss i j o)

-- ---- the files as one

-- the prefix filters of the files, one file after the other
abbrev pub filters_in : List Scoped → List PrefixFilter
filters_in ss = flat_map (λ s. s.exceptions.filters) ss

-- the union of their assertions
abbrev pub assertions_in : List Scoped → VrpSet
assertions_in [] = empty
assertions_in (s ∷ ss) = union s.exceptions.assertions (assertions_in ss)

abbrev pub united : List Scoped → Exceptions
united ss = record { filters = filters_in ss; assertions = assertions_in ss }

-- Files are united if no two overlap and they assert no more than a set may have. A refusal names two that overlap and the place, or says
-- that they assert too much.
abbrev pub Unites : List Scoped → Result Exceptions UniteFault → Type 0
Unites ss (Ok e) = AreApart ss × (size e.assertions ≤ 16777215) × (e ≡ united ss)
Unites ss (Err (fault.Overlap i j o)) = OverlapAt ss i j o
Unites ss (Err fault.TooMany) = AreApart ss × (16777215 < size (assertions_in ss))
Unites ss (Err fault.Memory) = ⊤

-- ---- steps

-- Two files overlap, or memory ran out.
abbrev pub IsOverlapOf : List Scoped → UniteFault → Type 0
IsOverlapOf ss (fault.Overlap i j o) = OverlapAt ss i j o
IsOverlapOf ss fault.TooMany = ⊥
IsOverlapOf ss fault.Memory = ⊤

-- what the files assert, one file after the other
abbrev pub records_in : List Scoped → List Payload
records_in ss = flat_map (λ s. listing s.exceptions.assertions) ss

-- ---- laws

-- A filter of some file matches the payload ..
abbrev pub is_filtered_by_any : List Scoped → Payload → Bool
is_filtered_by_any ss v = list_any (λ s. is_filtered s.exceptions.filters v) ss

-- .. and some file asserts it.
abbrev pub is_asserted_by_any : List Scoped → Payload → Bool
is_asserted_by_any ss v = list_any (λ s. has s.exceptions.assertions v) ss

-- The result for a set has exactly the payloads that some file asserts, and the members of the set that no filter of any file matches.
abbrev pub UnitedApplied : Type 0
UnitedApplied = (ss : List Scoped) (s : VrpSet) (v : Payload) → has (excepted (united ss) s) v ≡ ((has s v && not (is_filtered_by_any ss v)) || is_asserted_by_any ss v)

-- The order of the files changes nothing of the result.
abbrev pub AnyOrder : Type 0
AnyOrder = (ss ts : List Scoped) → IsPermutation ss ts → (s : VrpSet) → excepted (united ss) s ≡ excepted (united ts) s

-- One file overlaps with nothing.
abbrev pub OneIsApart : Type 0
OneIsApart = (s : Scoped) → AreApart (s ∷ [])

-- All bits of an address count.
abbrev pub IsAddress : IpPrefix → Type 0
IsAddress x = ((block_of x).len ≡ width_of x) × ((block_of x).addr < 2 ^ width_of x)

-- Some address is one of both.
abbrev pub HasCommonAddress : IpPrefix → IpPrefix → Type 0
HasCommonAddress p q = (x : IpPrefix) × IsAddress x × (covers p x ≡ true) × (covers q x ≡ true)

-- One prefix covers the other exactly if some address is one of both (RFC 8416 section 4.2, the first case).
abbrev pub SharesAddress : Type 0
SharesAddress =
    (p q : IpPrefix) → IsPrefix (width_of p) (block_of p) → IsPrefix (width_of q) (block_of q) → ((shares_address p q ≡ true) ↔ HasCommonAddress p q)
