-- Local exceptions to a set of payloads (RFC 8416 sections 3.3.1 and 3.4.1).
use Rattle.std.specs.Prelude.{◌≡◌, ℕ, Bool, true, not, ◌&&◌, ◌||◌, ◌==◌, List, Option, Some, None}
use Rattle.std.specs.List.{list_any}
use Rattle.std.specs.FinMap as map
use Rattle.prefixes.specs.Payload.{Payload, covers}
use Rattle.prefixes.specs.declared.asn.Asn.{Asn}
use Rattle.prefixes.specs.declared.prefix.IpPrefix.{IpPrefix}
use Rattle.vrps.specs.VrpSet.{VrpSet, has, union}
use Rattle.slurm.specs.declared.filter.PrefixFilter.{PrefixFilter}
use Rattle.slurm.specs.declared.filter.Slurm.{Slurm}

-- The prefix is that of the filter or is covered by it, if the filter has one.
abbrev pub is_within : Option IpPrefix → IpPrefix → Bool
is_within None p = true
is_within (Some q) p = covers q p

-- The AS is that of the filter, if it has one.
abbrev pub is_of_as : Option Asn → ℕ → Bool
is_of_as None n = true
is_of_as (Some a) n = a.0 == n

-- A payload matches a filter (RFC 8416 section 3.3.1).
abbrev pub matches : PrefixFilter → Payload → Bool
matches f v = is_within f.prefix v.prefix && is_of_as f.asn v.asn

-- some filter matches
abbrev pub is_filtered : List PrefixFilter → Payload → Bool
is_filtered fs v = list_any (λ f. matches f v) fs

-- Local exceptions: filters and assertions
pub record Exceptions : Type 0 where
  pub filters : List PrefixFilter
  pub assertions : VrpSet

abbrev pub exceptions_of : Slurm → Exceptions
exceptions_of s = record { filters = s.filters.items; assertions = s.assertions }

-- The members of a set that no filter matches, together with the assertions
abbrev pub excepted : Exceptions → VrpSet → VrpSet
excepted e s = union (map.retain_keys s (λ v. not (is_filtered e.filters v))) e.assertions

-- A payload is in the result for a set if and only if it is in the set and no filter matches it, or an assertion has it.
abbrev pub IsExcepted : Exceptions → VrpSet → VrpSet → Type 0
IsExcepted e s t = (v : Payload) → has t v ≡ ((has s v && not (is_filtered e.filters v)) || has e.assertions v)

-- Applying twice gives what applying once gives.
abbrev pub AppliedTwice : Type 0
AppliedTwice = (e : Exceptions) (s : VrpSet) → excepted e (excepted e s) ≡ excepted e s

-- Filters do not act on assertions.
abbrev pub AssertionsStay : Type 0
AssertionsStay = (e : Exceptions) (s : VrpSet) (v : Payload) → has e.assertions v ≡ true → has (excepted e s) v ≡ true
