-- SLURM files with their scopes: what is read of a file when the ASes of its entries on BGPsec are kept too (RFC 8416 sections 3 and 4.2).
use Rattle.std.specs.Prelude.{◌≡◌, ◌↔◌, ◌⊎◌, ℕ, List, Option, Result, Ok, Err}
use Rattle.serde_json.specs.Data.{Data}
use Rattle.prefixes.specs.declared.asn.Asn.{Asn}
use Rattle.slurm.specs.Chains.{After, Then, seen}
use Rattle.slurm.specs.Entries.{ReadsAssertion, ReadsEntries, ReadsFilter, ReadsKeyAssertion, ReadsKeyFilter}
use Rattle.slurm.specs.Exceptions.{Exceptions, exceptions_of}
use Rattle.slurm.specs.Relations.{IsFile, IsSlurmFile}
use Rattle.slurm.specs.SlurmFile.{Arrays, NamesOnce, ReadsJson, ReadsSlurm, arrays_of, limited}
use Rattle.slurm.specs.declared.fault.SlurmArray.TheVariants as array
use Rattle.slurm.specs.declared.fault.SlurmFault.{SlurmFault}
use Rattle.slurm.specs.declared.fault.SlurmFault.TheVariants as fault
use Rattle.slurm.specs.declared.scoped.ScopedSlurm.{ScopedSlurm}

-- What a file says: the exceptions; for each filter on BGPsec its AS, if it has one (section 3.3.2); for each assertion on BGPsec its AS
-- (section 3.4.2)
pub record Scoped : Type 0 where
  pub exceptions : Exceptions
  pub bgpsec_filters : List (Option Asn)
  pub bgpsec_assertions : List Asn

abbrev pub scoped_of : ScopedSlurm → Scoped
scoped_of s = record { exceptions = exceptions_of s.slurm; bgpsec_filters = s.bgpsec_filters.items; bgpsec_assertions = s.bgpsec_assertions.items }

abbrev pub scoped_by : List (Option Asn) → List Asn → Exceptions → Scoped
scoped_by filters assertions e = record { exceptions = e; bgpsec_filters = filters; bgpsec_assertions = assertions }

-- What is read of the four arrays, in their order, as `ReadsArrays` has it
abbrev pub ReadsScopedArrays : Arrays → Result Scoped SlurmFault → Type 0
ReadsScopedArrays a r =
    Then (ReadsEntries ReadsFilter array.PrefixFilters a.prefix_filters) (λ fs.
    Then (ReadsEntries ReadsKeyFilter array.BgpsecFilters a.bgpsec_filters) (λ xs.
    Then (ReadsEntries ReadsAssertion array.PrefixAssertions a.prefix_assertions) (λ vs.
    Then (ReadsEntries ReadsKeyAssertion array.BgpsecAssertions a.bgpsec_assertions) (λ ys s. s ≡ seen (scoped_by xs ys) (limited fs vs))))) r

abbrev pub ReadsScopedValue : Data → Result Scoped SlurmFault → Type 0
ReadsScopedValue d r = After (arrays_of d) ReadsScopedArrays r

abbrev pub ReadsScopedOnce : List ℕ → Data → Result Scoped SlurmFault → Type 0
ReadsScopedOnce bytes d r = (NamesOnce bytes × ReadsScopedValue d r) ⊎ ((¬ (NamesOnce bytes)) × (r ≡ Err fault.Repeated))

-- What bytes say: a file with its scope, or the first fault.
abbrev pub ReadsScoped : List ℕ → Result Scoped SlurmFault → Type 0
ReadsScoped bytes r = Then (ReadsJson bytes) (ReadsScopedOnce bytes) r

-- The value of a file of these exceptions, whose entries on BGPsec have these ASes
abbrev pub IsScopedValue : Data → Scoped → Type 0
IsScopedValue d s = (file : IsFile d s.exceptions) × (file.are_filters.ases ≡ s.bgpsec_filters) × (file.are_assertions.ases ≡ s.bgpsec_assertions)

-- These bytes are a SLURM file of these exceptions, whose entries on BGPsec have these ASes.
abbrev pub IsScopedFile : List ℕ → Scoped → Type 0
IsScopedFile bytes s = (file : IsSlurmFile bytes s.exceptions) × (file.is_file.are_filters.ases ≡ s.bgpsec_filters) × (file.is_file.are_assertions.ases ≡ s.bgpsec_assertions)

-- A file with its scope is read of bytes if and only if these are such a file.
abbrev pub ReadsScopedExactly : Type 0
ReadsScopedExactly = (bytes : List ℕ) (s : Scoped) → (ReadsScoped bytes (Ok s) ↔ IsScopedFile bytes s)

-- Bytes say one thing.
abbrev pub OneScopedReading : Type 0
OneScopedReading = (bytes : List ℕ) (r q : Result Scoped SlurmFault) → ReadsScoped bytes r → ReadsScoped bytes q → r ≡ q

-- Without the scope it is what `ReadsSlurm` says, faults included; and each file has one scope.
abbrev pub ScopesAreKept : Type 0
ScopesAreKept =
    ((bytes : List ℕ) (r : Result Scoped SlurmFault) → ReadsScoped bytes r → ReadsSlurm bytes (seen (λ s. s.exceptions) r))
    × ((bytes : List ℕ) (q : Result Exceptions SlurmFault) → ReadsSlurm bytes q → (r : Result Scoped SlurmFault) × ReadsScoped bytes r × (seen (λ s. s.exceptions) r ≡ q))
