-- SLURM files (RFC 8416 section 3): what a file says, and why bytes say nothing.
use Rattle.std.specs.Prelude.{◌≡◌, ◌⊎◌, ℕ, ◌+◌, Bool, false, ◌&&◌, ◌==◌, nat_lt, if◌then◌else◌, List, Option, Some, None, option_and_then, Result, Ok, Err, codes}
use Rattle.std.specs.Str.{IsUtf8}
use Rattle.json.specs.Json.{Json, document}
use Rattle.json.specs.Strict.{HasUniqueKeys}
use Rattle.serde_json.specs.Data.{Data, Items}
use Rattle.serde_json.specs.Find.{get, as_array}
use Rattle.serde_json.specs.Read as json
use Rattle.prefixes.specs.Payload.{Payload}
use Rattle.vrps.specs.VrpSet.{set_of, size}
use Rattle.payload_lists.specs.PayloadList.{whole_at}
use Rattle.slurm.specs.Chains.{After, Then, ◌>>=◌, given, unless}
use Rattle.slurm.specs.Entries.{ReadsAssertion, ReadsEntries, ReadsFilter, ReadsKeyAssertion, ReadsKeyFilter}
use Rattle.slurm.specs.Exceptions.{Exceptions}
use Rattle.slurm.specs.Members.{is_of_members, one_for, total}
use Rattle.slurm.specs.declared.fault.SlurmArray.{SlurmArray}
use Rattle.slurm.specs.declared.fault.SlurmArray.TheVariants as array
use Rattle.slurm.specs.declared.fault.SlurmFault.{SlurmFault}
use Rattle.slurm.specs.declared.fault.SlurmFault.TheVariants as fault
use Rattle.slurm.specs.declared.fault.SlurmObject.{SlurmObject}
use Rattle.slurm.specs.declared.fault.SlurmObject.TheVariants as object
use Rattle.slurm.specs.declared.filter.PrefixFilter.{PrefixFilter}

-- the four arrays (RFC 8416 section 3.2)
pub record Arrays : Type 0 where
  pub prefix_filters : Items
  pub bgpsec_filters : Items
  pub prefix_assertions : Items
  pub bgpsec_assertions : Items

abbrev pub array_at : SlurmArray → List ℕ → Data → Result Items SlurmFault
array_at a key d = given (fault.NoArray a) (option_and_then as_array (get key d))

-- The object under a key, which has exactly these two members
abbrev pub is_pair : List ℕ → List ℕ → Data → Bool
is_pair one other d = is_of_members 2 (total d) && (one_for one d + one_for other d == 2)

abbrev pub pair_of : SlurmObject → List ℕ → List ℕ → Option Data → Result Data SlurmFault
pair_of o one other None = Err (fault.Members o)
pair_of o one other (Some d) = if is_pair one other d then Ok d else Err (fault.Members o)

-- The file is an object of exactly three members ..
abbrev pub is_file : Data → Bool
is_file d =
    is_of_members 3 (total d) && (one_for (codes "slurmVersion") d + one_for (codes "validationOutputFilters") d + one_for (codes "locallyAddedAssertions") d == 3)

-- .. of version 1 ..
abbrev pub is_version_1 : Option ℕ → Bool
is_version_1 None = false
is_version_1 (Some n) = n == 1

-- .. of which two are objects of two arrays each.
abbrev pub arrays_of : Data → Result Arrays SlurmFault
arrays_of d = do
  _ ← unless (fault.Members object.File) (is_file d)
  _ ← unless fault.Version (is_version_1 (whole_at (codes "slurmVersion") d))
  filters ← pair_of object.Filters (codes "prefixFilters") (codes "bgpsecFilters") (get (codes "validationOutputFilters") d)
  assertions ← pair_of object.Assertions (codes "prefixAssertions") (codes "bgpsecAssertions") (get (codes "locallyAddedAssertions") d)
  one ← array_at array.PrefixFilters (codes "prefixFilters") filters
  two ← array_at array.BgpsecFilters (codes "bgpsecFilters") filters
  three ← array_at array.PrefixAssertions (codes "prefixAssertions") assertions
  four ← array_at array.BgpsecAssertions (codes "bgpsecAssertions") assertions
  Ok (record { prefix_filters = one; bgpsec_filters = two; prefix_assertions = three; bgpsec_assertions = four })

-- At most 16,777,215 different payloads are asserted.
abbrev pub limited : List PrefixFilter → List Payload → Result Exceptions SlurmFault
limited fs vs = if nat_lt 16777215 (size (set_of vs)) then Err fault.TooMany else Ok (record { filters = fs; assertions = set_of vs })

-- What is read of the four arrays, in their order
abbrev pub ReadsArrays : Arrays → Result Exceptions SlurmFault → Type 0
ReadsArrays a r =
    Then (ReadsEntries ReadsFilter array.PrefixFilters a.prefix_filters) (λ fs.
    Then (ReadsEntries ReadsKeyFilter array.BgpsecFilters a.bgpsec_filters) (λ _.
    Then (ReadsEntries ReadsAssertion array.PrefixAssertions a.prefix_assertions) (λ vs.
    Then (ReadsEntries ReadsKeyAssertion array.BgpsecAssertions a.bgpsec_assertions) (λ _ s. s ≡ limited fs vs)))) r

abbrev pub ReadsValue : Data → Result Exceptions SlurmFault → Type 0
ReadsValue d r = After (arrays_of d) ReadsArrays r

-- These bytes are the JSON text of a value, as `serde_json` reads them.
abbrev pub IsJson : List ℕ → Data → Type 0
IsJson bytes d = IsUtf8 bytes × (json.read bytes ≡ Some d)

abbrev pub ReadsJson : List ℕ → Result Data SlurmFault → Type 0
ReadsJson bytes (Ok d) = IsJson bytes d
ReadsJson bytes (Err e) = (e ≡ fault.NotJson) × ((d : Data) → ¬ (IsJson bytes d))

-- No name is repeated in an object of the text, at any depth. (A value keeps the last of two members of a name, and the text has both.)
abbrev pub NamesOnce : List ℕ → Type 0
NamesOnce bytes = (j : Json) × (document bytes ≡ Some j) × HasUniqueKeys j

-- A value is judged if no name is repeated.
abbrev pub ReadsOnce : List ℕ → Data → Result Exceptions SlurmFault → Type 0
ReadsOnce bytes d r = (NamesOnce bytes × ReadsValue d r) ⊎ ((¬ (NamesOnce bytes)) × (r ≡ Err fault.Repeated))

-- What bytes say: exceptions, or why they say none, which is the first fault.
abbrev pub ReadsSlurm : List ℕ → Result Exceptions SlurmFault → Type 0
ReadsSlurm bytes r = Then (ReadsJson bytes) (ReadsOnce bytes) r

-- Bytes say one thing.
abbrev pub OneReading : Type 0
OneReading = (bytes : List ℕ) (r q : Result Exceptions SlurmFault) → ReadsSlurm bytes r → ReadsSlurm bytes q → r ≡ q
