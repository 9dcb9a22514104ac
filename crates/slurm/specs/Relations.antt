-- SLURM files as relations (RFC 8416 section 3): which bytes are a file, and which exceptions it says. In which order a file is judged stands
-- in `SlurmFile.antt`.
use Rattle.std.specs.Prelude.{◌≡◌, ◌↔◌, ◌⊎◌, ℕ, ◌<◌, ◌≤◌, ◌^◌, List, [], ◌∷◌, Option, Some, None, option_and_then, IsSome, Ok, codes, ⊤}
use Rattle.std.specs.List.{AllByRecursion}
use Rattle.serde_json.specs.Data.{Data, Items}
use Rattle.serde_json.specs.Find.{get, as_array, as_object}
use Rattle.prefixes.specs.Payload.{Payload, block_of, width_of}
use Rattle.prefixes.specs.declared.asn.Asn.{Asn}
use Rattle.prefixes.specs.declared.prefix.IpPrefix.{IpPrefix}
use Rattle.payload_lists.specs.PayloadList.{text_at, whole_at}
use Rattle.vrps.specs.VrpSet.{set_of, size}
use Rattle.slurm.specs.Entries.{SpellsPrefix, listed}
use Rattle.slurm.specs.Exceptions.{Exceptions}
use Rattle.slurm.specs.SlurmFile.{IsJson, NamesOnce, ReadsSlurm}
use Rattle.slurm.specs.declared.filter.PrefixFilter.{PrefixFilter}

-- ---- members

-- A member of this name is there.
abbrev pub Has : Data → List ℕ → Type 0
Has d name = IsSome (get name d)

-- The name is one of these.
abbrev pub IsOneOf : List (List ℕ) → List ℕ → Type 0
IsOneOf [] name = ⊥
IsOneOf (n ∷ ns) name = (name ≡ n) ⊎ IsOneOf ns name

-- An object whose members all have one of these names
pub record HasOnly (names : List (List ℕ)) (d : Data) : Type 0 where
  pub is_object : IsSome (as_object d)
  pub only : (name : List ℕ) → Has d name → IsOneOf names name

-- An object of exactly these members
pub record HasExactly (names : List (List ℕ)) (d : Data) : Type 0 where
  pub no_others : HasOnly names d
  pub all : AllByRecursion (Has d) names

-- The AS of an entry is a whole number below 2^32, if there is one.
abbrev pub SaysAsn : Data → Option Asn → Type 0
SaysAsn d None = get (codes "asn") d ≡ None
SaysAsn d (Some a) = (whole_at (codes "asn") d ≡ Some a.0) × (a.0 < 2 ^ 32)

-- The prefix of a filter is a readable spelling, if there is one.
abbrev pub SaysPrefix : Data → Option IpPrefix → Type 0
SaysPrefix d None = get (codes "prefix") d ≡ None
SaysPrefix d (Some p) = SpellsPrefix d p

-- The value of a name is a text.
abbrev pub HasText : List ℕ → Data → Type 0
HasText name d = IsSome (text_at name d)

-- .. if anything does
abbrev pub HasTextIfAny : List ℕ → Data → Type 0
HasTextIfAny name d = (get name d ≡ None) ⊎ HasText name d

-- ---- entries

-- A prefix filter (section 3.3.1): a prefix, an AS or both, and perhaps a comment
pub record IsFilter (d : Data) (f : PrefixFilter) : Type 0 where
  pub members : HasOnly (codes "prefix" ∷ codes "asn" ∷ codes "comment" ∷ []) d
  pub has_either : Has d (codes "prefix") ⊎ Has d (codes "asn")
  pub asn : SaysAsn d f.asn
  pub prefix : SaysPrefix d f.prefix
  pub comment : HasTextIfAny (codes "comment") d

-- The maximum length is the length of the prefix, if there is none.
abbrev pub SaysMaximum : Data → Payload → Type 0
SaysMaximum d v =
    ((get (codes "maxPrefixLength") d ≡ None) × (v.max_len ≡ (block_of v.prefix).len)) ⊎ (whole_at (codes "maxPrefixLength") d ≡ Some v.max_len)

-- A prefix assertion (section 3.4.1): an AS and a prefix, perhaps a maximum length from the prefix's up to the width of its family, and
-- perhaps a comment
pub record IsAssertion (d : Data) (v : Payload) : Type 0 where
  pub members : HasOnly (codes "asn" ∷ codes "prefix" ∷ codes "maxPrefixLength" ∷ codes "comment" ∷ []) d
  pub asn : (whole_at (codes "asn") d ≡ Some v.asn) × (v.asn < 2 ^ 32)
  pub prefix : SpellsPrefix d v.prefix
  pub max_len : SaysMaximum d v
  pub not_shorter : (block_of v.prefix).len ≤ v.max_len
  pub in_family : v.max_len ≤ width_of v.prefix
  pub comment : HasTextIfAny (codes "comment") d

-- A filter on BGPsec (section 3.3.2): an SKI, an AS or both, and perhaps a comment
pub record IsKeyFilter (d : Data) (a : Option Asn) : Type 0 where
  pub members : HasOnly (codes "SKI" ∷ codes "asn" ∷ codes "comment" ∷ []) d
  pub has_either : Has d (codes "SKI") ⊎ Has d (codes "asn")
  pub asn : SaysAsn d a
  pub ski : HasTextIfAny (codes "SKI") d
  pub comment : HasTextIfAny (codes "comment") d

-- An assertion on BGPsec (section 3.4.2): an AS, an SKI and a router's public key, and perhaps a comment
pub record IsKeyAssertion (d : Data) (a : Asn) : Type 0 where
  pub members : HasOnly (codes "asn" ∷ codes "SKI" ∷ codes "routerPublicKey" ∷ codes "comment" ∷ []) d
  pub asn : (whole_at (codes "asn") d ≡ Some a.0) × (a.0 < 2 ^ 32)
  pub ski : HasText (codes "SKI") d
  pub router_public_key : HasText (codes "routerPublicKey") d
  pub comment : HasTextIfAny (codes "comment") d

-- ---- the file

-- Each of the entries says one of these, in their order.
abbrev pub Each : {A : Type 0} → (Data → A → Type 0) → List Data → List A → Type 0
Each Says [] [] = ⊤
Each Says (d ∷ ds) (x ∷ xs) = Says d x × Each Says ds xs
Each Says [] (x ∷ xs) = ⊥
Each Says (d ∷ ds) [] = ⊥

-- The value of this name is an array of such entries.
abbrev pub Lists : List ℕ → (List Data → Type 0) → Data → Type 0
Lists name Are d = (ds : Items) × (option_and_then as_array (get name d) ≡ Some ds) × Are (listed ds)

-- The filters (section 3.3), of which those on BGPsec have no effect
pub record AreFilters (d : Data) (fs : List PrefixFilter) : Type 0 where
  pub members : HasExactly (codes "prefixFilters" ∷ codes "bgpsecFilters" ∷ []) d
  pub of_prefixes : Lists (codes "prefixFilters") (λ ds. Each IsFilter ds fs) d
  pub ases : List (Option Asn)
  pub of_keys : Lists (codes "bgpsecFilters") (λ ds. Each IsKeyFilter ds ases) d

-- The assertions (section 3.4), of which those on BGPsec have no effect
pub record AreAssertions (d : Data) (vs : List Payload) : Type 0 where
  pub members : HasExactly (codes "prefixAssertions" ∷ codes "bgpsecAssertions" ∷ []) d
  pub of_prefixes : Lists (codes "prefixAssertions") (λ ds. Each IsAssertion ds vs) d
  pub ases : List Asn
  pub of_keys : Lists (codes "bgpsecAssertions") (λ ds. Each IsKeyAssertion ds ases) d

-- The value of a file of these exceptions (section 3.2)
pub record IsFile (d : Data) (e : Exceptions) : Type 0 where
  pub members : HasExactly (codes "slurmVersion" ∷ codes "validationOutputFilters" ∷ codes "locallyAddedAssertions" ∷ []) d
  pub version : whole_at (codes "slurmVersion") d ≡ Some 1
  pub filters : Data
  pub filters_stand : get (codes "validationOutputFilters") d ≡ Some filters
  pub are_filters : AreFilters filters e.filters
  pub assertions : Data
  pub assertions_stand : get (codes "locallyAddedAssertions") d ≡ Some assertions
  pub payloads : List Payload
  pub are_assertions : AreAssertions assertions payloads
  pub set_is : e.assertions ≡ set_of payloads
  pub within_limit : size (set_of payloads) ≤ 16777215

-- These bytes are a SLURM file of these exceptions.
pub record IsSlurmFile (bytes : List ℕ) (e : Exceptions) : Type 0 where
  pub value : Data
  pub is_json : IsJson bytes value
  pub names_once : NamesOnce bytes
  pub is_file : IsFile value e

-- Exceptions are read of the bytes if and only if the bytes are a file of them.
abbrev pub ReadsExactly : Type 0
ReadsExactly = (bytes : List ℕ) (e : Exceptions) → (ReadsSlurm bytes (Ok e) ↔ IsSlurmFile bytes e)
