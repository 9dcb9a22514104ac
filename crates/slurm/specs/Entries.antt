-- The entries of a SLURM file's arrays: what is read of them, and the first fault of each (RFC 8416 sections 3.3 and 3.4).
use Rattle.std.specs.Prelude.{◌≡◌, ℕ, ◌+◌, ◌≤◌, ◌^◌, true, ◌||◌, ◌==◌, nat_lt, if◌then◌else◌, List, [], ◌∷◌, ◌++◌, length, Option, Some, None, is_some, is_none, Result, Ok, Err, codes, ⊤}
use Rattle.serde_json.specs.Data.{Data, Items, no_items, item}
use Rattle.serde_json.specs.Find.{get}
use Rattle.prefixes.specs.Payload.{Payload, block_of, width_of}
use Rattle.prefixes.specs.declared.asn.Asn.{Asn}
use Rattle.prefixes.specs.declared.prefix.IpPrefix.{IpPrefix}
use Rattle.payload_lists.specs.PayloadList.{text_at, whole_at}
use Rattle.prefix_texts.specs.MixedText as texts
use Rattle.slurm.specs.Chains.{After, ◌>>=◌, given, unless}
use Rattle.slurm.specs.Members.{one_for, total}
use Rattle.slurm.specs.declared.fault.SlurmEntryFault.{SlurmEntryFault}
use Rattle.slurm.specs.declared.fault.SlurmEntryFault.TheVariants as why
use Rattle.slurm.specs.declared.fault.SlurmArray.{SlurmArray}
use Rattle.slurm.specs.declared.fault.SlurmFault.{SlurmFault}
use Rattle.slurm.specs.declared.fault.SlurmFault.TheVariants as fault
use Rattle.slurm.specs.declared.filter.PrefixFilter.{PrefixFilter}

-- An entry is an object, and has no members but the known ones.
abbrev pub members_known : ℕ → Option ℕ → Result ⊤ SlurmEntryFault
members_known n None = Err why.NoObject
members_known n (Some m) = if m == n then Ok tt else Err why.OtherKey

-- an AS is a whole number below 2^32
abbrev pub asn_of : Data → Result Asn SlurmEntryFault
asn_of d = given why.Asn (whole_at (codes "asn") d) >>= λ n. if nat_lt n (2 ^ 32) then Ok (record { 0 = n }) else Err why.Asn

abbrev pub asn_if_any : Data → Result (Option Asn) SlurmEntryFault
asn_if_any d = if is_none (get (codes "asn") d) then Ok None else (asn_of d >>= λ a. Ok (Some a))

-- the value of a name is a text
abbrev pub text_of : SlurmEntryFault → List ℕ → Data → Result ⊤ SlurmEntryFault
text_of e name d = unless e (is_some (text_at name d))

-- .. if anything does
abbrev pub text_if_any : SlurmEntryFault → List ℕ → Data → Result ⊤ SlurmEntryFault
text_if_any e name d = unless e (is_none (get name d) || is_some (text_at name d))

abbrev pub comment_of : Data → Result ⊤ SlurmEntryFault
comment_of d = text_if_any why.Comment (codes "comment") d

-- The text under "prefix" spells a prefix, of which an IPv6 address may have a dotted tail.
abbrev pub SpellsPrefix : Data → IpPrefix → Type 0
SpellsPrefix d p = (text : List ℕ) × (text_at (codes "prefix") d ≡ Some text) × texts.SpellsPrefix p text

-- What a prefix filter says before its prefix (RFC 8416 section 3.3.1): it has a prefix, an AS or both, and perhaps a comment.
abbrev pub filter_asn : Data → Result (Option Asn) SlurmEntryFault
filter_asn d = do
  _ ← members_known (one_for (codes "prefix") d + one_for (codes "asn") d + one_for (codes "comment") d) (total d)
  _ ← unless why.NeitherKey (is_some (get (codes "prefix") d) || is_some (get (codes "asn") d))
  a ← asn_if_any d
  _ ← comment_of d
  Ok a

-- .. and its prefix, if there is one
abbrev pub ReadsPrefix : Data → Result (Option IpPrefix) SlurmEntryFault → Type 0
ReadsPrefix d (Ok None) = get (codes "prefix") d ≡ None
ReadsPrefix d (Ok (Some p)) = SpellsPrefix d p
ReadsPrefix d (Err e) = (e ≡ why.Prefix) × (is_some (get (codes "prefix") d) ≡ true) × ((p : IpPrefix) → ¬ (SpellsPrefix d p))

abbrev pub ReadsFilterOf : Data → Option Asn → Result PrefixFilter SlurmEntryFault → Type 0
ReadsFilterOf d a (Ok f) = (f.asn ≡ a) × ReadsPrefix d (Ok f.prefix)
ReadsFilterOf d a (Err e) = ReadsPrefix d (Err e)

-- What is read of a prefix filter: it, or its first fault.
abbrev pub ReadsFilter : Data → Result PrefixFilter SlurmEntryFault → Type 0
ReadsFilter d r = After (filter_asn d) (ReadsFilterOf d) r

-- What a prefix assertion says before its prefix (RFC 8416 section 3.4.1): it has an AS and a prefix, and perhaps a maximum and a comment.
abbrev pub assertion_asn : Data → Result Asn SlurmEntryFault
assertion_asn d = do
  _ ← members_known (one_for (codes "asn") d + one_for (codes "prefix") d + one_for (codes "maxPrefixLength") d + one_for (codes "comment") d) (total d)
  a ← asn_of d
  _ ← comment_of d
  Ok a

-- The maximum of a prefix of this length: an absent one is the length.
abbrev pub max_len_of : Data → ℕ → Option ℕ
max_len_of d len = if is_none (get (codes "maxPrefixLength") d) then Some len else whole_at (codes "maxPrefixLength") d

-- .. which is not below the length, and not above the width of the family
abbrev pub IsMaximum : Data → IpPrefix → ℕ → Type 0
IsMaximum d p m = (max_len_of d (block_of p).len ≡ Some m) × ((block_of p).len ≤ m) × (m ≤ width_of p)

abbrev pub ReadsAssertionOf : Data → Asn → Result Payload SlurmEntryFault → Type 0
ReadsAssertionOf d a (Ok v) = (v.asn ≡ a.0) × SpellsPrefix d v.prefix × IsMaximum d v.prefix v.max_len
ReadsAssertionOf d a (Err why.Prefix) = (p : IpPrefix) → ¬ (SpellsPrefix d p)
ReadsAssertionOf d a (Err why.MaxLength) = (p : IpPrefix) × SpellsPrefix d p × ((m : ℕ) → ¬ (IsMaximum d p m))
ReadsAssertionOf d a (Err e) = ⊥

-- What is read of a prefix assertion: the payload that it says, or its first fault.
abbrev pub ReadsAssertion : Data → Result Payload SlurmEntryFault → Type 0
ReadsAssertion d r = After (assertion_asn d) (ReadsAssertionOf d) r

-- What is read of a filter on BGPsec (RFC 8416 section 3.3.2), which has no effect: its AS, if it has one. It has an SKI, an AS or both, and
-- perhaps a comment.
abbrev pub key_filter : Data → Result (Option Asn) SlurmEntryFault
key_filter d = do
  _ ← members_known (one_for (codes "SKI") d + one_for (codes "asn") d + one_for (codes "comment") d) (total d)
  _ ← unless why.NeitherSki (is_some (get (codes "SKI") d) || is_some (get (codes "asn") d))
  a ← asn_if_any d
  _ ← comment_of d
  _ ← text_if_any why.Ski (codes "SKI") d
  Ok a

abbrev pub ReadsKeyFilter : Data → Result (Option Asn) SlurmEntryFault → Type 0
ReadsKeyFilter d r = r ≡ key_filter d

-- What is read of an assertion on BGPsec (RFC 8416 section 3.4.2), which has no effect: its AS. It has an AS, an SKI and a router's public key,
-- and perhaps a comment.
abbrev pub key_assertion : Data → Result Asn SlurmEntryFault
key_assertion d = do
  _ ← members_known (one_for (codes "asn") d + one_for (codes "SKI") d + one_for (codes "routerPublicKey") d + one_for (codes "comment") d) (total d)
  a ← asn_of d
  _ ← comment_of d
  _ ← text_of why.Ski (codes "SKI") d
  _ ← text_of why.RouterPublicKey (codes "routerPublicKey") d
  Ok a

abbrev pub ReadsKeyAssertion : Data → Result Asn SlurmEntryFault → Type 0
ReadsKeyAssertion d r = r ≡ key_assertion d

abbrev pub listed : Items → List Data
listed no_items = []
listed (item d ds) = d ∷ listed ds

-- Each entry is read, and these are their values.
abbrev pub AreRead : {A : Type 0} → (Data → Result A SlurmEntryFault → Type 0) → List Data → List A → Type 0
AreRead Reads [] [] = ⊤
AreRead Reads (d ∷ ds) (x ∷ xs) = Reads d (Ok x) × AreRead Reads ds xs
AreRead Reads [] (x ∷ xs) = ⊥
AreRead Reads (d ∷ ds) [] = ⊥

-- The entry of this index has this fault, and each before it is read.
pub record FaultAt {A : Type 0} (Reads : Data → Result A SlurmEntryFault → Type 0) (ds : List Data) (index : ℕ) (e : SlurmEntryFault) : Type 0 where
  pub before : List Data
  pub entry : Data
  pub after : List Data
  pub parts : ds ≡ before ++ entry ∷ after
  pub index_is : length before ≡ index
  pub values : List A
  pub are_read : AreRead Reads before values
  pub fault : Reads entry (Err e)

-- What is read of an array: the values of its entries, or its first fault
abbrev pub ReadsEntries : {A : Type 0} → (Data → Result A SlurmEntryFault → Type 0) → SlurmArray → Items → Result (List A) SlurmFault → Type 0
ReadsEntries Reads a ds (Ok xs) = AreRead Reads (listed ds) xs
ReadsEntries Reads a ds (Err (fault.Entry b i e)) = (b ≡ a) × FaultAt Reads (listed ds) i e
ReadsEntries Reads a ds (Err e) = ⊥
