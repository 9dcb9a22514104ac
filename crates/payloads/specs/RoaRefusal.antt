-- Which values are no ROA: the first fault and the index of the entry.
use Rattle.std.specs.Prelude.{◌≡◌, ℕ, suc, Bool, true, false, nat_le, List, [], ◌∷◌, Option, Some, None, Result, Ok, Err}
use Rattle.der_lite.specs.Place.{first_of}
use Rattle.prefixes.specs.declared.prefix.IpPrefix.{IpPrefix}
use Rattle.prefixes.specs.declared.prefix.IpPrefix.TheVariants.{V4, V6}
use Rattle.payloads.specs.declared.roa_entry.RoaEntry.{RoaEntry}
use Rattle.payloads.specs.declared.fault.ValueFault.{ValueFault}
use Rattle.payloads.specs.Faults.{kind_number}
use Rattle.payloads.specs.RoaEntries.{is_not_above, is_bad_maximum, is_superfluous}
use Rattle.payloads.specs.RoaValues.{RoaValue}

-- IPv4 behind IPv6
abbrev pub goes_back : IpPrefix → IpPrefix → Bool
goes_back (V6 p) (V4 q) = true
goes_back (V6 p) (V6 q) = false
goes_back (V4 p) q = false

-- the family is below that of the entry before it
abbrev pub is_family_below : Option RoaEntry → RoaEntry → Bool
is_family_below None entry = false
is_family_below (Some before) entry = goes_back before.prefix entry.prefix

-- of an entry: TooMany, Order of the family, MaxLength, MaxLengthSuperfluous, Order, in this order
abbrev pub entry_rules : ℕ → Option RoaEntry → RoaEntry → List (ℕ × Bool)
entry_rules index before entry =
    (19, nat_le 65536 index) ∷ (12, is_family_below before entry) ∷ (11, is_bad_maximum entry) ∷ (20, is_superfluous entry) ∷ (12, is_not_above before entry) ∷ []

-- the fault of the entry at this index, or that of the later ones
abbrev pub at_index : ℕ → Option ℕ → Option (ℕ × ℕ) → Option (ℕ × ℕ)
at_index index (Some number) later = Some (number, index)
at_index index None later = later

-- the first fault of entries behind one, entry by entry
abbrev pub entries_refusal : ℕ → Option RoaEntry → List RoaEntry → Option (ℕ × ℕ)
entries_refusal index before [] = None
entries_refusal index before (entry ∷ entries) = at_index index (first_of (entry_rules index before entry)) (entries_refusal (suc index) (Some entry) entries)

-- Empty, or the first fault of the entries
unfoldable pub roa_refusal : List RoaEntry → Option (ℕ × ℕ)
roa_refusal [] = Some (9, 0)
roa_refusal (entry ∷ entries) = entries_refusal 0 None (entry ∷ entries)

-- the entries of a ROA: nothing is wrong with them
pub record IsRoa (entries : List RoaEntry) : Type 0 where
  pub right : roa_refusal entries ≡ None

-- The ROA of this AS and these entries, with which nothing is wrong; or their first fault.
abbrev pub Makes : Result RoaValue ValueFault → ℕ → List RoaEntry → Type 0
Makes (Ok roa) asn entries = (roa ≡ record { asn = asn; entries = entries }) × (roa_refusal entries ≡ None)
Makes (Err fault) asn entries = roa_refusal entries ≡ Some (kind_number fault.kind, fault.index)

-- the first fault of the entries, if there is one
abbrev pub Finds : Option ValueFault → Option (ℕ × ℕ) → Type 0
Finds None refusal = refusal ≡ None
Finds (Some fault) refusal = refusal ≡ Some (kind_number fault.kind, fault.index)
