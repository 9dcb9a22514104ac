-- The value of a ROA as programs hold it: all entries in one list.
use Rattle.std.specs.Prelude.{◌≡◌, ℕ, Bool, List, [], ◌++◌, map, Option, Some, None, nat_eq}
use Rattle.std.specs.Cmp.{IsEquivalence, and_equiv, eq_by_cmp_equiv, nat_eq_equiv, on_equiv}
use Rattle.std.specs.Cmp.Lexicographic.{lists_equiv, options_equiv, pointwise}
use Rattle.std.specs.Option.{option_eq}
use Rattle.std.specs.Ordering.{eq_by_cmp, eq_of_both, on}
use Rattle.der_lite.specs.Place.{place_of}
use Rattle.prefixes.specs.Payload.{Payload, prefix_cmp}
use Rattle.prefixes.specs.Orders.{prefix_total}
use Rattle.payloads.specs.declared.roa_entry.RoaEntry.{RoaEntry}
use Rattle.payloads.specs.RoaEntries.{payload_of}
use Rattle.payloads.specs.Roa.{Family, Blocks, RoaTree, roa_payload}

-- an AS and the entries, those of IPv4 before those of IPv6
pub record RoaValue : Type 0 where
  pub asn : ℕ
  pub entries : List RoaEntry

-- whether two entries have the same prefix, and the same maximum length or both none
abbrev pub entry_eq : RoaEntry → RoaEntry → Bool
entry_eq = eq_of_both (on (λ e. e.prefix) (eq_by_cmp prefix_cmp)) (on (λ e. e.max_len) (option_eq nat_eq))

-- whether two ROAs have equal entries and the same AS
abbrev pub roa_eq : RoaValue → RoaValue → Bool
roa_eq = eq_of_both (on (λ r. r.entries) (pointwise entry_eq)) (on (λ r. r.asn) nat_eq)

entry_equiv : IsEquivalence entry_eq
entry_equiv = and_equiv (on_equiv (λ e. e.prefix) (eq_by_cmp_equiv prefix_total)) (on_equiv (λ e. e.max_len) (options_equiv nat_eq_equiv))

pub roa_equiv : IsEquivalence roa_eq
roa_equiv = and_equiv (on_equiv (λ r. r.entries) (lists_equiv entry_equiv)) (on_equiv (λ r. r.asn) nat_eq_equiv)

abbrev pub entries_of : Option Family → List RoaEntry
entries_of None = []
entries_of (Some family) = family.1

abbrev pub all_entries : Blocks → List RoaEntry
all_entries blocks = blocks.0.1 ++ entries_of blocks.1

-- the entries of the families behind one another
abbrev pub flat : RoaTree → RoaValue
flat tree = record { asn = tree.0; entries = all_entries tree.1 }

unfoldable pub TreeSpells : RoaTree → List ℕ → Type 0
TreeSpells = roa_payload.Spells

-- The bytes spell a tree of the grammar that lies flat as this value (RFC 9582 section 4).
pub record RoaSpells (roa : RoaValue) (bytes : List ℕ) : Type 0 where
  pub tree : RoaTree
  pub spelled : TreeSpells tree bytes
  pub is_flat : flat tree ≡ roa

-- What is at the offset fails with this number, and all that is judged before it holds.
unfoldable pub RoaFaultAt : List ℕ → ℕ → ℕ → Type 0
RoaFaultAt bytes offset number = roa_payload.FaultAt (place_of 0 bytes) (record { number = number; offset = offset })

-- what a ROA validates: a payload for each entry
abbrev pub payloads_of : RoaValue → List Payload
payloads_of roa = map (payload_of roa.asn) roa.entries
