-- The trust anchors of an export: an entry of `roas` names its own in the member `ta`.
use Rattle.std.specs.Prelude.{◌≡◌, ℕ, suc, not, nat_le, cond, List, [], ◌∷◌, length, map, filter, filter_map, take, slice_get, Contains, Option, Some, None, option_map, unwrap_or, codes, string_bytes}
use Rattle.std.specs.Str.{bytes_eq}
use Rattle.serde_json.specs.Data.{Data, Items, no_items, item}
use Rattle.prefixes.specs.Payload.{Payload}
use Rattle.vrps.specs.VrpSet.{VrpSet, listing, size}
use Rattle.payload_lists.specs.PayloadList.{text_at}
use Rattle.exports.specs.Entry.{counts_at}
use Rattle.exports.specs.Export.{Lists, Reads, roas}
use Rattle.exports.specs.declared.anchors.ExportAnchors.{ExportAnchors}
use Rattle.exports.specs.declared.entry.ExportEntry.{ExportEntry}
use Rattle.exports.specs.declared.export.ExportCounted.{ExportCounted}

-- ---- names

-- A name of more than 64 bytes is none.
abbrev pub short : Option (List ℕ) → Option (List ℕ)
short None = None
short (Some name) = cond (nat_le (length name) 64) (Some name) None

-- the name of an entry's trust anchor, if it has one
abbrev pub anchor_of : Data → Option (List ℕ)
anchor_of d = short (text_at (codes "ta") d)

abbrev pub anchors_of : Items → List (Option (List ℕ))
anchors_of no_items = []
anchors_of (item d ds) = anchor_of d ∷ anchors_of ds

-- the names in the items of roas, in their order. Entries of a payload list have none.
abbrev pub anchors_in : Data → List (Option (List ℕ))
anchors_in d = unwrap_or (option_map anchors_of (roas d)) []

-- the payload of each entry that counts at a moment, with the name of its trust anchor
abbrev pub anchored : ℕ → List ExportEntry → List (Option (List ℕ)) → List (Payload × Option (List ℕ))
anchored now [] names = []
anchored now (e ∷ es) [] = cond (counts_at now e) ((e.payload, None) ∷ anchored now es []) (anchored now es [])
anchored now (e ∷ es) (name ∷ names) = cond (counts_at now e) ((e.payload, name) ∷ anchored now es names) (anchored now es names)

-- the same of one entry
abbrev pub one_named : ℕ → ExportEntry → Option (List ℕ) → List (Payload × Option (List ℕ))
one_named now entry name = anchored now (entry ∷ []) (short name ∷ [])

-- ---- numbers

-- the different ones among some names, in the order in which each is first
abbrev pub different : List (List ℕ) → List (List ℕ)
different [] = []
different (n ∷ ns) = n ∷ filter (λ m. not (bytes_eq n m)) (different ns)

-- the first 32 different names
abbrev pub anchor_names : List (Payload × Option (List ℕ)) → List (List ℕ)
anchor_names ps = take 32 (different (filter_map (λ p. p.1) ps))

-- the place of a name among others, counted from a number on; 255 if it is not there
abbrev pub place_from : ℕ → List (List ℕ) → List ℕ → ℕ
place_from i [] name = 255
place_from i (n ∷ ns) name = cond (bytes_eq n name) i (place_from (suc i) ns name)

-- the number of a trust anchor; 255 without a name
abbrev pub number_in : List (List ℕ) → Option (List ℕ) → ℕ
number_in names None = 255
number_in names (Some name) = place_from 0 names name

-- ---- exports

-- The names are those of such entries. Each payload of a set has the number of the trust anchor of one of its entries.
pub record HasAnchors (ps : List (Payload × Option (List ℕ))) (s : VrpSet) (a : ExportAnchors) : Type 0 where
  pub names : map string_bytes a.names.items ≡ anchor_names ps
  pub one_each : length a.of_each.items ≡ size s
  pub each : (i : ℕ) (v : Payload) (k : ℕ) → slice_get (listing s) i ≡ Some v → slice_get a.of_each.items i ≡ Some k
      → (name : Option (List ℕ)) × Contains ps (v, name) × (k ≡ number_in (anchor_names ps) name)

-- These bytes are an export, and its trust anchors are those of its entries that count at the moment.
pub record IsExportAnchored (bytes : List ℕ) (now : ℕ) (x : ExportCounted) : Type 0 where
  pub value : Data
  pub reads : Reads bytes value
  pub entries : List ExportEntry
  pub lists : Lists value entries
  pub anchors : HasAnchors (anchored now entries (anchors_in value)) x.lasting.export.set x.anchors
