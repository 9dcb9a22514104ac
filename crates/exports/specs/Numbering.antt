-- Steps of numbering the trust anchors of entries.
use Rattle.std.specs.Prelude.{◌≡◌, ℕ, List, length, map, slice_get, Option, Some, unwrap_or, string_bytes}
use Rattle.prefixes.specs.Payload.{Payload}
use Rattle.vrps.specs.VrpSet.{VrpSet, listing, size}
use Rattle.exports.specs.Anchors.{anchor_names, anchored, number_in}
use Rattle.exports.specs.declared.entry.ExportEntry.{ExportEntry}
use Rattle.exports.specs.declared.gathered.EntryRecords.{EntryRecords}

-- the names of what was gathered
abbrev pub names_of : EntryRecords → List (List ℕ)
names_of g = map string_bytes g.names.names.items

-- The trust anchors of entries with these names were gathered.
pub record Anchors (now : ℕ) (es : List ExportEntry) (names : List (Option (List ℕ))) (g : EntryRecords) : Type 0 where
  pub named : names_of g ≡ anchor_names (anchored now es names)
  pub numbers : g.anchors.items ≡ map (λ p. number_in (anchor_names (anchored now es names)) p.1) (anchored now es names)

-- the number at a place, if there is one
abbrev pub number_at : List ℕ → ℕ → ℕ
number_at numbers i = unwrap_or (slice_get numbers i) 255

-- Each member of a set has the number of one of its records.
pub record AreNumbers (vs : List Payload) (numbers : List ℕ) (s : VrpSet) (of_each : List ℕ) : Type 0 where
  pub one_each : length of_each ≡ size s
  pub each : (i : ℕ) (v : Payload) (k : ℕ) → slice_get (listing s) i ≡ Some v → slice_get of_each i ≡ Some k
      → (j : ℕ) × (slice_get vs j ≡ Some v) × (k ≡ number_at numbers j)
