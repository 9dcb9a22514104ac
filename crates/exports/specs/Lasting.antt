-- How long the payloads of an export count.
use Rattle.std.specs.Prelude.{◌≡◌, ℕ, ◌-◌, ◌^◌, ◌<◌, ◌≤◌, nat_le, cond, List, [], ◌∷◌, length, slice_get, filter, map, Option, Some, None, unwrap_or}
use Rattle.prefixes.specs.Payload.{Payload}
use Rattle.vrps.specs.VrpSet.{VrpSet, listing, set_of, size}
use Rattle.exports.specs.Entry.{counts_at, current}
use Rattle.exports.specs.Export.{IsExport}
use Rattle.exports.specs.Until.{IsFirst, endings}
use Rattle.exports.specs.declared.entry.ExportEntry.{ExportEntry}
use Rattle.exports.specs.declared.export.ExportLasting.{ExportLasting}

-- The last second at which an entry counts, in 64 bits: the one before its expiry. An entry without one counts at each.
abbrev pub last_second : Option ℕ → ℕ
last_second None = 18446744073709551615
last_second (Some t) = t - 1

-- The last seconds of the entries that count at a moment
abbrev pub last_seconds : ℕ → List ExportEntry → List ℕ
last_seconds now es = map (λ e. last_second e.expires) (filter (counts_at now) es)

-- The payloads whose last second is not before a moment. One that has none counts.
abbrev pub counting : ℕ → List Payload → List ℕ → List Payload
counting t [] lasts = []
counting t (v ∷ vs) [] = v ∷ vs
counting t (v ∷ vs) (last ∷ lasts) = cond (nat_le t last) (v ∷ counting t vs lasts) (counting t vs lasts)

-- the last second at a place, if there is one
abbrev pub last_at : List ℕ → ℕ → ℕ
last_at lasts i = unwrap_or (slice_get lasts i) 18446744073709551615

-- Each member of a set has a last second, by which those count at any moment that count of a list by its last seconds.
pub record AreLasts (vs : List Payload) (of_each : List ℕ) (s : VrpSet) (lasts : List ℕ) : Type 0 where
  pub one_each : length lasts ≡ size s
  pub same : (t : ℕ) → t < 2 ^ 64 → set_of (counting t (listing s) lasts) ≡ set_of (counting t vs of_each)

-- These bytes are an export, the first of its entries that count ends then, and each payload of its set has a last second: by these those
-- payloads count at any later moment that the bytes' entries list then.
pub record IsExportLasting (bytes : List ℕ) (now : ℕ) (x : ExportLasting) : Type 0 where
  pub export : IsExport bytes now x.export
  pub until : IsFirst (endings now export.entries) x.until
  pub one_each : length x.lasts.items ≡ size x.export.set
  pub later : (t : ℕ) → now ≤ t → t < 2 ^ 64 → set_of (counting t (listing x.export.set) x.lasts.items) ≡ set_of (current t export.entries)
