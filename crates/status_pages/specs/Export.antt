-- The start of an export: its metadata, and the key of its records.
use Rattle.std.specs.Prelude.{ℕ, List, [], ◌∷◌, ◌++◌, Option, codes}
use Rattle.std.specs.Fmt.{decimal}
use Rattle.std.specs.Io.KnownBytes.{Appends}
use Rattle.std.specs.List.{concat}
use Rattle.event_log.specs.Clock.{IsTimeOf}

-- As rpki-client and StayRTR: when the records were made, as a text and in seconds since 1970, and their number.
unfoldable pub export_head : List ℕ → ℕ → ℕ → List ℕ
export_head time made vrps =
    concat (codes "{\"metadata\":{\"buildtime\":\"" ∷ time ∷ codes "\",\"generated\":" ∷ decimal made ∷ codes ",\"vrps\":" ∷ decimal vrps ∷ codes "},\"roas\":" ∷ [])

abbrev pub BeginsExport : Option (List ℕ) → Option (List ℕ) → ℕ → ℕ → Type 0
BeginsExport old new made vrps = (time : List ℕ) × IsTimeOf made time × Appends old new (export_head time made vrps)

-- As Routinator: when the records were made, in seconds since 1970 and as a text.
unfoldable pub routinator_head : List ℕ → ℕ → List ℕ
routinator_head time made =
    concat (codes "{\"metadata\":{\"generated\":" ∷ decimal made ∷ codes ",\"generatedTime\":\"" ∷ []) ++ time ++ codes "\"},\"roas\":"

abbrev pub BeginsRoutinator : Option (List ℕ) → Option (List ℕ) → ℕ → Type 0
BeginsRoutinator old new made = (time : List ℕ) × IsTimeOf made time × Appends old new (routinator_head time made)
