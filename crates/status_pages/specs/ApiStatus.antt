-- The status of a cache as JSON, with the names of Routinator's API.
use Rattle.std.specs.Prelude.{◌≡◌, ℕ, ◌/◌, ◌%◌, max, Bool, true, false, not, ◌==◌, bytes_eq, if◌then◌else◌, List, [], ◌∷◌, ◌++◌, length, codes, Option, None, Some, string_bytes}
use Rattle.std.specs.Fmt.{decimal}
use Rattle.std.specs.List.{concat, flat_map, fold, list_any}
use Rattle.std.specs.Str.{chars}
use Rattle.event_log.specs.Clock.{IsTimeOf}
use Rattle.status_pages.specs.Escapes.{json_char}
use Rattle.status_pages.specs.Health.{Both}
use Rattle.status_pages.specs.declared.status.AnchorStatus.{AnchorStatus}
use Rattle.status_pages.specs.declared.status.FileStatus.{FileStatus}
use Rattle.status_pages.specs.declared.status.Status.{Status}

abbrev pub json_text : List ℕ → List ℕ
json_text text = flat_map json_char (chars text)

-- ---- trust anchors

abbrev pub is_named : List ℕ → AnchorStatus → Bool
is_named name a = bytes_eq (string_bytes a.name) name

-- A source has the trust anchor of this name, or any.
abbrev pub has_anchor : List ℕ → FileStatus → Bool
has_anchor name f = list_any (is_named name) f.anchors.items

abbrev pub has_anchors : FileStatus → Bool
has_anchors f = not (length f.anchors.items == 0)

-- the most VRPs that a source gives of the trust anchor of this name
abbrev pub most_in : List ℕ → ℕ → List AnchorStatus → ℕ
most_in name most anchors = fold (λ found a. if is_named name a then max found a.vrps else found) most anchors

abbrev pub most_of : List ℕ → List FileStatus → ℕ
most_of name files = fold (λ found f. most_in name found f.anchors.items) 0 files

-- its member of the object
unfoldable pub tal_member : List ℕ → ℕ → List ℕ
tal_member name vrps = codes "\"" ++ json_text name ++ concat (codes "\":{\"vrpsTotal\":" ∷ decimal vrps ∷ codes "}" ∷ [])

abbrev pub comma : Bool → List ℕ
comma true = []
comma false = codes ","

abbrev pub new_text : List FileStatus → Bool → List ℕ → List ℕ
new_text files is_first name = comma is_first ++ tal_member name (most_of name files)

-- A trust anchor of a source has a member, unless a source before has it too.
abbrev pub anchor_text : List FileStatus → List FileStatus → Bool → AnchorStatus → List ℕ
anchor_text files before is_first a =
    if list_any (has_anchor (string_bytes a.name)) before then [] else new_text files is_first (string_bytes a.name)

-- Only the first trust anchor of all has no comma before it.
abbrev pub anchors_text : List FileStatus → List FileStatus → Bool → List AnchorStatus → List ℕ
anchors_text files before is_first [] = []
anchors_text files before is_first (a ∷ anchors) = anchor_text files before is_first a ++ flat_map (anchor_text files before false) anchors

abbrev pub source_tals : List FileStatus → List FileStatus → FileStatus → List ℕ
source_tals files before f = anchors_text files before (not (list_any has_anchors before)) f.anchors.items

-- the members of the trust anchors of some sources, after those before
abbrev pub tals_after : List FileStatus → List FileStatus → List FileStatus → List ℕ
tals_after files before [] = []
tals_after files before (f ∷ rest) = source_tals files before f ++ tals_after files (before ++ f ∷ []) rest

unfoldable pub tals_member : List FileStatus → List ℕ
tals_member files = codes ",\"tals\":{" ++ tals_after files [] files ++ codes "}"

-- ---- the other members

-- the program, the serial, and the time
unfoldable pub beginning : List ℕ → ℕ → List ℕ → List ℕ
beginning version serial time =
    codes "{\"version\":\"rpkirtrd/" ++ json_text version ++ concat (codes "\",\"serial\":" ∷ decimal serial ∷ codes ",\"now\":\"" ∷ []) ++ time ++ codes "\""

abbrev pub IsBeginning : List ℕ → ℕ → ℕ → List ℕ → Type 0
IsBeginning version serial now text = (time : List ℕ) × IsTimeOf now time × (text ≡ beginning version serial time)

-- the newest load of a file
abbrev pub later : Option ℕ → Option ℕ → Option ℕ
later None b = b
later (Some a) None = Some a
later (Some a) (Some b) = Some (max a b)

abbrev pub newest : List FileStatus → Option ℕ
newest files = fold (λ found f. later found f.taken) None files

unfoldable pub done_member : List ℕ → List ℕ
done_member time = codes ",\"lastUpdateDone\":\"" ++ time ++ codes "\""

abbrev pub IsDone : Option ℕ → List ℕ → Type 0
IsDone None text = text ≡ []
IsDone (Some done) text = (time : List ℕ) × IsTimeOf done time × (text ≡ done_member time)

-- the duration of the last load: milliseconds as seconds with three decimal places
unfoldable pub duration_text : ℕ → List ℕ
duration_text ms =
    concat (codes ",\"lastUpdateDuration\":" ∷ decimal (ms / 1000) ∷ codes "." ∷ decimal (ms / 100 % 10) ∷ decimal (ms / 10 % 10) ∷ decimal (ms % 10) ∷ [])

abbrev pub duration_member : Option ℕ → List ℕ
duration_member None = []
duration_member (Some ms) = duration_text ms

-- the routers that are connected, and the bytes from and to all routers
unfoldable pub rtr_member : ℕ → ℕ → ℕ → List ℕ
rtr_member connections read written =
    concat (codes ",\"rtr\":{\"currentConnections\":" ∷ decimal connections ∷ codes ",\"bytesRead\":" ∷ decimal read ∷ codes ",\"bytesWritten\":" ∷ decimal written ∷ codes "}}" ∷ [])

abbrev pub api_ending : Status → List ℕ
api_ending s =
    duration_member s.reload_milliseconds ++ tals_member s.files.items ++ rtr_member (length s.clients.items) s.received.bytes s.sent.bytes

-- ---- the object

abbrev pub IsRest : Status → List ℕ → Type 0
IsRest s = Both (IsDone (newest s.files.items)) (λ t. t ≡ api_ending s)

abbrev pub IsApiText : Status → ℕ → List ℕ → Type 0
IsApiText s serial = Both (IsBeginning s.version.now serial s.now) (IsRest s)
