-- The health of a cache as a text: `ok`, or a line for each reason.
use Rattle.std.specs.Prelude.{◌≡◌, ℕ, Bool, true, false, if◌then◌else◌, List, [], ◌∷◌, ◌++◌, codes, Option, None, Some, option_map, string_bytes}
use Rattle.std.specs.Fmt.{decimal}
use Rattle.std.specs.Io.KnownBytes.{Appends}
use Rattle.std.specs.List.{concat, flat_map}
use Rattle.std.specs.Str.{chars}
use Rattle.event_log.specs.Clock.{IsTimeOf}
use Rattle.status_pages.specs.Escapes.{label_char}
use Rattle.status_pages.specs.Reasons.{has_all_expired, has_shrunk, holds_for_all, is_healthy, is_recent, is_shrunk, served_vrps}
use Rattle.status_pages.specs.declared.reasons.Reason.TheVariants as reason
use Rattle.status_pages.specs.declared.status.AnchorStatus.{AnchorStatus}
use Rattle.status_pages.specs.declared.status.ClientLimit.{ClientLimit}
use Rattle.status_pages.specs.declared.status.ClientLimit.TheVariants as limit
use Rattle.status_pages.specs.declared.status.FileStatus.{FileStatus}
use Rattle.status_pages.specs.declared.status.PublicationFailure.{PublicationFailure}
use Rattle.status_pages.specs.declared.status.Status.{Status}
use Rattle.status_pages.specs.declared.status.TurnedAway.{TurnedAway}
use Rattle.status_pages.specs.declared.status.VrpPeak.{VrpPeak}

-- a path or a reason, escaped
abbrev pub label_text : List ℕ → List ℕ
label_text text = flat_map label_char (chars text)

-- one text after another
abbrev pub Both : (List ℕ → Type 0) → (List ℕ → Type 0) → List ℕ → Type 0
Both P Q text = (one : List ℕ) × (rest : List ℕ) × P one × Q rest × (text ≡ one ++ rest)

-- a text of each element, one after the other
abbrev pub InTurn : {A : Type 0} → (A → List ℕ → Type 0) → List A → List ℕ → Type 0
InTurn P [] text = text ≡ []
InTurn P (a ∷ rest) text = Both (P a) (InTurn P rest) text

-- ---- the table and its publication

abbrev pub none_text : Bool → List ℕ
none_text false = []
none_text true = codes "no VRPs are served\n"

-- since when no version can be published, and why
unfoldable pub failure_line : List ℕ → List ℕ → List ℕ
failure_line time reason = codes "publication fails since " ++ time ++ codes ": " ++ label_text reason ++ codes "\n"

abbrev pub IsFailureText : Option PublicationFailure → List ℕ → Type 0
IsFailureText None text = text ≡ []
IsFailureText (Some f) text = (time : List ℕ) × IsTimeOf f.since time × (text ≡ failure_line time (string_bytes f.reason))

abbrev pub version_text : Option ℕ → List ℕ
version_text None = codes "no version is published yet\n"
version_text (Some serial) = []

-- ---- sources

-- that the data of a source are too old, or that all its entries have expired
unfoldable pub old_line : List ℕ → List ℕ
old_line path = label_text path ++ codes ": its data are older than the maximum age\n"

unfoldable pub expired_line : List ℕ → List ℕ
expired_line path = label_text path ++ codes ": all its entries have expired\n"

abbrev pub age_text : FileStatus → List ℕ
age_text f =
    if f.is_old then old_line (string_bytes f.path)
    else if has_all_expired f then expired_line (string_bytes f.path)
    else []

-- what is served of a source that is refused
abbrev pub still_served : Option ℕ → List ℕ
still_served None = codes "none of its data were loaded yet\n"
still_served (Some loaded) = codes "its previous data are served\n"

-- that a source has been refused since this time, and why
unfoldable pub refused_line : List ℕ → List ℕ → List ℕ → Option ℕ → List ℕ
refused_line path time reason loaded =
    label_text path ++ codes ": refused since " ++ time ++ codes ": " ++ label_text reason ++ codes "; " ++ still_served loaded

-- A source that is refused has such a line.
abbrev pub IsRefusalOf : List ℕ → Option ℕ → Option ℕ → Option (List ℕ) → List ℕ → Type 0
IsRefusalOf path loaded (Some since) (Some reason) text = (time : List ℕ) × IsTimeOf since time × (text ≡ refused_line path time reason loaded)
IsRefusalOf path loaded (Some since) None text = text ≡ []
IsRefusalOf path loaded None refusal text = text ≡ []

abbrev pub IsRefusalText : FileStatus → List ℕ → Type 0
IsRefusalText f = IsRefusalOf (string_bytes f.path) f.taken f.refused_at (option_map string_bytes f.refusal)

-- that a trust anchor of a source shrank, and since when
unfoldable pub anchor_line : List ℕ → List ℕ → ℕ → ℕ → List ℕ → List ℕ
anchor_line path name from to time =
    label_text path ++ codes ": " ++ label_text name ++ concat (codes " shrank: " ∷ decimal from ∷ codes " to " ∷ decimal to ∷ codes " VRPs at " ∷ []) ++ time
    ++ codes "\n"

abbrev pub TellsAnchor : List ℕ → List ℕ → Bool → ℕ → Option VrpPeak → List ℕ → Type 0
TellsAnchor path name false vrps peak text = text ≡ []
TellsAnchor path name true vrps None text = text ≡ []
TellsAnchor path name true vrps (Some peak) text = (time : List ℕ) × IsTimeOf peak.until time × (text ≡ anchor_line path name peak.vrps vrps time)

abbrev pub IsAnchorText : List ℕ → AnchorStatus → List ℕ → Type 0
IsAnchorText path a = TellsAnchor path (string_bytes a.name) (has_shrunk a) a.vrps a.peak

abbrev pub AreAnchorTexts : List ℕ → List AnchorStatus → List ℕ → Type 0
AreAnchorTexts path anchors = InTurn (IsAnchorText path) anchors

-- what is written of a source
pub record IsSourceText (f : FileStatus) (text : List ℕ) : Type 0 where
  pub refusal : List ℕ
  pub is_refusal : IsRefusalText f refusal
  pub anchors : List ℕ
  pub are_anchors : AreAnchorTexts (string_bytes f.path) f.anchors.items anchors
  pub is_text : text ≡ age_text f ++ refusal ++ anchors

-- of one source after the other
abbrev pub AreSourceTexts : List FileStatus → List ℕ → Type 0
AreSourceTexts files = InTurn IsSourceText files

-- ---- the size of the table, and routers

-- that the table shrank, and since when
unfoldable pub shrunk_line : ℕ → ℕ → List ℕ → List ℕ
shrunk_line from to time = concat (codes "the table shrank: " ∷ decimal from ∷ codes " to " ∷ decimal to ∷ codes " VRPs at " ∷ []) ++ time ++ codes "\n"

abbrev pub TellsPeak : Bool → ℕ → Option VrpPeak → List ℕ → Type 0
TellsPeak false vrps peak text = text ≡ []
TellsPeak true vrps None text = text ≡ []
TellsPeak true vrps (Some peak) text = (time : List ℕ) × IsTimeOf peak.until time × (text ≡ shrunk_line peak.vrps vrps time)

abbrev pub IsPeakText : Status → List ℕ → Type 0
IsPeakText s = TellsPeak (is_shrunk (served_vrps s) s.peak) (served_vrps s) s.peak

-- the option that is the limit
abbrev pub limit_text : ClientLimit → List ℕ
limit_text limit.All = codes "--clients"
limit_text limit.OfAddress = codes "--clients-per-address"

unfoldable pub away_line : ℕ → ClientLimit → List ℕ → List ℕ
away_line routers limit time =
    codes "routers were turned away by " ++ limit_text limit ++ concat (codes ": " ∷ decimal routers ∷ codes ", the last at " ∷ []) ++ time ++ codes "\n"

abbrev pub TellsAway : Bool → Option TurnedAway → List ℕ → Type 0
TellsAway false away text = text ≡ []
TellsAway true None text = text ≡ []
TellsAway true (Some away) text = (time : List ℕ) × IsTimeOf away.last time × (text ≡ away_line away.routers away.limit time)

abbrev pub IsAwayText : Status → List ℕ → Type 0
IsAwayText s = TellsAway (is_recent s.now s.turned_away) s.turned_away

-- ---- all

abbrev pub IsTableText : Status → List ℕ → Type 0
IsTableText s = Both (λ t. t ≡ none_text (holds_for_all s reason.NoVrps)) (IsFailureText s.publication_failure)

abbrev pub IsRestText : Status → List ℕ → Type 0
IsRestText s = Both (λ t. t ≡ version_text s.serial) (Both (IsPeakText s) (IsAwayText s))

-- `ok` of a healthy cache, and otherwise a line for each reason, but for a clock that was set back
abbrev pub IsTextOf : Bool → Status → List ℕ → Type 0
IsTextOf true s text = text ≡ codes "ok\n"
IsTextOf false s text = Both (IsTableText s) (Both (AreSourceTexts s.files.items) (IsRestText s)) text

abbrev pub IsHealthText : Status → List ℕ → Type 0
IsHealthText s = IsTextOf (is_healthy s) s

-- A text that is so was appended.
abbrev pub AppendsSome : Option (List ℕ) → Option (List ℕ) → (List ℕ → Type 0) → Type 0
AppendsSome old new is = (text : List ℕ) × is text × Appends old new text
