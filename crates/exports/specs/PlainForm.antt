-- Steps of reading an export token by token. A text nests 127 deep at most, so the members of an export 126, entries 125, and their
-- members 124.
use Rattle.std.specs.Prelude.{◌≡◌, ◌||◌, Bool, false, MatchBool, ℕ, zero, suc, ◌<◌, List, [], ◌∷◌, length, map, Option, Some, None, Result, Ok, Err, is_some, option_map, codes, ⊤}
use Rattle.json.specs.Token.{Token}
use Rattle.json.specs.Json as json
use Rattle.json.specs.Json.{Json, items, members, value}
use Rattle.serde_json.specs.Data.{Data, array, object, Items, no_items, item, Members, no_members, put}
use Rattle.serde_json.specs.Find.{as_array, as_object, as_str}
use Rattle.serde_json.specs.Read.{of_items, of_json, of_members, converted, read}
use Rattle.payload_lists.specs.PayloadList.{text_at, whole_at}
use Rattle.exports.specs.Anchors.{anchor_of, anchors_in, anchors_of}
use Rattle.exports.specs.Built.{IsBuilt, buildtime, generated}
use Rattle.exports.specs.Entry.{AreEntries, FailsAt, IsEntry, IsNoEntry, said, whole}
use Rattle.exports.specs.Export.{IsList, Lists, roas}
use Rattle.exports.specs.Gathering.{Gathers, said_by}
use Rattle.exports.specs.Ignored.{element_count, elements_at}
use Rattle.exports.specs.Numbering.{Anchors}
use Rattle.exports.specs.Repeating.{entry_repeats, export_repeats, items_repeat, member_repeats, metadata_repeat, roas_repeat}
use Rattle.exports.specs.Repeats.{Repeats}
use Rattle.exports.specs.declared.entry.RawEntry.{RawEntry}
use Rattle.exports.specs.declared.entry.ExportEntry.{ExportEntry}
use Rattle.exports.specs.declared.fault.EntryFault.{EntryFault}
use Rattle.exports.specs.declared.fault.ExportFault.{ExportFault}
use Rattle.exports.specs.declared.ignored.Elements.{Elements}
use Rattle.exports.specs.declared.fault.ExportFault.TheVariants.{NotJson, NoRoas, Entry, TooMany, Memory, Repeated}
use Rattle.exports.specs.declared.streaming.Entries.{Entries}
use Rattle.exports.specs.declared.streaming.Entries.TheVariants.{Whole, Broken}
use Rattle.exports.specs.declared.streaming.Metadata.{Metadata}
use Rattle.exports.specs.declared.streaming.ReadEntry.{ReadEntry}
use Rattle.exports.specs.declared.streaming.ExportMembers.{ExportMembers}
use Rattle.exports.specs.declared.streaming.Scalar.{Scalar}

-- A value was read, of whose tree and value this holds. It nests no deeper than k.
abbrev pub ReadsSome : ℕ → (Json → Data → Type 0) → List Token → List Token → Type 0
ReadsSome k Is old new = (length new < length old) × ((j : Json) × (d : Data) × Is j d × (value k old ≡ Some (j, new)) × (of_json j ≡ Some d))

-- No value that nests no deeper is read.
abbrev pub ReadsNone : ℕ → List Token → Type 0
ReadsNone k old = converted of_json (value k old) ≡ None

-- The members of such an object were read to its end,
abbrev pub ReadsMembers : ℕ → (json.Members → Members → Type 0) → List Token → List Token → Type 0
ReadsMembers k Are old new =
    (length new < length old) × ((js : json.Members) × (ms : Members) × Are js ms × (members (value k) (length old) old ≡ Some (js, new)) × (of_members js no_members ≡ Some ms))

-- or are not to be read.
abbrev pub ReadsNoMembers : ℕ → List Token → Type 0
ReadsNoMembers k old = converted (λ x. of_members x no_members) (members (value k) (length old) old) ≡ None

abbrev pub before : List Data → Items → Items
before [] rest = rest
before (d ∷ ds) rest = item d (before ds rest)

-- The items of such an array were read to its end,
abbrev pub ReadsItems : ℕ → (json.Items → List Data → Type 0) → List Token → List Token → Type 0
ReadsItems k Are old new =
    (length new < length old) × ((js : json.Items) × (ds : List Data) × Are js ds × (items (value k) (length old) old ≡ Some (js, new)) × (of_items js ≡ Some (before ds no_items)))

-- or are not to be read.
abbrev pub ReadsNoItems : ℕ → List Token → Type 0
ReadsNoItems k old = converted of_items (items (value k) (length old) old) ≡ None

abbrev pub PassesItems : ℕ → List Token → List Token → Type 0
PassesItems k = ReadsItems k (λ js ds. ⊤)

abbrev pub PassesMembers : ℕ → List Token → List Token → Type 0
PassesMembers k = ReadsMembers k (λ js ms. ⊤)

-- The scalar is this value.
abbrev pub IsScalar : Data → Scalar → Type 0
IsScalar d s =
    (whole d ≡ s.number) × (as_str d ≡ option_map (λ t. t.now) s.text) × (is_some (as_array d) ≡ s.array) × (is_some (as_object d) ≡ s.object)

-- what was found in an entry of these members
abbrev pub IsRawEntry : Members → RawEntry → Type 0
IsRawEntry ms f = (said (object ms) ≡ said_by f) × (text_at (codes "ta") (object ms) ≡ option_map (λ s. s.now) f.ta)

-- what metadata of these members say
abbrev pub IsMetadata : Members → Metadata → Type 0
IsMetadata ms m = (whole_at (codes "generated") (object ms) ≡ m.generated) × (text_at (codes "buildtime") (object ms) ≡ option_map (λ t. t.now) m.buildtime)

-- Metadata say when an export was made.
abbrev pub TellsBuilt : Data → Option ℕ → Type 0
TellsBuilt d built = IsBuilt (whole_at (codes "generated") d) (text_at (codes "buildtime") d) built

-- The data are these entries.
abbrev pub AreListed : List Data → List ExportEntry → Type 0
AreListed [] [] = ⊤
AreListed (d ∷ ds) (e ∷ es) = IsEntry d e × AreListed ds es
AreListed [] (e ∷ es) = ⊥
AreListed (d ∷ ds) [] = ⊥

-- This is what a value lists as an entry, or what of it cannot be read.
abbrev pub IsJudged : Data → Result ExportEntry EntryFault → Type 0
IsJudged d (Ok e) = IsEntry d e
IsJudged d (Err w) = IsNoEntry d w

-- This was read of a value as an entry.
abbrev pub IsReadEntry : Data → ReadEntry → Type 0
IsReadEntry d r = IsJudged d r.listed × (text_at (codes "ta") d ≡ option_map (λ s. s.now) r.ta)

-- The first of the data that is no entry has this index, and this is wrong with it.
abbrev pub FailsIn : List Data → ℕ → EntryFault → Type 0
FailsIn [] i w = ⊥
FailsIn (d ∷ ds) zero w = IsNoEntry d w
FailsIn (d ∷ ds) (suc i) w = ((e : ExportEntry) × IsEntry d e) × FailsIn ds i w

-- This was read of these data as entries ..
abbrev pub TellsListed : ℕ → List Data → Entries → Type 0
TellsListed now ds (Whole g) = (es : List ExportEntry) × AreListed ds es × Gathers now es g × Anchors now es (map anchor_of ds) g
TellsListed now ds (Broken i w) = FailsIn ds i w

-- .. and of the items of an array.
abbrev pub TellsItems : ℕ → Items → Entries → Type 0
TellsItems now ds (Whole g) = (es : List ExportEntry) × AreEntries ds es × Gathers now es g × Anchors now es (anchors_of ds) g
TellsItems now ds (Broken i w) = FailsAt ds i w

-- An entry was read, and whether a name is repeated in it.
abbrev pub ReadsEntry : List Token → List Token → ReadEntry → Type 0
ReadsEntry old new r = ReadsSome 125 (λ j d. IsReadEntry d r × (r.repeat ≡ entry_repeats j)) old new

-- These entries were read to the end of their array, and whether a name is repeated in one of them.
abbrev pub ReadsEntries : ℕ → List Token → List Token → Entries × Bool → Type 0
ReadsEntries now old new r = ReadsItems 125 (λ js ds. TellsListed now ds r.0 × (r.1 ≡ items_repeat js)) old new

-- The value roas has these entries.
abbrev pub TellsRoas : ℕ → Data → Option Entries → Type 0
TellsRoas now d None = as_array d ≡ None
TellsRoas now d (Some entries) = (ds : Items) × (as_array d ≡ Some ds) × TellsItems now ds entries

-- The value roas was read, and whether a name is repeated in an entry.
abbrev pub ReadsRoas : ℕ → List Token → List Token → Option Entries × Bool → Type 0
ReadsRoas now old new r = ReadsSome 126 (λ j d. TellsRoas now d r.0 × (r.1 ≡ roas_repeat j)) old new

-- The metadata were read: when the export was made, and whether a name is repeated in them.
abbrev pub ReadsBuilt : List Token → List Token → Option ℕ × Bool → Type 0
ReadsBuilt old new r = ReadsSome 126 (λ j d. TellsBuilt d r.0 × (r.1 ≡ metadata_repeat j)) old new

-- The member roas has these entries, if it is an array.
abbrev pub HasEntries : ℕ → Data → Option Entries → Type 0
HasEntries now d None = roas d ≡ None
HasEntries now d (Some entries) = (ds : Items) × (roas d ≡ Some ds) × TellsItems now ds entries

-- A value was read, and it has this many elements.
abbrev pub ReadsCounted : List Token → List Token → ℕ → Type 0
ReadsCounted old new n = ReadsSome 126 (λ j d. n ≡ element_count d) old new

-- The arrays of a value that are counted have this many elements.
abbrev pub HasElements : Data → Elements → Type 0
HasElements d e = (e.aspas ≡ elements_at (codes "aspas") d) × (e.bgpsec_keys ≡ elements_at (codes "bgpsec_keys") d) × (e.router_keys ≡ elements_at (codes "routerKeys") d)

-- What was read of an export of these members
pub record HasParts (now : ℕ) (ms : Members) (p : ExportMembers) : Type 0 where
  pub entries : HasEntries now (object ms) p.entries
  pub built : IsBuilt (generated (object ms)) (buildtime (object ms)) p.built
  pub elements : HasElements (object ms) p.elements

-- The value of a member of this name was read.
abbrev pub ReadsPart : ℕ → List ℕ → ExportMembers → ExportMembers → List Token → List Token → Type 0
ReadsPart now name before after old new =
    ReadsSome 126 (λ j d. ((ms : Members) → HasParts now ms before → HasParts now (put name d ms) after) × (after.repeats ≡ (before.repeats || member_repeats name j))) old new

-- The entries of a value in either form
abbrev pub TellsEntries : ℕ → Data → Option Entries → Type 0
TellsEntries now d None = (roas d ≡ None) × ((es : List ExportEntry) → ¬ (IsList d es))
TellsEntries now d (Some (Whole g)) = (es : List ExportEntry) × Lists d es × Gathers now es g × Anchors now es (anchors_in d) g
TellsEntries now d (Some (Broken i w)) = (ds : Items) × (roas d ≡ Some ds) × FailsAt ds i w

-- What was read of a value in either form
pub record TellsParts (now : ℕ) (d : Data) (p : ExportMembers) : Type 0 where
  pub entries : TellsEntries now d p.entries
  pub built : IsBuilt (generated d) (buildtime d) p.built
  pub elements : HasElements d p.elements

-- What was read of a text in either form
pub record ReadsParts (now : ℕ) (text : List ℕ) (p : ExportMembers) : Type 0 where
  pub value : Data
  pub reads : read text ≡ Some value
  pub parts : TellsParts now value p
  pub repeats : MatchBool p.repeats (Repeats text) (¬ (Repeats text))

-- A value of either form was read, and whether a name that is read is repeated in its object.
abbrev pub ReadsForm : ℕ → List Token → List Token → ExportMembers → Type 0
ReadsForm now old new p = ReadsSome 127 (λ j d. TellsParts now d p × (p.repeats ≡ export_repeats j)) old new

-- The items of an array were read.
abbrev pub ReadsListParts : ℕ → List Token → List Token → ExportMembers → Type 0
ReadsListParts now old new p = ReadsItems 126 (λ js ds. TellsParts now (array (before ds no_items)) p × (p.repeats ≡ false)) old new

-- Why a text gives no parts
abbrev pub TextFails : List ℕ → ExportFault → Type 0
TextFails text NotJson = read text ≡ None
TextFails text Memory = ⊤
TextFails text NoRoas = ⊥
TextFails text (Entry i w) = ⊥
TextFails text TooMany = ⊥
TextFails text Repeated = ⊥
