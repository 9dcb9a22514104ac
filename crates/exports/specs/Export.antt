-- Exports: what validators write. One is a payload list, or an object whose member roas is an array of entries.
use Rattle.std.specs.Prelude.{◌≡◌, ◌⊎◌, ℕ, ◌<◌, ◌≤◌, List, map, Option, Some, None, option_and_then, codes, ⊤}
use Rattle.std.specs.Str.{IsUtf8}
use Rattle.serde_json.specs.Data.{Data, Items}
use Rattle.serde_json.specs.Find.{get, as_array}
use Rattle.serde_json.specs.Read as json
use Rattle.prefixes.specs.Payload.{Payload}
use Rattle.vrps.specs.VrpSet.{set_of, size}
use Rattle.payload_lists.specs.PayloadList as lists
use Rattle.exports.specs.Built.{IsBuilt, buildtime, generated}
use Rattle.exports.specs.Entry.{AreEntries, FailsAt, current, expired}
use Rattle.exports.specs.Repeats.{Repeats}
use Rattle.exports.specs.declared.entry.ExportEntry.{ExportEntry}
use Rattle.exports.specs.declared.export.Export.{Export}
use Rattle.exports.specs.declared.fault.ExportFault.{ExportFault}
use Rattle.exports.specs.declared.fault.ExportFault.TheVariants.{NotJson, NoRoas, Entry, TooMany, Memory, Repeated}

-- ---- the two forms

-- An entry of a payload list has no expiry.
abbrev pub lasting : Payload → ExportEntry
lasting v = record { payload = v; expires = None }

pub record IsList (d : Data) (es : List ExportEntry) : Type 0 where
  pub items : Items
  pub is_array : as_array d ≡ Some items
  pub payloads : List Payload
  pub listed : lists.AreEntries items payloads
  pub entries_are : es ≡ map lasting payloads

-- the array roas, if there is one
abbrev pub roas : Data → Option Items
roas d = option_and_then as_array (get (codes "roas") d)

pub record HasRoas (d : Data) (es : List ExportEntry) : Type 0 where
  pub items : Items
  pub roas_are : roas d ≡ Some items
  pub entries : AreEntries items es

abbrev pub Lists : Data → List ExportEntry → Type 0
Lists d es = IsList d es ⊎ HasRoas d es

-- ---- an export

-- These bytes are JSON of this value, as `serde_json` reads it.
abbrev pub Reads : List ℕ → Data → Type 0
Reads bytes d = IsUtf8 bytes × (json.read bytes ≡ Some d)

-- These bytes are an export at a moment: the set of the entries that count, how many do not, and when it was made. Each name that is read is in
-- its object once.
pub record IsExport (bytes : List ℕ) (now : ℕ) (x : Export) : Type 0 where
  pub value : Data
  pub reads : Reads bytes value
  pub names_once : ¬ (Repeats bytes)
  pub entries : List ExportEntry
  pub lists : Lists value entries
  pub set_is : x.set ≡ set_of (current now entries)
  pub within_limit : size x.set ≤ 16777215
  pub expired_is : x.expired ≡ expired now entries
  pub built_is : IsBuilt (generated value) (buildtime value) x.built

-- These bytes are JSON of this value. In an export of the object form each name that is read is in its object once.
abbrev pub ReadsOnce : List ℕ → Data → Type 0
ReadsOnce bytes d = Reads bytes d × ¬ (Repeats bytes)

-- What is wrong first: they are no JSON; a name that is read is repeated in its object; they are of neither form; an entry cannot be
-- read; too many different payloads count.
abbrev pub HasFault : List ℕ → ℕ → ExportFault → Type 0
HasFault bytes now NotJson = (d : Data) → ¬ (Reads bytes d)
HasFault bytes now Repeated = (d : Data) × Reads bytes d × Repeats bytes
HasFault bytes now NoRoas = (d : Data) × ReadsOnce bytes d × (roas d ≡ None) × ((es : List ExportEntry) → ¬ (IsList d es))
HasFault bytes now (Entry i w) = (d : Data) × ReadsOnce bytes d × ((ds : Items) × (roas d ≡ Some ds) × FailsAt ds i w)
HasFault bytes now TooMany = (d : Data) × ReadsOnce bytes d × ((es : List ExportEntry) × Lists d es × (16777215 < size (set_of (current now es))))
HasFault bytes now Memory = ⊤
