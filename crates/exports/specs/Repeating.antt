-- Names that are repeated, noted while members are read.
use Rattle.std.specs.Prelude.{◌≡◌, ℕ, Bool, true, false, cond, ◌||◌, List, bytes_eq, codes}
use Rattle.json.specs.Json.{Json, null, boolean, number, string, array, object, Items, no_items, item, Members, no_members, member}
use Rattle.exports.specs.declared.names.EntryNames.{EntryNames}
use Rattle.exports.specs.declared.names.ExportNames.{ExportNames}
use Rattle.exports.specs.declared.names.Met.{Met}
use Rattle.exports.specs.declared.names.Met.TheVariants.{Never, Once, Twice}
use Rattle.exports.specs.declared.names.Names.{Names}

-- ---- what `Repeats` says, computed

abbrev pub stands : List ℕ → Members → Bool
stands name no_members = false
stands name (member k j ms) = bytes_eq name k || stands name ms

abbrev pub twice : List ℕ → Members → Bool
twice name no_members = false
twice name (member k j ms) = cond (bytes_eq name k) (stands name ms) (twice name ms)

-- one of two names
abbrev pub two_twice : List ℕ → List ℕ → Members → Bool
two_twice one other ms = twice one ms || twice other ms

abbrev pub metadata_repeat : Json → Bool
metadata_repeat null = false
metadata_repeat (boolean b) = false
metadata_repeat (number s) = false
metadata_repeat (string s) = false
metadata_repeat (array js) = false
metadata_repeat (object ms) = two_twice (codes "generated") (codes "buildtime") ms

abbrev pub entry_twice : Members → Bool
entry_twice ms = two_twice (codes "asn") (codes "prefix") ms || two_twice (codes "maxLength") (codes "expires") ms

abbrev pub entry_repeats : Json → Bool
entry_repeats null = false
entry_repeats (boolean b) = false
entry_repeats (number s) = false
entry_repeats (string s) = false
entry_repeats (array js) = false
entry_repeats (object ms) = entry_twice ms

abbrev pub items_repeat : Items → Bool
items_repeat no_items = false
items_repeat (item j js) = entry_repeats j || items_repeat js

abbrev pub roas_repeat : Json → Bool
roas_repeat null = false
roas_repeat (boolean b) = false
roas_repeat (number s) = false
roas_repeat (string s) = false
roas_repeat (array js) = items_repeat js
roas_repeat (object ms) = false

abbrev pub member_repeats : List ℕ → Json → Bool
member_repeats k j = cond (bytes_eq k (codes "roas")) (roas_repeat j) (cond (bytes_eq k (codes "metadata")) (metadata_repeat j) false)

abbrev pub members_repeat : Members → Bool
members_repeat no_members = false
members_repeat (member k j ms) = member_repeats k j || members_repeat ms

abbrev pub root_twice : Members → Bool
root_twice ms = two_twice (codes "roas") (codes "metadata") ms || (twice (codes "aspas") ms || two_twice (codes "bgpsec_keys") (codes "routerKeys") ms)

abbrev pub export_twice : Members → Bool
export_twice ms = root_twice ms || members_repeat ms

abbrev pub export_repeats : Json → Bool
export_repeats null = false
export_repeats (boolean b) = false
export_repeats (number s) = false
export_repeats (string s) = false
export_repeats (array js) = false
export_repeats (object ms) = export_twice ms

-- ---- what was met of a name in the members so far

-- whether it is repeated, if these are to come
abbrev pub yet : Met → List ℕ → Members → Bool
yet Never name rest = twice name rest
yet Once name rest = stands name rest
yet Twice name rest = true

-- The members so far are a function of those to come: both together.
abbrev pub IsMet : List ℕ → (Members → Members) → Met → Type 0
IsMet name so_far met = (rest : Members) → twice name (so_far rest) ≡ yet met name rest

abbrev pub AreMet : List ℕ → List ℕ → (Members → Members) → Names → Type 0
AreMet one other so_far names = IsMet one so_far names.one × IsMet other so_far names.other

abbrev pub EntryMet : (Members → Members) → EntryNames → Type 0
EntryMet so_far names = AreMet (codes "asn") (codes "prefix") so_far names.origin × AreMet (codes "maxLength") (codes "expires") so_far names.rest

abbrev pub ExportMet : (Members → Members) → ExportNames → Type 0
ExportMet so_far names =
    AreMet (codes "roas") (codes "metadata") so_far names.parts × IsMet (codes "aspas") so_far names.aspas × AreMet (codes "bgpsec_keys") (codes "routerKeys") so_far names.keys
