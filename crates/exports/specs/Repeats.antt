-- Names that are repeated in an export. A value of `serde_json` keeps the last of two members of one name, and the tree of the text has both.
use Rattle.std.specs.Prelude.{◌≡◌, ◌⊎◌, ℕ, List, Option, Some, option_and_then, codes}
use Rattle.json.specs.Json.{Json, array, object, Items, no_items, item, Members, no_members, member, if_last, value}
use Rattle.json.specs.Lex.{tokens}
use Rattle.serde_json.specs.Read.{max_depth}

-- The tree of a text that nests no deeper than `serde_json` reads. It has the members of an object in their order.
abbrev pub tree : List ℕ → Option Json
tree text = option_and_then (λ p. if_last p.0 p.1) (value max_depth (tokens text))

-- A name is among members ..
abbrev pub Stands : List ℕ → Members → Type 0
Stands name no_members = ⊥
Stands name (member k j ms) = (name ≡ k) ⊎ Stands name ms

-- .. and again after the first of that name.
abbrev pub StandsTwice : List ℕ → Members → Type 0
StandsTwice name no_members = ⊥
StandsTwice name (member k j ms) = ((name ≡ k) × Stands name ms) ⊎ StandsTwice name ms

-- A name that is read is repeated in the metadata,
abbrev pub MetadataRepeat : Json → Type 0
MetadataRepeat (object ms) = StandsTwice (codes "generated") ms ⊎ StandsTwice (codes "buildtime") ms
MetadataRepeat j = ⊥

-- in an entry,
abbrev pub EntryRepeats : Json → Type 0
EntryRepeats (object ms) = StandsTwice (codes "asn") ms ⊎ StandsTwice (codes "prefix") ms ⊎ StandsTwice (codes "maxLength") ms ⊎ StandsTwice (codes "expires") ms
EntryRepeats j = ⊥

-- in one of the entries of an array,
abbrev pub ItemsRepeat : Items → Type 0
ItemsRepeat no_items = ⊥
ItemsRepeat (item j js) = EntryRepeats j ⊎ ItemsRepeat js

abbrev pub RoasRepeat : Json → Type 0
RoasRepeat (array js) = ItemsRepeat js
RoasRepeat j = ⊥

-- in what one of the members of an export holds,
abbrev pub MembersRepeat : Members → Type 0
MembersRepeat no_members = ⊥
MembersRepeat (member k j ms) = ((k ≡ codes "roas") × RoasRepeat j) ⊎ ((k ≡ codes "metadata") × MetadataRepeat j) ⊎ MembersRepeat ms

-- or in the export itself, which is an object. The names of the arrays that are counted are read too.
abbrev pub RootRepeats : Members → Type 0
RootRepeats ms = StandsTwice (codes "roas") ms ⊎ StandsTwice (codes "metadata") ms ⊎ StandsTwice (codes "aspas") ms ⊎ StandsTwice (codes "bgpsec_keys") ms ⊎ StandsTwice (codes "routerKeys") ms

abbrev pub ExportRepeats : Json → Type 0
ExportRepeats (object ms) = RootRepeats ms ⊎ MembersRepeat ms
ExportRepeats j = ⊥

-- In the text of an object a name that is read is repeated in its object.
abbrev pub Repeats : List ℕ → Type 0
Repeats text = (j : Json) × (tree text ≡ Some j) × ExportRepeats j
