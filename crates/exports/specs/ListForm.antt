-- Steps of reading a payload list token by token. A text nests 127 deep at most, so the items of a list 126 and the members of an entry 125.
use Rattle.std.specs.Prelude.{◌≡◌, ℕ, ◌+◌, ◌<◌, List, Option, Some, None, MatchBool, Vec, option_map, codes}
use Rattle.std.specs.declared.alloc.Global.{Global}
use Rattle.json.specs.Token.{Token}
use Rattle.serde_json.specs.Data.{Data, object, Items, no_items, Members, no_members, member}
use Rattle.serde_json.specs.Find.{get_member}
use Rattle.prefixes.specs.Payload.{Payload}
use Rattle.payload_lists.specs.PayloadList.{AreEntries, IsEntry, member_count, text_at, whole_at}
use Rattle.payload_lists.specs.PlainForm.{one_if}
use Rattle.exports.specs.PlainForm.{ReadsItems, ReadsSome, before}
use Rattle.exports.specs.declared.lists.ListEntry.{ListEntry}

abbrev pub member_if : List ℕ → Option Data → Members → Members
member_if name None ms = ms
member_if name (Some d) ms = member name d ms

-- the members of an entry that has no others, in the order of their names
abbrev pub three : Option Data → Option Data → Option Data → Members
three asn max_len prefix = member_if (codes "asn") asn (member_if (codes "maxLength") max_len (member_if (codes "prefix") prefix no_members))

-- how many of the three members there are
abbrev pub of_three : Members → ℕ
of_three ms = one_if (get_member (codes "asn") ms) + one_if (get_member (codes "maxLength") ms) + one_if (get_member (codes "prefix") ms)

-- There are members of these three names alone.
abbrev pub OnlyThree : Members → Type 0
OnlyThree ms = (asn max_len prefix : Option Data) × (ms ≡ three asn max_len prefix)

-- what was found in the members of an entry
pub record HoldsEntry (ms : Members) (f : ListEntry) : Type 0 where
  pub asn : whole_at (codes "asn") (object ms) ≡ f.asn
  pub max_len : whole_at (codes "maxLength") (object ms) ≡ f.max_len
  pub prefix : text_at (codes "prefix") (object ms) ≡ option_map (λ s. s.now) f.prefix
  pub others : MatchBool f.has_others (of_three ms < member_count ms) (OnlyThree ms)

-- The value is the entry of this payload, or of none.
abbrev pub IsListed : Data → Option Payload → Type 0
IsListed d (Some v) = IsEntry d v
IsListed d None = (v : Payload) → ¬ (IsEntry d v)

abbrev pub ReadsListed : List Token → List Token → Option Payload → Type 0
ReadsListed old new found = ReadsSome 126 (λ j d. IsListed d found) old new

-- The items are the entries of these payloads, or not all of them are entries.
abbrev pub Records : Items → Option (Vec Payload Global) → Type 0
Records ds (Some vs) = AreEntries ds vs.items
Records ds None = (vs : List Payload) → ¬ (AreEntries ds vs)

abbrev pub ReadsRecords : List Token → List Token → Option (Vec Payload Global) → Type 0
ReadsRecords old new found = ReadsItems 126 (λ js ds. Records (before ds no_items) found) old new
