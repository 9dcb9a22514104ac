-- Payload lists: JSON arrays of objects with exactly the keys asn, maxLength and prefix.
use Rattle.std.specs.Prelude.{◌≡◌, ℕ, ◌≤◌, suc, List, [], ◌∷◌, ◌++◌, map, Option, Some, option_and_then, codes, ⊤}
use Rattle.std.specs.Fmt.{decimal}
use Rattle.std.specs.List.{concat, join_with_byte}
use Rattle.std.specs.Str.{IsUtf8}
use Rattle.serde_json.specs.Data.{Data, Items, no_items, item, Members, no_members, member}
use Rattle.serde_json.specs.Find.{get, as_number, as_u64, as_str, as_array, as_object}
use Rattle.serde_json.specs.Read as json
use Rattle.prefixes.specs.Payload.{Payload, IsPayload}
use Rattle.prefixes.specs.Text.{PrefixText, written_text}
use Rattle.vrps.specs.VrpSet.{VrpSet, set_of, size}

abbrev pub member_count : Members → ℕ
member_count no_members = 0
member_count (member key value more) = suc (member_count more)

-- the whole number under a key
abbrev pub whole_at : List ℕ → Data → Option ℕ
whole_at key d = option_and_then as_u64 (option_and_then as_number (get key d))

-- the text under a key
abbrev pub text_at : List ℕ → Data → Option (List ℕ)
text_at key d = option_and_then as_str (get key d)

-- An entry of this payload: an object of three members, which are the number of the AS, the maximum length, and a readable
-- spelling of the prefix
pub record IsEntry (d : Data) (v : Payload) : Type 0 where
  pub members : Members
  pub is_object : as_object d ≡ Some members
  pub three : member_count members ≡ 3
  pub asn : whole_at (codes "asn") d ≡ Some v.asn
  pub max_len : whole_at (codes "maxLength") d ≡ Some v.max_len
  pub text : List ℕ
  pub has_text : text_at (codes "prefix") d ≡ Some text
  pub prefix : PrefixText v.prefix text
  pub payload : IsPayload v

abbrev pub AreEntries : Items → List Payload → Type 0
AreEntries no_items [] = ⊤
AreEntries (item d ds) (v ∷ vs) = IsEntry d v × AreEntries ds vs
AreEntries no_items (v ∷ vs) = ⊥
AreEntries (item d ds) [] = ⊥

-- An array of entries of the members of this set, with at most 16,777,215 different ones
pub record ListsSet (items : Items) (s : VrpSet) : Type 0 where
  pub records : List Payload
  pub entries : AreEntries items records
  pub set_is : s ≡ set_of records
  pub within_limit : size s ≤ 16777215

-- These bytes, as `serde_json` reads them, are a payload list of this set.
pub record IsPayloadList (bytes : List ℕ) (s : VrpSet) : Type 0 where
  pub utf8 : IsUtf8 bytes
  pub value : Data
  pub reads : json.read bytes ≡ Some value
  pub items : Items
  pub is_array : as_array value ≡ Some items
  pub lists : ListsSet items s

-- The text of an entry, and that of a list of these records: compact, on one line
abbrev pub entry_text : Payload → List ℕ
entry_text v =
    concat (codes "{\"asn\":" ∷ decimal v.asn ∷ codes ",\"maxLength\":" ∷ decimal v.max_len ∷ codes ",\"prefix\":\"" ∷ written_text v.prefix ∷ codes "\"}" ∷ [])

abbrev pub list_text : List Payload → List ℕ
list_text vs = codes "[" ++ join_with_byte 44 (map entry_text vs) ++ codes "]"
