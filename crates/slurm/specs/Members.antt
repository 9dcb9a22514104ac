-- Members of objects.
use Rattle.std.specs.Prelude.{ℕ, Bool, false, ◌==◌, if◌then◌else◌, List, Option, Some, None, option_map, is_some}
use Rattle.serde_json.specs.Data.{Data}
use Rattle.serde_json.specs.Find.{get, as_object}
use Rattle.payload_lists.specs.PayloadList.{member_count}

-- how many members an object has
abbrev pub total : Data → Option ℕ
total d = option_map member_count (as_object d)

-- 1 for a key that is there
abbrev pub one_for : List ℕ → Data → ℕ
one_for key d = if is_some (get key d) then 1 else 0

-- An object of this number of members. It has each key once. So if it has as many known keys, it has no others.
abbrev pub is_of_members : ℕ → Option ℕ → Bool
is_of_members n None = false
is_of_members n (Some m) = m == n
