-- The trust anchors of entries, worked out.
use Rattle.std.specs.Prelude.{◌≡◌, ℕ, zero, suc, ◌++◌, List, [], ◌∷◌, length, replicate, map, Option, Some, None, codes, refl}
use Rattle.serde_json.specs.Data.{Data, array, no_items, number, object, string, unsigned, item, no_members, member, put}
use Rattle.prefixes.specs.Payload.{Payload}
use Rattle.prefixes.specs.declared.prefix.IpPrefix.TheVariants.{V4}
use Rattle.exports.specs.Anchors.{anchor_names, anchor_of, anchored, anchors_in, different, number_in, short}
use Rattle.exports.specs.Names.{with_name}
use Rattle.exports.specs.Numbering.{number_at}
use Rattle.exports.specs.declared.entry.ExportEntry.{ExportEntry}

-- ---- the member ta

abbrev under : List ℕ → Data → Data
under name d = object (member name d no_members)

ripe : anchor_of (under (codes "ta") (string (codes "ripe"))) ≡ Some (codes "ripe")
ripe = refl

without_ta : anchor_of (under (codes "tal") (string (codes "ripe"))) ≡ None
without_ta = refl

-- A value that is not a text is none.
number_is_none : anchor_of (under (codes "ta") (number (unsigned 7))) ≡ None
number_is_none = refl

list_is_none : anchor_of (under (codes "ta") (array (item (string (codes "ripe")) no_items))) ≡ None
list_is_none = refl

-- Of two the last one counts.
last_ta : anchor_of (object (put (codes "ta") (string (codes "arin")) (put (codes "ta") (string (codes "ripe")) no_members))) ≡ Some (codes "arin")
last_ta = refl

-- ---- 64 bytes and 65

bytes_64 : short (Some (replicate 64 97)) ≡ Some (replicate 64 97)
bytes_64 = refl

bytes_65 : short (Some (replicate 65 97)) ≡ None
bytes_65 = refl

-- ---- entries in their order

abbrev two_items : Data
two_items = array (item (under (codes "ta") (string (codes "ripe"))) (item (under (codes "asn") (number (unsigned 1))) no_items))

in_roas : anchors_in (under (codes "roas") two_items) ≡ Some (codes "ripe") ∷ None ∷ []
in_roas = refl

-- The entries of a payload list have none.
in_list : anchors_in two_items ≡ []
in_list = refl

-- 10.0.0.0/8 of this AS
abbrev of_as : ℕ → Payload
of_as n = record { prefix = V4 (record { addr = 167772160; len = 8 }); max_len = 8; asn = n }

abbrev ends : ℕ → ℕ → ExportEntry
ends n t = record { payload = of_as n; expires = Some t }

abbrev stays : ℕ → ExportEntry
stays n = record { payload = of_as n; expires = None }

abbrev names : List (Option (List ℕ))
names = Some (codes "ripe") ∷ Some (codes "arin") ∷ None ∷ Some (codes "arin") ∷ []

abbrev four : List ExportEntry
four = ends 1 100 ∷ stays 2 ∷ stays 3 ∷ stays 4 ∷ []

-- at the last second of the first entry
all_count : anchored 99 four names ≡ (of_as 1, Some (codes "ripe")) ∷ (of_as 2, Some (codes "arin")) ∷ (of_as 3, None) ∷ (of_as 4, Some (codes "arin")) ∷ []
all_count = refl

names_of_all : anchor_names (anchored 99 four names) ≡ codes "ripe" ∷ codes "arin" ∷ []
names_of_all = refl

numbers_of_all : map (λ p. number_in (anchor_names (anchored 99 four names)) p.1) (anchored 99 four names) ≡ 0 ∷ 1 ∷ 255 ∷ 1 ∷ []
numbers_of_all = refl

-- From its expiry on its trust anchor has no name, as no other entry has it.
one_expired : anchor_names (anchored 100 four names) ≡ codes "arin" ∷ []
one_expired = refl

numbers_without_it : map (λ p. number_in (anchor_names (anchored 100 four names)) p.1) (anchored 100 four names) ≡ 0 ∷ 255 ∷ 0 ∷ []
numbers_without_it = refl

-- Entries behind the last name have none.
of_a_list : anchored 100 (stays 2 ∷ stays 3 ∷ []) [] ≡ (of_as 2, None) ∷ (of_as 3, None) ∷ []
of_a_list = refl

each_once : different (codes "b" ∷ codes "a" ∷ codes "b" ∷ codes "c" ∷ codes "a" ∷ []) ≡ codes "b" ∷ codes "a" ∷ codes "c" ∷ []
each_once = refl

-- ---- the 32nd name and the 33rd

-- this number of entries, each with another name
abbrev many : ℕ → List (Payload × Option (List ℕ))
many zero = []
many (suc n) = many n ++ (of_as n, Some (n ∷ [])) ∷ []

last_of_32 : number_in (anchor_names (many 32)) (Some (31 ∷ [])) ≡ 31
last_of_32 = refl

last_of_33 : number_in (anchor_names (many 33)) (Some (32 ∷ [])) ≡ 255
last_of_33 = refl

others_of_33 : (length (anchor_names (many 33)) ≡ 32) × (number_in (anchor_names (many 33)) (Some (31 ∷ [])) ≡ 31)
others_of_33 = (refl, refl)

no_room : with_name (anchor_names (many 32)) (Some (32 ∷ [])) ≡ anchor_names (many 32)
no_room = refl

room : with_name (codes "ripe" ∷ []) (Some (codes "arin")) ≡ codes "ripe" ∷ codes "arin" ∷ []
room = refl

there_already : with_name (codes "ripe" ∷ []) (Some (codes "ripe")) ≡ codes "ripe" ∷ []
there_already = refl

-- ---- numbers at a place

second_of_two : number_at (3 ∷ 4 ∷ []) 1 ≡ 4
second_of_two = refl

past_the_last : number_at (3 ∷ 4 ∷ []) 2 ≡ 255
past_the_last = refl
