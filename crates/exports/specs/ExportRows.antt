-- Exports, worked out.
use Rattle.std.specs.Prelude.{◌≡◌, ℕ, ◌≤◌, List, [], ◌∷◌, true, false, Option, Some, None, option_and_then, codes, refl}
use Rattle.std.specs.Fmt.{digits}
use Rattle.std.proofs.Common.{inl, inr, lit<, lit≤}
use Rattle.std.proofs.lemmas.List.Elements.{All-cons, All-nil}
use Rattle.serde_json.specs.Data.{Data, null, number, string, object, unsigned, no_items, item, no_members, member}
use Rattle.serde_json.specs.Read as json
use Rattle.json.proofs.OnLiterals.{json_on_literals}
use Rattle.json.specs.Json as tree
use Rattle.serde_json.proofs.OnLiterals.{serde_json_on_literals}
use Rattle.der_lite.specs.Moments.{told_moment, is_moment}
use Rattle.prefixes.specs.Payload.{Payload}
use Rattle.prefixes.specs.declared.prefix.IpPrefix.TheVariants.{V4}
use Rattle.exports.specs.Built.{IsBuilt, SaysTime, buildtime, generated, time_text}
use Rattle.exports.specs.Entry.{FailsAt, IsNoEntry, SaysAsn, current, expired, is_after, said}
use Rattle.exports.specs.Export.{roas}
use Rattle.exports.specs.Repeats.{Repeats}
use Rattle.exports.specs.Until.{IsBefore, IsFirst, endings}
use Rattle.exports.specs.declared.entry.ExportEntry.{ExportEntry}
use Rattle.exports.specs.declared.fault.EntryFault.TheVariants as faults

-- ---- the moment of an expiry

still_counts : is_after 99 (Some 100) ≡ true
still_counts = refl

-- from its second on an entry does not count
counts_no_more : is_after 100 (Some 100) ≡ false
counts_no_more = refl

nor_later : is_after 101 (Some 100) ≡ false
nor_later = refl

without_expiry : is_after 101 None ≡ true
without_expiry = refl

-- a payload of 10.0.0.0/8 and this AS
abbrev of_as : ℕ → Payload
of_as n = record { prefix = V4 (record { addr = 167772160; len = 8 }); max_len = 8; asn = n }

abbrev three : List ExportEntry
three = record { payload = of_as 1; expires = Some 100 } ∷ record { payload = of_as 2; expires = Some 101 } ∷ record { payload = of_as 3; expires = None } ∷ []

those_that_count : current 100 three ≡ of_as 2 ∷ of_as 3 ∷ []
those_that_count = refl

those_that_do_not : expired 100 three ≡ 1
those_that_do_not = refl

-- ---- until when an export stays what it is

-- of the entries that count at 100 one ends at 101, and one never
ends_then : endings 100 three ≡ 101 ∷ []
ends_then = refl

ends_first : IsFirst (endings 100 three) (Some 101)
ends_first = ((0, lit< tt, refl), All-cons (λ s. 101 ≤ s) 101 [] (lit≤ tt) (All-nil (λ s. 101 ≤ s)))

-- of those that count at 40 the first ends at 100
ends_before : endings 40 three ≡ 100 ∷ 101 ∷ []
ends_before = refl

ends_never : IsFirst (endings 101 three) None
ends_never = refl

before_its_end : IsBefore 100 (Some 101)
before_its_end = lit< tt

without_end : IsBefore 18446744073709551615 None
without_end = tt

-- ---- what a text holds

-- the value of a text, looked at
abbrev in_text : {A : Type 0} → (Data → Option A) → List ℕ → Option A
in_text look text = option_and_then look (json.read text)

no_entries : in_text roas (codes "{\"roas\":[]}") ≡ Some no_items
unfolding serde_json_on_literals
no_entries = refl

-- Of a name that is repeated a value has the last. (Such a text is refused: `twice_roas`, below.)
last_roas : in_text roas (codes "{\"roas\":7,\"roas\":[7]}") ≡ Some (item (number (unsigned 7)) no_items)
unfolding serde_json_on_literals
last_roas = refl

roas_of_another_kind : in_text roas (codes "{\"roas\":[],\"roas\":7}") ≡ None
unfolding serde_json_on_literals
roas_of_another_kind = refl

no_roas_in_an_array : in_text roas (codes "[]") ≡ None
unfolding serde_json_on_literals
no_roas_in_an_array = refl

-- as Routinator writes it
generated_then : in_text generated (codes "{\"metadata\":{\"generated\":1700000000,\"generatedTime\":\"x\"},\"roas\":[]}") ≡ Some 1700000000
unfolding serde_json_on_literals
generated_then = refl

generated_as_text : in_text generated (codes "{\"metadata\":{\"generated\":\"7\"}}") ≡ None
unfolding serde_json_on_literals
generated_as_text = refl

-- as rpki-client writes it
built_then : in_text buildtime (codes "{\"metadata\":{\"buildtime\":\"2024-02-29T23:59:59Z\"}}") ≡ Some (codes "2024-02-29T23:59:59Z")
unfolding serde_json_on_literals
built_then = refl

time_written : time_text (told_moment 2024 2 29 23 59 59) ≡ codes "2024-02-29T23:59:59Z"
time_written = refl

-- a number is no time of building, and metadata that are no object say nothing
built_as_number : in_text buildtime (codes "{\"metadata\":{\"buildtime\":1709251199}}") ≡ None
unfolding serde_json_on_literals
built_as_number = refl

no_metadata : (in_text generated (codes "{\"metadata\":[]}") ≡ None) × (in_text buildtime (codes "{\"metadata\":7}") ≡ None)
unfolding serde_json_on_literals
no_metadata = (refl, refl)

-- the first of the two that is there
generated_first : IsBuilt (Some 7) (Some (codes "2024-02-29T23:59:59Z")) (Some 7)
generated_first = refl

leap_day : SaysTime (told_moment 2024 2 29 23 59 59) (codes "2024-02-29T23:59:59Z")
unfolding is_moment
leap_day = record { text_is = refl; real = refl }

-- ---- what an entry says

-- `expires` is a number, a text, and missing
expires_as_number : in_text (λ d. Some (said d).expires) (codes "{\"expires\":100}") ≡ Some (Some (Some 100))
unfolding serde_json_on_literals
expires_as_number = refl

expires_as_text : in_text (λ d. Some (said d).expires) (codes "{\"expires\":\"100\"}") ≡ Some (Some None)
unfolding serde_json_on_literals
expires_as_text = refl

no_expires : in_text (λ d. Some (said d).expires) (codes "{}") ≡ Some None
unfolding serde_json_on_literals
no_expires = refl

-- an AS as a number, and as a text with and without AS before it
abbrev only_as : Data → Data
only_as d = object (member (codes "asn") d no_members)

as_number : SaysAsn (said (only_as (number (unsigned 64496)))) 64496
as_number = (lit< tt, refl)

as_text : SaysAsn (said (only_as (string (codes "AS64496")))) 64496
unfolding digits
as_text = (lit< tt, (codes "AS64496", refl, inr refl))

as_text_alone : SaysAsn (said (only_as (string (codes "4294967295")))) 4294967295
unfolding digits
as_text_alone = (lit< tt, (codes "4294967295", refl, inl refl))

as_greatest : SaysAsn (said (only_as (string (codes "AS4294967295")))) 4294967295
unfolding digits
as_greatest = (lit< tt, (codes "AS4294967295", refl, inr refl))

as_zero : SaysAsn (said (only_as (string (codes "AS0")))) 0
unfolding digits
as_zero = (lit< tt, (codes "AS0", refl, inr refl))

-- Of a name that is repeated a value has the last, whether a number or a text. (Such a text is refused too.)
number_last : in_text (λ d. (said d).asn_number) (codes "{\"asn\":\"AS1\",\"asn\":2}") ≡ Some 2
unfolding serde_json_on_literals
number_last = refl

text_last : in_text (λ d. (said d).asn_text) (codes "{\"asn\":1,\"asn\":\"AS2\"}") ≡ Some (codes "AS2")
unfolding serde_json_on_literals
text_last = refl

no_number_then : in_text (λ d. (said d).asn_number) (codes "{\"asn\":1,\"asn\":\"AS2\"}") ≡ None
unfolding serde_json_on_literals
no_number_then = refl

-- what is no object
not_an_object : IsNoEntry null faults.NoObject
not_an_object = inl (refl, refl)

-- the first entry of two that are none
the_first_of_two : FailsAt (item null (item null no_items)) 0 faults.NoObject
the_first_of_two = not_an_object

-- ---- names that are repeated

-- in the export: `roas`, once by an escape, and `metadata`
abbrev no_roas : tree.Json
no_roas = tree.array tree.no_items

twice_roas : Repeats (codes "{\"roas\":[],\"ro\\u0061s\":[]}")
unfolding json_on_literals
twice_roas = (tree.object (tree.member (codes "roas") no_roas (tree.member (codes "roas") no_roas tree.no_members)), refl, inl (inl (inl (refl, inl refl))))

twice_metadata : Repeats (codes "{\"metadata\":{},\"roas\":[],\"metadata\":7}")
unfolding json_on_literals
twice_metadata = (
  tree.object (tree.member (codes "metadata") (tree.object tree.no_members) (tree.member (codes "roas") no_roas (tree.member (codes "metadata") (tree.number (codes "7")) tree.no_members))),
  refl,
  inl (inr (inl (inl (refl, inr (inl refl))))),
)

-- a member that has this name twice, of the value 1
abbrev both : List ℕ → tree.Members
both name = tree.member name (tree.number (codes "1")) (tree.member name (tree.number (codes "1")) tree.no_members)

-- in the metadata: `generated` and `buildtime`
abbrev with_metadata : tree.Json → tree.Json
with_metadata j = tree.object (tree.member (codes "metadata") j tree.no_members)

twice_generated : Repeats (codes "{\"metadata\":{\"generated\":1,\"generated\":1}}")
unfolding json_on_literals
twice_generated = (with_metadata (tree.object (both (codes "generated"))), refl, inr (inr (inl (refl, inl (inl (refl, inl refl))))))

twice_buildtime : Repeats (codes "{\"metadata\":{\"buildtime\":1,\"buildtime\":1}}")
unfolding json_on_literals
twice_buildtime = (with_metadata (tree.object (both (codes "buildtime"))), refl, inr (inr (inl (refl, inr (inl (refl, inl refl))))))

-- in an entry: `asn`, `prefix`, `maxLength` and `expires`
abbrev with_second : tree.Json → tree.Json
with_second j = tree.object (tree.member (codes "roas") (tree.array (tree.item (tree.object tree.no_members) (tree.item j tree.no_items))) tree.no_members)

twice_asn : Repeats (codes "{\"roas\":[{},{\"asn\":1,\"asn\":1}]}")
unfolding json_on_literals
twice_asn = (with_second (tree.object (both (codes "asn"))), refl, inr (inl (refl, inr (inl (inl (inl (refl, inl refl)))))))

twice_prefix : Repeats (codes "{\"roas\":[{},{\"prefix\":1,\"prefix\":1}]}")
unfolding json_on_literals
twice_prefix = (with_second (tree.object (both (codes "prefix"))), refl, inr (inl (refl, inr (inl (inr (inl (inl (refl, inl refl))))))))

twice_max_length : Repeats (codes "{\"roas\":[{},{\"maxLength\":1,\"maxLength\":1}]}")
unfolding json_on_literals
twice_max_length = (with_second (tree.object (both (codes "maxLength"))), refl, inr (inl (refl, inr (inl (inr (inr (inl (inl (refl, inl refl)))))))))

twice_expires : Repeats (codes "{\"roas\":[{},{\"expires\":1,\"expires\":1}]}")
unfolding json_on_literals
twice_expires = (with_second (tree.object (both (codes "expires"))), refl, inr (inl (refl, inr (inl (inr (inr (inr (inl (refl, inl refl)))))))))

-- in the export: the arrays that are counted
abbrev both_arrays : List ℕ → tree.Json
both_arrays name = tree.object (tree.member name no_roas (tree.member name no_roas tree.no_members))

twice_aspas : Repeats (codes "{\"aspas\":[],\"aspas\":[]}")
unfolding json_on_literals
twice_aspas = (both_arrays (codes "aspas"), refl, inl (inr (inr (inl (inl (refl, inl refl))))))

twice_bgpsec_keys : Repeats (codes "{\"bgpsec_keys\":[],\"bgpsec_keys\":[]}")
unfolding json_on_literals
twice_bgpsec_keys = (both_arrays (codes "bgpsec_keys"), refl, inl (inr (inr (inr (inl (inl (refl, inl refl)))))))

twice_router_keys : Repeats (codes "{\"routerKeys\":[],\"routerKeys\":[]}")
unfolding json_on_literals
twice_router_keys = (both_arrays (codes "routerKeys"), refl, inl (inr (inr (inr (inr (inl (refl, inl refl)))))))
