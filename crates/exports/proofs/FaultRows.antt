-- Entries that cannot be read, and bytes that are no export, worked out.
use Rattle.std.proofs.Common.{◌≡◌, ℕ, ◌<◌, ◌^◌, List, [], ◌∷◌, Option, Some, None, get_or, refl, sym, ap, ◌∙◌, subst, arith, codes, inl, inr, lit<, lit≤}
use Rattle.std.specs.Fmt.{decimal, digits}
use Rattle.std.specs.Prelude.{negsuc}
use Rattle.std.proofs.lemmas.Fmt.{decimal_injective}
use Rattle.serde_json.specs.Data.{Data, null, number, string, array, object, unsigned, negative, Items, no_items, item, Members, no_members, member}
use Rattle.serde_json.specs.Read as json
use Rattle.json.proofs.OnLiterals.{json_on_literals}
use Rattle.serde_json.proofs.OnLiterals.{serde_json_on_literals}
use Rattle.prefixes.proofs.Decimals.{begins, decimal_lacks}
use Rattle.prefixes.proofs.Lacks.{Lacks}
use Rattle.prefixes.specs.Address.{IsPrefix}
use Rattle.prefixes.specs.Payload.{Payload, block_of, width_of}
use Rattle.prefixes.specs.declared.prefix.IpPrefix.{IpPrefix}
use Rattle.prefixes.specs.declared.prefix.IpPrefix.TheVariants.{V4, V6}
use Rattle.prefixes.proofs.Spelling.{one_reading}
use Rattle.prefix_texts.proofs.MixedRows.{mapped, mapped_host_bit}
use Rattle.prefix_texts.proofs.Sayings.{one_saying}
use Rattle.prefix_texts.specs.MixedText.{SaysText, SpellsPrefix}
use Rattle.payload_lists.proofs.Entries.{one_some}
use Rattle.payload_lists.specs.PayloadList as lists
use Rattle.vrps.specs.VrpSet.{set_of, size}
use Rattle.prefix_texts.specs.AsnText.{AsnText}
use Rattle.exports.specs.Entry.{IsEntry, Said, SaysAsn, SaysExpiry, SaysFault, SaysMaxLen, SaysPrefix, current, said}
use Rattle.exports.specs.Export.{HasFault, Lists, ReadsOnce}
use Rattle.exports.specs.declared.entry.ExportEntry.{ExportEntry}
use Rattle.exports.specs.Faults.{export_fault_number}
use Rattle.exports.specs.declared.fault.EntryFault.TheVariants as faults
use Rattle.exports.specs.declared.fault.ExportFault.TheVariants.{NotJson, NoRoas, Entry, TooMany, Memory, Repeated}
use Rattle.exports.specs.Repeats.{Repeats}
use Rattle.exports.proofs.Ascii.{utf8}
use Rattle.exports.proofs.Deciding.{stand_once, stand_twice}
use Rattle.exports.proofs.Once.{OneMeaning}
use Rattle.exports.proofs.Outcomes.{one_lists, one_value}
use Rattle.prefix_texts.proofs.AsnTexts.{none_after}

-- ---- the texts of AS numbers

abbrev NoAs : List ℕ → Type 0
NoAs text = (n : ℕ) → n < 2 ^ 32 → ¬ (AsnText n text)

-- a zero before another digit
no_zero_before : (n : ℕ) → n < 2 ^ 32 → ¬ (codes "064496" ≡ decimal n)
no_zero_before n small e = let b = begins n (codes "064496") small e in absurd (omega (arith, b.lone_zero refl))

zeros_before : NoAs (codes "AS064496")
zeros_before = none_after (codes "AS064496") (codes "064496") refl no_zero_before

-- a sign
no_sign : (n : ℕ) → n < 2 ^ 32 → ¬ (codes "-1" ≡ decimal n)
no_sign n small e = let b = begins n (codes "-1") small e in absurd (omega (arith, b.digit))

minus_one : NoAs (codes "AS-1")
minus_one = none_after (codes "AS-1") (codes "-1") refl no_sign

-- 2 to the 32
no_33_bits : (n : ℕ) → n < 2 ^ 32 → ¬ (codes "4294967296" ≡ decimal n)
unfolding digits
no_33_bits n small e = let over : decimal 4294967296 ≡ codes "4294967296" = refl in absurd (omega (arith, small, decimal_injective 4294967296 n (lit< tt) (omega arith) (over ∙ e)))

over_32_bits : NoAs (codes "AS4294967296")
over_32_bits = none_after (codes "AS4294967296") (codes "4294967296") refl no_33_bits

-- a blank
no_blank : (n : ℕ) → n < 2 ^ 32 → ¬ (codes " 1" ≡ decimal n)
no_blank n small e = let b = begins n (codes " 1") small e in absurd (omega (arith, b.digit))

blank_between : NoAs (codes "AS 1")
blank_between = none_after (codes "AS 1") (codes " 1") refl no_blank

-- no digit
no_digit : (n : ℕ) → n < 2 ^ 32 → ¬ ([] ≡ decimal n)
no_digit n small e = let b = begins n [] small e in absurd (omega (arith, b.some))

no_number : NoAs (codes "AS")
no_number = none_after (codes "AS") [] refl no_digit

empty : NoAs []
empty n small (inl h) = no_digit n small h
empty n small (inr h) = absurd (cc)

-- small letters
small_letters : NoAs (codes "as1")
small_letters n small (inl h) = let lacks : Lacks 97 (codes "as1") = subst (λ t. Lacks 97 t) (sym h) (decimal_lacks 97 n (omega arith) (omega arith)) in lacks.0 refl
small_letters n small (inr h) = let first : 97 ≡ 65 = ap (λ t. get_or t 0 0) h in absurd (omega (arith, first))

-- ---- one entry

abbrev with_asn : Data → Data
with_asn d = object (member (codes "asn") d no_members)

-- an entry whose AS is a text of none
no_as : (t : List ℕ) → NoAs t → SaysFault (said (with_asn (string t))) faults.Asn
no_as t none n h = none n h.0 (subst (λ s. AsnText n s) (one_some h.1.0 t (Some t) h.1.1 refl) h.1.2)

as_minus_one : SaysFault (said (with_asn (string (codes "AS-1")))) faults.Asn
as_minus_one = no_as (codes "AS-1") minus_one

-- A number of 33 bits is no AS, nor is one below zero, nor what is no number and no text.
too_large : SaysFault (said (with_asn (number (unsigned 4294967296)))) faults.Asn
too_large n h = absurd (omega (arith, h.0, h.1))

below_zero : SaysFault (said (with_asn (number (negative (negsuc 0))))) faults.Asn
below_zero n h = absurd (cc)

no_text : SaysFault (said (with_asn null)) faults.Asn
no_text n h = absurd (cc)

abbrev of_two_wrongs : Said
of_two_wrongs = record { asn_number = None; asn_text = Some (codes "AS064496"); prefix = None; max_len = None; expires = Some None }

-- The AS is wrong, the prefix is not there, and so on: the AS is told.
the_as_first : SaysFault of_two_wrongs faults.Asn
the_as_first n h = zeros_before n h.0 (subst (λ s. AsnText n s) (one_some h.1.0 (codes "AS064496") (Some (codes "AS064496")) h.1.1 refl) h.1.2)

abbrev of_as_1 : List ℕ → Said
of_as_1 text = record { asn_number = Some 1; asn_text = None; prefix = Some text; max_len = Some 7; expires = Some None }

as_1 : (text : List ℕ) → (n : ℕ) × SaysAsn (of_as_1 text) n
as_1 text = (1, (lit< tt, refl))

-- The prefix is not there, and neither is the maximum: the prefix is told.
the_prefix_next : SaysFault (record { asn_number = Some 1; asn_text = None; prefix = None; max_len = None; expires = Some None }) faults.Prefix
the_prefix_next = ((1, (lit< tt, refl)), λ p h. absurd (cc))

-- A text that says no prefix: its prefix is told, whatever stands behind.
no_prefix : (text : List ℕ) (p : IpPrefix) → SaysText p text → ¬ (IsPrefix (width_of p) (block_of p)) → SaysFault (of_as_1 text) faults.Prefix
no_prefix text p says none = (as_1 text, λ q h. none (subst (λ r. IsPrefix (width_of r) (block_of r)) (same q h) h.2.is_prefix))
  where
    same : (q : IpPrefix) (h : SaysPrefix (of_as_1 text) q) → q ≡ p
    same q h = one_saying text q p (subst (λ t. SaysText q t) (one_some h.0 text (Some text) h.1 refl) h.2.says) says

-- a host bit
host_bits : SaysFault (of_as_1 (codes "10.0.0.1/8")) faults.Prefix
unfolding digits
host_bits =
    no_prefix (codes "10.0.0.1/8") (V4 (record { addr = 0x0a000001; len = 8 })) (record { address = codes "10.0.0.1"; is_address = (lit< tt, refl); three_digits = lit< tt; text_is = refl })
    (λ h. absurd (omega (arith, h.no_host_bits)))

-- a length over the width
over_the_width : SaysFault (of_as_1 (codes "10.0.0.0/33")) faults.Prefix
unfolding digits
over_the_width =
    no_prefix (codes "10.0.0.0/33") (V4 (record { addr = 0x0a000000; len = 33 })) (record { address = codes "10.0.0.0"; is_address = (lit< tt, refl); three_digits = lit< tt; text_is = refl })
    (λ h. absurd (omega (arith, h.in_family)))

-- An IPv6 address in mixed notation, as rpki-client and FORT write it, and one of which a host bit is set
mapped_prefix : SaysPrefix (of_as_1 (codes "::ffff:0.0.0.0/96")) (V6 (record { addr = 0xffff00000000; len = 96 }))
mapped_prefix = (codes "::ffff:0.0.0.0/96", refl, record { is_prefix = record { in_family = lit≤ tt; address = lit< tt; no_host_bits = omega arith }; says = inr mapped })

host_bit_of_the_tail : SaysFault (of_as_1 (codes "::ffff:192.0.2.1/120")) faults.Prefix
host_bit_of_the_tail = no_prefix (codes "::ffff:192.0.2.1/120") (V6 (record { addr = 0xffffc0000201; len = 120 })) (inr mapped_host_bit) (λ h. absurd (omega (arith, h.no_host_bits)))

abbrev ten : IpPrefix
ten = V4 (record { addr = 0x0a000000; len = 8 })

ten_text : SpellsPrefix ten (codes "10.0.0.0/8")
unfolding digits
ten_text = record {
  is_prefix = record { in_family = lit≤ tt; address = lit< tt; no_host_bits = omega arith };
  says = record { address = codes "10.0.0.0"; is_address = (lit< tt, refl); three_digits = lit< tt; text_is = refl };
}

-- The maximum is below the length, and `expires` is no number: the maximum is told.
the_maximum_next : SaysFault (of_as_1 (codes "10.0.0.0/8")) faults.MaxLength
the_maximum_next = (as_1 (codes "10.0.0.0/8"), (ten, (codes "10.0.0.0/8", refl, ten_text), λ m h. let is : 7 ≡ m = one_some 7 m (Some 7) refl h.0 in absurd (omega (arith, is, h.1))))

-- an entry of AS 1 and 10.0.0.0/8
abbrev of_ten : Members → Data
of_ten ms = object (member (codes "asn") (number (unsigned 1)) (member (codes "prefix") (string (codes "10.0.0.0/8")) ms))

-- a maximum over the width, one that is a text, and none
over_32 : SaysFault (said (of_ten (member (codes "maxLength") (number (unsigned 33)) no_members))) faults.MaxLength
over_32 = ((1, (lit< tt, refl)), (ten, (codes "10.0.0.0/8", refl, ten_text), λ m h. let is : 33 ≡ m = one_some 33 m (Some 33) refl h.0 in absurd (omega (arith, is, h.2))))

a_text_for_a_maximum : SaysFault (said (of_ten (member (codes "maxLength") (string (codes "8")) no_members))) faults.MaxLength
a_text_for_a_maximum = ((1, (lit< tt, refl)), (ten, (codes "10.0.0.0/8", refl, ten_text), λ m h. absurd (cc)))

no_maximum : SaysFault (said (of_ten no_members)) faults.MaxLength
no_maximum = ((1, (lit< tt, refl)), (ten, (codes "10.0.0.0/8", refl, ten_text), λ m h. absurd (cc)))

-- The greatest maximum is the width of the family.
up_to_32 : SaysMaxLen (said (of_ten (member (codes "maxLength") (number (unsigned 32)) no_members))) ten 32
up_to_32 = (refl, lit≤ tt, lit≤ tt)

up_to_128 : SaysMaxLen (said (of_ten (member (codes "maxLength") (number (unsigned 128)) no_members))) (V6 (record { addr = 0; len = 128 })) 128
up_to_128 = (refl, lit≤ tt, lit≤ tt)

-- `expires` is no whole number.
abbrev of_ten_to_8 : Data → Said
of_ten_to_8 d = said (of_ten (member (codes "maxLength") (number (unsigned 8)) (member (codes "expires") d no_members)))

no_moment : (t : Option ℕ) → ¬ (SaysExpiry (of_ten_to_8 (string (codes "1700000001"))) t)
no_moment None h = absurd (cc)
no_moment (Some t) h = absurd (cc)

a_text_for_an_expiry : SaysFault (of_ten_to_8 (string (codes "1700000001"))) faults.Expires
a_text_for_an_expiry = ((1, (lit< tt, refl)), (ten, (codes "10.0.0.0/8", refl, ten_text), (8, (refl, lit≤ tt, lit≤ tt))), no_moment)

null_moment : (t : Option ℕ) → ¬ (SaysExpiry (of_ten_to_8 null) t)
null_moment None h = absurd (cc)
null_moment (Some t) h = absurd (cc)

null_for_an_expiry : SaysFault (of_ten_to_8 null) faults.Expires
null_for_an_expiry = ((1, (lit< tt, refl)), (ten, (codes "10.0.0.0/8", refl, ten_text), (8, (refl, lit≤ tt, lit≤ tt))), null_moment)

-- ---- bytes that are no export

no_value : (bytes : List ℕ) → json.read bytes ≡ None → HasFault bytes 0 NotJson
no_value bytes none d h = let no : None ≡ Some d = sym none ∙ h.1 in absurd (cc)

no_bytes : HasFault [] 0 NotJson
unfolding serde_json_on_literals
no_bytes = no_value [] refl

half_an_export : HasFault (codes "{\"roas\":[") 0 NotJson
unfolding serde_json_on_literals
half_an_export = no_value (codes "{\"roas\":[") refl

two_values : HasFault (codes "{\"roas\":[]} {}") 0 NotJson
unfolding serde_json_on_literals
two_values = no_value (codes "{\"roas\":[]} {}") refl

-- Of a text that is no JSON a name that is repeated is not reported,
twice_and_more : HasFault (codes "{\"roas\":[],\"roas\":[]} x") 0 NotJson
unfolding serde_json_on_literals
twice_and_more = no_value (codes "{\"roas\":[],\"roas\":[]} x") refl

-- but before an entry that cannot be read, also one that stands in front,
abbrev behind_seven : List ℕ
behind_seven = codes "{\"roas\":[7,{\"asn\":1,\"asn\":2}]}"

read_behind_seven : json.read behind_seven ≡ Some (object (member (codes "roas") (array (item (number (unsigned 7)) (item (object (member (codes "asn") (number (unsigned 2)) no_members)) no_items))) no_members))
unfolding serde_json_on_literals
read_behind_seven = refl

repeats_behind_seven : Repeats behind_seven
unfolding json_on_literals
repeats_behind_seven = stand_twice behind_seven refl

before_an_entry : HasFault behind_seven 0 Repeated
before_an_entry = (_, (utf8 behind_seven refl, read_behind_seven), repeats_behind_seven)

-- and before `roas` that are not there.
abbrev no_roas_but : List ℕ
no_roas_but = codes "{\"metadata\":{},\"metadata\":{}}"

read_no_roas_but : json.read no_roas_but ≡ Some (object (member (codes "metadata") (object no_members) no_members))
unfolding serde_json_on_literals
read_no_roas_but = refl

repeats_no_roas_but : Repeats no_roas_but
unfolding json_on_literals
repeats_no_roas_but = stand_twice no_roas_but refl

before_no_roas : HasFault no_roas_but 0 Repeated
before_no_roas = (_, (utf8 no_roas_but refl, read_no_roas_but), repeats_no_roas_but)

-- JSON of neither form: a number, an object without roas, one whose roas are no array, and an array that is no payload list
read_seven : json.read (codes "7") ≡ Some (number (unsigned 7))
unfolding serde_json_on_literals
read_seven = refl

seven_once : ¬ (Repeats (codes "7"))
unfolding json_on_literals
seven_once = stand_once (codes "7") refl

seven : HasFault (codes "7") 0 NoRoas
seven = (number (unsigned 7), ((utf8 (codes "7") refl, read_seven), seven_once), refl, λ es h. let no : None ≡ Some h.items = h.is_array in absurd (cc))

read_nothing : json.read (codes "{}") ≡ Some (object no_members)
unfolding serde_json_on_literals
read_nothing = refl

nothing_once : ¬ (Repeats (codes "{}"))
unfolding json_on_literals
nothing_once = stand_once (codes "{}") refl

without_roas : HasFault (codes "{}") 0 NoRoas
without_roas = (object no_members, ((utf8 (codes "{}") refl, read_nothing), nothing_once), refl, λ es h. let no : None ≡ Some h.items = h.is_array in absurd (cc))

abbrev object_roas : Data
object_roas = object (member (codes "roas") (object no_members) no_members)

read_object_roas : json.read (codes "{\"roas\":{}}") ≡ Some object_roas
unfolding serde_json_on_literals
read_object_roas = refl

object_roas_once : ¬ (Repeats (codes "{\"roas\":{}}"))
unfolding json_on_literals
object_roas_once = stand_once (codes "{\"roas\":{}}") refl

roas_no_array : HasFault (codes "{\"roas\":{}}") 0 NoRoas
roas_no_array = (object_roas, ((utf8 (codes "{\"roas\":{}}") refl, read_object_roas), object_roas_once), refl, λ es h. let no : None ≡ Some h.items = h.is_array in absurd (cc))

abbrev one_seven : Items
one_seven = item (number (unsigned 7)) no_items

read_one_seven : json.read (codes "[7]") ≡ Some (array one_seven)
unfolding serde_json_on_literals
read_one_seven = refl

no_list : (vs : List Payload) → ¬ (lists.AreEntries one_seven vs)
no_list [] h = h
no_list (v ∷ vs) h = let no : None ≡ Some h.0.members = h.0.is_object in absurd (cc)

one_seven_once : ¬ (Repeats (codes "[7]"))
unfolding json_on_literals
one_seven_once = stand_once (codes "[7]") refl

no_payload_list : HasFault (codes "[7]") 0 NoRoas
no_payload_list = (array one_seven, ((utf8 (codes "[7]") refl, read_one_seven), one_seven_once), refl, λ es h. no_list h.payloads (subst (λ ds. lists.AreEntries ds h.payloads) (one_some h.items one_seven (Some one_seven) h.is_array refl) h.listed))

-- an entry of a payload list with a fourth key
abbrev four_members : Members
four_members = member (codes "asn") (number (unsigned 1)) (member (codes "maxLength") (number (unsigned 8)) (member (codes "prefix") (string (codes "10.0.0.0/8")) (member (codes "ta") (string []) no_members)))

abbrev four_keys : Data
four_keys = object four_members

abbrev list_of_four : List ℕ
list_of_four = codes "[{\"asn\":1,\"prefix\":\"10.0.0.0/8\",\"maxLength\":8,\"ta\":\"\"}]"

read_four : json.read list_of_four ≡ Some (array (item four_keys no_items))
unfolding serde_json_on_literals
read_four = refl

no_fourth : (vs : List Payload) → ¬ (lists.AreEntries (item four_keys no_items) vs)
no_fourth [] h = h
no_fourth (v ∷ vs) h = let count : lists.member_count h.0.members ≡ 4 = ap lists.member_count (one_some h.0.members four_members (Some four_members) h.0.is_object refl) in absurd (omega (arith, count, h.0.three))

four_once : ¬ (Repeats list_of_four)
unfolding json_on_literals
four_once = stand_once list_of_four refl

a_fourth_key : HasFault list_of_four 0 NoRoas
a_fourth_key =
    (array (item four_keys no_items), ((utf8 list_of_four refl, read_four), four_once), refl, λ es h. no_fourth h.payloads (subst (λ ds. lists.AreEntries ds h.payloads) (one_some h.items (item four_keys no_items) (Some (item four_keys no_items)) h.is_array refl) h.listed))

-- An entry that cannot be read refuses the whole, and it is the first one that is told: of three the second, whose AS is none.
abbrev well : Data
well = object (member (codes "asn") (number (unsigned 1)) (member (codes "maxLength") (number (unsigned 8)) (member (codes "prefix") (string (codes "10.0.0.0/8")) no_members)))

abbrev three : List ℕ
three = codes "{\"roas\":[{\"asn\":1,\"maxLength\":8,\"prefix\":\"10.0.0.0/8\"},{\"asn\":\"AS-1\"},7]}"

abbrev three_items : Items
three_items = item well (item (with_asn (string (codes "AS-1"))) (item (number (unsigned 7)) no_items))

read_three : json.read three ≡ Some (object (member (codes "roas") (array three_items) no_members))
unfolding serde_json_on_literals
read_three = refl

well_is : IsEntry well (record { payload = record { prefix = ten; max_len = 8; asn = 1 }; expires = None })
well_is = (refl, record { asn = (lit< tt, refl); prefix = (codes "10.0.0.0/8", refl, ten_text); max_len = (refl, lit≤ tt, lit≤ tt); expires = refl })

three_once : ¬ (Repeats three)
unfolding json_on_literals
three_once = stand_once three refl

the_second_of_three : HasFault three 0 (Entry 1 faults.Asn)
the_second_of_three = (object (member (codes "roas") (array three_items) no_members), ((utf8 three refl, read_three), three_once), (three_items, refl, ((record { payload = record { prefix = ten; max_len = 8; asn = 1 }; expires = None }, well_is), inr (refl, as_minus_one))))

-- Of 16,777,216 different payloads there are too many, and of one less not.
one_too_many : (bytes : List ℕ) (d : Data) (es : List ExportEntry) → ReadsOnce bytes d → Lists d es → size (set_of (current 0 es)) ≡ 16777216 → HasFault bytes 0 TooMany
one_too_many bytes d es reads lists_it is = (d, reads, (es, lists_it, omega (arith, is)))

meaning : OneMeaning
meaning = record { of_lists = one_reading; of_entries = one_saying }

not_too_many : (bytes : List ℕ) (d : Data) (es : List ExportEntry) → ReadsOnce bytes d → Lists d es → size (set_of (current 0 es)) ≡ 16777215 → ¬ (HasFault bytes 0 TooMany)
not_too_many bytes d es reads lists_it is h =
    let value = one_value bytes h.0 d h.1.0 reads.0 in
    let same = one_lists meaning d h.2.0 es (subst (λ x. Lists x h.2.0) value h.2.1) lists_it in
    let sizes : size (set_of (current 0 h.2.0)) ≡ 16777215 = ap (λ l. size (set_of (current 0 l))) same ∙ is in
    omega (arith, sizes, h.2.2)

numbers : (export_fault_number NotJson ≡ 1) × (export_fault_number NoRoas ≡ 2) × (export_fault_number (Entry 7 faults.Asn) ≡ 3) × (export_fault_number TooMany ≡ 4) × (export_fault_number Memory ≡ 5)
    × (export_fault_number Repeated ≡ 6)
numbers = (refl, refl, refl, refl, refl, refl)
