-- Files as validators and RTR tools write them, worked out at a moment.
use Rattle.std.proofs.Common.{◌≡◌, ℕ, ◌≤◌, List, [], ◌∷◌, Vec, Global, cond, Bool, true, false, length, map, Option, Some, None, refl, sym, ap, ◌∙◌, arith, codes, inl, inr, lit<, lit≤, rules}
use Rattle.std.specs.Prelude.{nat_le, ◌||◌}
use Rattle.std.specs.Fmt.{digits}
use Rattle.std.proofs.lemmas.Bool.Decides.{nat_tests}
use Rattle.std.proofs.lemmas.List.Elements.{All-cons, All-nil}
use Rattle.std.specs.List.Sorted.{IsStrictlySortedBy}
use Rattle.serde_json.specs.Data.{Data, null, number, string, array, object, unsigned, Items, no_items, item, no_members, member}
use Rattle.serde_json.specs.Read as json
use Rattle.json.proofs.OnLiterals.{json_on_literals}
use Rattle.serde_json.proofs.OnLiterals.{serde_json_on_literals}
use Rattle.der_lite.specs.Moments.{is_moment, told_moment}
use Rattle.der_lite.specs.Seconds.{days_of_months, days_of_years}
use Rattle.prefixes.specs.Payload.{IsPayload, Payload, vrp_cmp}
use Rattle.prefixes.specs.Text.{PrefixText}
use Rattle.prefixes.specs.declared.prefix.IpPrefix.TheVariants.{V4, V6}
use Rattle.prefix_texts.proofs.Sayings.{plain_spells}
use Rattle.prefix_texts.specs.MixedText.{SpellsPrefix}
use Rattle.vrps.specs.VrpSet.{VrpSet, set_of, size}
use Rattle.vrps.proofs.SetLaws.{has-set_of, listing-set_of, same_set, same_vrp, size-set_of}
use Rattle.payload_lists.specs.PayloadList as lists
use Rattle.exports.specs.Built.{IsTimeOf}
use Rattle.exports.specs.Entry.{AreEntries}
use Rattle.exports.specs.Export.{IsExport, lasting}
use Rattle.exports.specs.Lasting.{AreLasts, IsExportLasting, counting}
use Rattle.exports.specs.Repeats.{Repeats}
use Rattle.exports.specs.Until.{IsExportUntil}
use Rattle.exports.specs.declared.entry.ExportEntry.{ExportEntry}
use Rattle.exports.proofs.Ascii.{utf8}
use Rattle.exports.proofs.Deciding.{stand_once}
use Rattle.exports.proofs.Ends.{lasts}
use Rattle.exports.proofs.Lasts.{counting_current}

-- ---- records

-- 192.0.2.0/24 to 24 of AS 64496, 2001:db8::/32 to 48 of AS 64497, and 198.51.100.0/24 to 24 of AS 64498
abbrev v : Payload
v = record { prefix = V4 (record { addr = 0xc0000200; len = 24 }); max_len = 24; asn = 64496 }

abbrev w : Payload
w = record { prefix = V6 (record { addr = 0x20010db8000000000000000000000000; len = 32 }); max_len = 48; asn = 64497 }

abbrev gone : Payload
gone = record { prefix = V4 (record { addr = 0xc6336400; len = 24 }); max_len = 24; asn = 64498 }

v_text : PrefixText v.prefix (codes "192.0.2.0/24")
unfolding digits
v_text = record {
  is_prefix = record { in_family = lit≤ tt; address = lit< tt; no_host_bits = omega arith };
  says = record { address = codes "192.0.2.0"; is_address = (lit< tt, refl); three_digits = lit< tt; text_is = refl };
}

gone_text : PrefixText gone.prefix (codes "198.51.100.0/24")
unfolding digits
gone_text = record {
  is_prefix = record { in_family = lit≤ tt; address = lit< tt; no_host_bits = omega arith };
  says = record { address = codes "198.51.100.0"; is_address = (lit< tt, refl); three_digits = lit< tt; text_is = refl };
}

w_text : PrefixText w.prefix (codes "2001:db8::/32")
unfolding digits
w_text = record {
  is_prefix = record { in_family = lit≤ tt; address = lit< tt; no_host_bits = omega arith };
  says = record {
    address = codes "2001:db8::";
    is_address = (
      lit< tt,
      inr (record {
        before = 0x2001 ∷ 0xdb8 ∷ [];
        after = [];
        zeros = 6;
        some = lit< tt;
        all_are = refl;
        left = codes "2001" ∷ codes "db8" ∷ [];
        right = [];
        before_are = search rules;
        after_are = tt;
        text_is = refl;
      }),
    );
    three_digits = lit< tt;
    text_is = refl;
  };
}

-- They are texts of an entry too.
v_spelled : SpellsPrefix v.prefix (codes "192.0.2.0/24")
v_spelled = plain_spells (codes "192.0.2.0/24") v.prefix v_text

gone_spelled : SpellsPrefix gone.prefix (codes "198.51.100.0/24")
gone_spelled = plain_spells (codes "198.51.100.0/24") gone.prefix gone_text

w_spelled : SpellsPrefix w.prefix (codes "2001:db8::/32")
w_spelled = plain_spells (codes "2001:db8::/32") w.prefix w_text

-- what an entry lists
abbrev listed : Payload → Option ℕ → ExportEntry
listed p end = record { payload = p; expires = end }

abbrev both : VrpSet
both = set_of (v ∷ w ∷ [])

both_ascend : IsStrictlySortedBy vrp_cmp (v ∷ w ∷ [])
unfolding IsStrictlySortedBy
both_ascend = ((refl, tt), (tt, tt))

both_within : size both ≤ 16777215
both_within = omega (arith, size-set_of (v ∷ w ∷ []) both_ascend)

abbrev one_time : List ℕ
one_time = codes "2023-11-14T22:10:00Z"

its_second : IsTimeOf (Some one_time) (Some 1699999800)
unfolding is_moment days_of_months days_of_years
its_second = (one_time, refl, (told_moment 2023 11 14 22 10 0, record { text_is = refl; real = refl }, refl))

v_payload : IsPayload v
v_payload = record { prefix = v_text.is_prefix; not_shorter = lit≤ tt; in_family = lit≤ tt; asn = lit< tt }

w_payload : IsPayload w
w_payload = record { prefix = w_text.is_prefix; not_shorter = lit≤ tt; in_family = lit≤ tt; asn = lit< tt }

-- ---- the files

-- as rpki-client writes it: of three entries one expires at the moment
abbrev rpki_client : List ℕ
rpki_client = codes "{\"metadata\":{\"buildtime\":\"2023-11-14T22:10:00Z\",\"elapsedtime\":9,\"nonfunc_cas\":[]},\"roas\":[{\"asn\":64496,\"prefix\":\"192.0.2.0/24\",\"maxLength\":24,\"ta\":\"ripe\",\"expires\":1700050000},{\"asn\":64498,\"prefix\":\"198.51.100.0/24\",\"maxLength\":24,\"ta\":\"arin\",\"expires\":1700000000},{\"asn\":64497,\"prefix\":\"2001:db8::/32\",\"maxLength\":48,\"ta\":\"apnic\",\"expires\":1700040000}],\"bgpsec_keys\":[],\"aspas\":[{\"customer_asid\":1,\"providers\":[2,3]}]}"

abbrev rpki_client_items : Items
rpki_client_items =
    item (object (member (codes "asn") (number (unsigned 64496)) (member (codes "expires") (number (unsigned 1700050000)) (member (codes "maxLength") (number (unsigned 24)) (member (codes "prefix") (string (codes "192.0.2.0/24")) (member (codes "ta") (string (codes "ripe")) no_members))))))
    (item (object (member (codes "asn") (number (unsigned 64498)) (member (codes "expires") (number (unsigned 1700000000)) (member (codes "maxLength") (number (unsigned 24)) (member (codes "prefix") (string (codes "198.51.100.0/24")) (member (codes "ta") (string (codes "arin")) no_members))))))
    (item (object (member (codes "asn") (number (unsigned 64497)) (member (codes "expires") (number (unsigned 1700040000)) (member (codes "maxLength") (number (unsigned 48)) (member (codes "prefix") (string (codes "2001:db8::/32")) (member (codes "ta") (string (codes "apnic")) no_members)))))) no_items))

abbrev rpki_client_value : Data
rpki_client_value = object (member (codes "aspas") (array (item (object (member (codes "customer_asid") (number (unsigned 1)) (member (codes "providers") (array (item (number (unsigned 2)) (item (number (unsigned 3)) no_items))) no_members))) no_items)) (member (codes "bgpsec_keys") (array no_items) (member (codes "metadata") (object (member (codes "buildtime") (string (codes "2023-11-14T22:10:00Z")) (member (codes "elapsedtime") (number (unsigned 9)) (member (codes "nonfunc_cas") (array no_items) no_members)))) (member (codes "roas") (array rpki_client_items) no_members))))

rpki_client_read : json.read rpki_client ≡ Some rpki_client_value
unfolding serde_json_on_literals
rpki_client_read = refl

rpki_client_once : ¬ (Repeats rpki_client)
unfolding json_on_literals
rpki_client_once = stand_once rpki_client refl

abbrev rpki_client_listed : List ExportEntry
rpki_client_listed = listed v (Some 1700050000) ∷ listed gone (Some 1700000000) ∷ listed w (Some 1700040000) ∷ []

rpki_client_entries : AreEntries rpki_client_items rpki_client_listed
unfolding digits
rpki_client_entries = (
  (refl, record { asn = (lit< tt, refl); prefix = (codes "192.0.2.0/24", refl, v_spelled); max_len = (refl, lit≤ tt, lit≤ tt); expires = refl }),
  (
    (refl, record { asn = (lit< tt, refl); prefix = (codes "198.51.100.0/24", refl, gone_spelled); max_len = (refl, lit≤ tt, lit≤ tt); expires = refl }),
    ((refl, record { asn = (lit< tt, refl); prefix = (codes "2001:db8::/32", refl, w_spelled); max_len = (refl, lit≤ tt, lit≤ tt); expires = refl }), tt),
  ),
)

rpki_client_row : IsExport rpki_client 1700000000 (record { set = both; expired = 1; built = Some 1699999800 })
rpki_client_row = record {
  value = rpki_client_value;
  reads = (utf8 rpki_client refl, rpki_client_read);
  names_once = rpki_client_once;
  entries = rpki_client_listed;
  lists = inr (record { items = rpki_client_items; roas_are = refl; entries = rpki_client_entries });
  set_is = refl;
  within_limit = both_within;
  expired_is = refl;
  built_is = its_second;
}

-- as Routinator writes it
abbrev routinator : List ℕ
routinator = codes "{\"metadata\":{\"generated\":1699999900,\"generatedTime\":\"2023-11-14T22:11:40Z\"},\"roas\":[{\"asn\":\"AS64496\",\"prefix\":\"192.0.2.0/24\",\"maxLength\":24,\"ta\":\"ripe\"},{\"asn\":\"AS64497\",\"prefix\":\"2001:db8::/32\",\"maxLength\":48,\"ta\":\"apnic\"}]}"

abbrev routinator_items : Items
routinator_items =
    item (object (member (codes "asn") (string (codes "AS64496")) (member (codes "maxLength") (number (unsigned 24)) (member (codes "prefix") (string (codes "192.0.2.0/24")) (member (codes "ta") (string (codes "ripe")) no_members)))))
    (item (object (member (codes "asn") (string (codes "AS64497")) (member (codes "maxLength") (number (unsigned 48)) (member (codes "prefix") (string (codes "2001:db8::/32")) (member (codes "ta") (string (codes "apnic")) no_members))))) no_items)

abbrev routinator_value : Data
routinator_value = object (member (codes "metadata") (object (member (codes "generated") (number (unsigned 1699999900)) (member (codes "generatedTime") (string (codes "2023-11-14T22:11:40Z")) no_members))) (member (codes "roas") (array routinator_items) no_members))

routinator_read : json.read routinator ≡ Some routinator_value
unfolding serde_json_on_literals
routinator_read = refl

routinator_once : ¬ (Repeats routinator)
unfolding json_on_literals
routinator_once = stand_once routinator refl

abbrev routinator_listed : List ExportEntry
routinator_listed = listed v None ∷ listed w None ∷ []

routinator_entries : AreEntries routinator_items routinator_listed
unfolding digits
routinator_entries = (
  (refl, record { asn = (lit< tt, (codes "AS64496", refl, inr refl)); prefix = (codes "192.0.2.0/24", refl, v_spelled); max_len = (refl, lit≤ tt, lit≤ tt); expires = refl }),
  ((refl, record { asn = (lit< tt, (codes "AS64497", refl, inr refl)); prefix = (codes "2001:db8::/32", refl, w_spelled); max_len = (refl, lit≤ tt, lit≤ tt); expires = refl }), tt),
)

routinator_row : IsExport routinator 1700000000 (record { set = both; expired = 0; built = Some 1699999900 })
routinator_row = record {
  value = routinator_value;
  reads = (utf8 routinator refl, routinator_read);
  names_once = routinator_once;
  entries = routinator_listed;
  lists = inr (record { items = routinator_items; roas_are = refl; entries = routinator_entries });
  set_is = refl;
  within_limit = both_within;
  expired_is = refl;
  built_is = refl;
}

-- as FORT writes it
abbrev fort : List ℕ
fort = codes "{ \"roas\" : [\n{ \"asn\" : \"AS64496\", \"prefix\" : \"192.0.2.0/24\", \"maxLength\" : 24 },\n{ \"asn\" : \"AS64497\", \"prefix\" : \"2001:db8::/32\", \"maxLength\" : 48 }\n],\n\"router-keys\" : [ ] }\n"

abbrev fort_items : Items
fort_items =
    item (object (member (codes "asn") (string (codes "AS64496")) (member (codes "maxLength") (number (unsigned 24)) (member (codes "prefix") (string (codes "192.0.2.0/24")) no_members))))
    (item (object (member (codes "asn") (string (codes "AS64497")) (member (codes "maxLength") (number (unsigned 48)) (member (codes "prefix") (string (codes "2001:db8::/32")) no_members)))) no_items)

abbrev fort_value : Data
fort_value = object (member (codes "roas") (array fort_items) (member (codes "router-keys") (array no_items) no_members))

fort_read : json.read fort ≡ Some fort_value
unfolding serde_json_on_literals
fort_read = refl

fort_once : ¬ (Repeats fort)
unfolding json_on_literals
fort_once = stand_once fort refl

abbrev fort_listed : List ExportEntry
fort_listed = listed v None ∷ listed w None ∷ []

fort_entries : AreEntries fort_items fort_listed
unfolding digits
fort_entries = (
  (refl, record { asn = (lit< tt, (codes "AS64496", refl, inr refl)); prefix = (codes "192.0.2.0/24", refl, v_spelled); max_len = (refl, lit≤ tt, lit≤ tt); expires = refl }),
  ((refl, record { asn = (lit< tt, (codes "AS64497", refl, inr refl)); prefix = (codes "2001:db8::/32", refl, w_spelled); max_len = (refl, lit≤ tt, lit≤ tt); expires = refl }), tt),
)

fort_row : IsExport fort 1700000000 (record { set = both; expired = 0; built = None })
fort_row = record {
  value = fort_value;
  reads = (utf8 fort refl, fort_read);
  names_once = fort_once;
  entries = fort_listed;
  lists = inr (record { items = fort_items; roas_are = refl; entries = fort_entries });
  set_is = refl;
  within_limit = both_within;
  expired_is = refl;
  built_is = λ t e m says. absurd (cc);
}

-- as StayRTR writes it
abbrev stayrtr : List ℕ
stayrtr = codes "{\"metadata\":{\"vrps\":2,\"buildtime\":\"2023-11-14T22:10:00Z\"},\"roas\":[{\"prefix\":\"192.0.2.0/24\",\"maxLength\":24,\"asn\":64496,\"ta\":\"ripe\",\"expires\":1700050000},{\"prefix\":\"2001:db8::/32\",\"maxLength\":48,\"asn\":\"64497\"}],\"bgpsec_keys\":null}"

abbrev stayrtr_items : Items
stayrtr_items =
    item (object (member (codes "asn") (number (unsigned 64496)) (member (codes "expires") (number (unsigned 1700050000)) (member (codes "maxLength") (number (unsigned 24)) (member (codes "prefix") (string (codes "192.0.2.0/24")) (member (codes "ta") (string (codes "ripe")) no_members))))))
    (item (object (member (codes "asn") (string (codes "64497")) (member (codes "maxLength") (number (unsigned 48)) (member (codes "prefix") (string (codes "2001:db8::/32")) no_members)))) no_items)

abbrev stayrtr_value : Data
stayrtr_value = object (member (codes "bgpsec_keys") null (member (codes "metadata") (object (member (codes "buildtime") (string (codes "2023-11-14T22:10:00Z")) (member (codes "vrps") (number (unsigned 2)) no_members))) (member (codes "roas") (array stayrtr_items) no_members)))

stayrtr_read : json.read stayrtr ≡ Some stayrtr_value
unfolding serde_json_on_literals
stayrtr_read = refl

stayrtr_once : ¬ (Repeats stayrtr)
unfolding json_on_literals
stayrtr_once = stand_once stayrtr refl

abbrev stayrtr_listed : List ExportEntry
stayrtr_listed = listed v (Some 1700050000) ∷ listed w None ∷ []

stayrtr_entries : AreEntries stayrtr_items stayrtr_listed
unfolding digits
stayrtr_entries = (
  (refl, record { asn = (lit< tt, refl); prefix = (codes "192.0.2.0/24", refl, v_spelled); max_len = (refl, lit≤ tt, lit≤ tt); expires = refl }),
  ((refl, record { asn = (lit< tt, (codes "64497", refl, inl refl)); prefix = (codes "2001:db8::/32", refl, w_spelled); max_len = (refl, lit≤ tt, lit≤ tt); expires = refl }), tt),
)

stayrtr_row : IsExport stayrtr 1700000000 (record { set = both; expired = 0; built = Some 1699999800 })
stayrtr_row = record {
  value = stayrtr_value;
  reads = (utf8 stayrtr refl, stayrtr_read);
  names_once = stayrtr_once;
  entries = stayrtr_listed;
  lists = inr (record { items = stayrtr_items; roas_are = refl; entries = stayrtr_entries });
  set_is = refl;
  within_limit = both_within;
  expired_is = refl;
  built_is = its_second;
}

-- as rtrdump writes it, with both times
abbrev rtrdump : List ℕ
rtrdump = codes "{\"metadata\":{\"vrps\":2,\"generated\":1699999900,\"buildtime\":\"2023-11-14T22:10:00Z\",\"sessionid\":7,\"serial\":1},\"roas\":[{\"prefix\":\"192.0.2.0/24\",\"maxLength\":24,\"asn\":64496},{\"prefix\":\"2001:db8::/32\",\"maxLength\":48,\"asn\":64497}]}"

abbrev rtrdump_items : Items
rtrdump_items =
    item (object (member (codes "asn") (number (unsigned 64496)) (member (codes "maxLength") (number (unsigned 24)) (member (codes "prefix") (string (codes "192.0.2.0/24")) no_members))))
    (item (object (member (codes "asn") (number (unsigned 64497)) (member (codes "maxLength") (number (unsigned 48)) (member (codes "prefix") (string (codes "2001:db8::/32")) no_members)))) no_items)

abbrev rtrdump_value : Data
rtrdump_value = object (member (codes "metadata") (object (member (codes "buildtime") (string (codes "2023-11-14T22:10:00Z")) (member (codes "generated") (number (unsigned 1699999900)) (member (codes "serial") (number (unsigned 1)) (member (codes "sessionid") (number (unsigned 7)) (member (codes "vrps") (number (unsigned 2)) no_members)))))) (member (codes "roas") (array rtrdump_items) no_members))

rtrdump_read : json.read rtrdump ≡ Some rtrdump_value
unfolding serde_json_on_literals
rtrdump_read = refl

rtrdump_once : ¬ (Repeats rtrdump)
unfolding json_on_literals
rtrdump_once = stand_once rtrdump refl

abbrev rtrdump_listed : List ExportEntry
rtrdump_listed = listed v None ∷ listed w None ∷ []

rtrdump_entries : AreEntries rtrdump_items rtrdump_listed
unfolding digits
rtrdump_entries = (
  (refl, record { asn = (lit< tt, refl); prefix = (codes "192.0.2.0/24", refl, v_spelled); max_len = (refl, lit≤ tt, lit≤ tt); expires = refl }),
  ((refl, record { asn = (lit< tt, refl); prefix = (codes "2001:db8::/32", refl, w_spelled); max_len = (refl, lit≤ tt, lit≤ tt); expires = refl }), tt),
)

rtrdump_row : IsExport rtrdump 1700000000 (record { set = both; expired = 0; built = Some 1699999900 })
rtrdump_row = record {
  value = rtrdump_value;
  reads = (utf8 rtrdump refl, rtrdump_read);
  names_once = rtrdump_once;
  entries = rtrdump_listed;
  lists = inr (record { items = rtrdump_items; roas_are = refl; entries = rtrdump_entries });
  set_is = refl;
  within_limit = both_within;
  expired_is = refl;
  built_is = refl;
}

-- a payload list, of which nothing expires
abbrev list : List ℕ
list = codes "[{\"asn\":64496,\"prefix\":\"192.0.2.0/24\",\"maxLength\":24},{\"asn\":64497,\"prefix\":\"2001:db8::/32\",\"maxLength\":48}]"

abbrev list_items : Items
list_items =
    item (object (member (codes "asn") (number (unsigned 64496)) (member (codes "maxLength") (number (unsigned 24)) (member (codes "prefix") (string (codes "192.0.2.0/24")) no_members))))
    (item (object (member (codes "asn") (number (unsigned 64497)) (member (codes "maxLength") (number (unsigned 48)) (member (codes "prefix") (string (codes "2001:db8::/32")) no_members)))) no_items)

list_read : json.read list ≡ Some (array list_items)
unfolding serde_json_on_literals
list_read = refl

list_once : ¬ (Repeats list)
unfolding json_on_literals
list_once = stand_once list refl

list_entries : lists.AreEntries list_items (v ∷ w ∷ [])
list_entries = (
  record { members = _; is_object = refl; three = refl; asn = refl; max_len = refl; text = codes "192.0.2.0/24"; has_text = refl; prefix = v_text; payload = v_payload },
  (record { members = _; is_object = refl; three = refl; asn = refl; max_len = refl; text = codes "2001:db8::/32"; has_text = refl; prefix = w_text; payload = w_payload }, tt),
)

list_row : IsExportUntil list 1700000000 (record { export = record { set = both; expired = 0; built = None }; until = None })
list_row = record {
  export = record {
    value = array list_items;
    reads = (utf8 list refl, list_read);
    names_once = list_once;
    entries = map lasting (v ∷ w ∷ []);
    lists = inl (record { items = list_items; is_array = refl; payloads = v ∷ w ∷ []; listed = list_entries; entries_are = refl });
    set_is = refl;
    within_limit = both_within;
    expired_is = refl;
    built_is = λ t e m says. absurd (cc);
  };
  until = refl;
}

-- no entry at all
abbrev empty : List ℕ
empty = codes "{\"roas\":[]}"

abbrev empty_value : Data
empty_value = object (member (codes "roas") (array no_items) no_members)

empty_read : json.read empty ≡ Some empty_value
unfolding serde_json_on_literals
empty_read = refl

empty_once : ¬ (Repeats empty)
unfolding json_on_literals
empty_once = stand_once empty refl

none_within : size (set_of []) ≤ 16777215
unfolding IsStrictlySortedBy
none_within = omega (arith, size-set_of [] tt)

empty_row : IsExportUntil empty 1700000000 (record { export = record { set = set_of []; expired = 0; built = None }; until = None })
empty_row = record {
  export = record {
    value = empty_value;
    reads = (utf8 empty refl, empty_read);
    names_once = empty_once;
    entries = [];
    lists = inr (record { items = no_items; roas_are = refl; entries = tt });
    set_is = refl;
    within_limit = none_within;
    expired_is = refl;
    built_is = λ t e m says. absurd (cc);
  };
  until = refl;
}

-- A name that is not read may be repeated, here `ta` in an entry and `x` in the export,
abbrev ta_twice : List ℕ
ta_twice = codes "{\"x\":1,\"roas\":[{\"asn\":64496,\"prefix\":\"192.0.2.0/24\",\"maxLength\":24,\"ta\":\"a\",\"ta\":\"b\"}],\"x\":2}"

abbrev ta_twice_items : Items
ta_twice_items =
    item (object (member (codes "asn") (number (unsigned 64496)) (member (codes "maxLength") (number (unsigned 24)) (member (codes "prefix") (string (codes "192.0.2.0/24")) (member (codes "ta") (string (codes "b")) no_members))))) no_items

abbrev ta_twice_value : Data
ta_twice_value = object (member (codes "roas") (array ta_twice_items) (member (codes "x") (number (unsigned 2)) no_members))

ta_twice_read : json.read ta_twice ≡ Some ta_twice_value
unfolding serde_json_on_literals
ta_twice_read = refl

ta_twice_once : ¬ (Repeats ta_twice)
unfolding json_on_literals
ta_twice_once = stand_once ta_twice refl

one_within : size (set_of (v ∷ [])) ≤ 16777215
unfolding IsStrictlySortedBy
one_within = omega (arith, size-set_of (v ∷ []) (tt, tt))

ta_twice_row : IsExport ta_twice 1700000000 (record { set = set_of (v ∷ []); expired = 0; built = None })
unfolding digits
ta_twice_row = record {
  value = ta_twice_value;
  reads = (utf8 ta_twice refl, ta_twice_read);
  names_once = ta_twice_once;
  entries = listed v None ∷ [];
  lists = inr (record { items = ta_twice_items; roas_are = refl; entries = ((refl, record { asn = (lit< tt, refl); prefix = (codes "192.0.2.0/24", refl, v_spelled); max_len = (refl, lit≤ tt, lit≤ tt); expires = refl }), tt) });
  set_is = refl;
  within_limit = one_within;
  expired_is = refl;
  built_is = λ t e m says. absurd (cc);
}

-- and in a payload list so may each: the last counts.
abbrev list_twice : List ℕ
list_twice = codes "[{\"asn\":1,\"asn\":64496,\"prefix\":\"192.0.2.0/24\",\"maxLength\":24}]"

abbrev list_twice_items : Items
list_twice_items = item (object (member (codes "asn") (number (unsigned 64496)) (member (codes "maxLength") (number (unsigned 24)) (member (codes "prefix") (string (codes "192.0.2.0/24")) no_members)))) no_items

list_twice_read : json.read list_twice ≡ Some (array list_twice_items)
unfolding serde_json_on_literals
list_twice_read = refl

list_twice_once : ¬ (Repeats list_twice)
unfolding json_on_literals
list_twice_once = stand_once list_twice refl

list_twice_row : IsExport list_twice 1700000000 (record { set = set_of (v ∷ []); expired = 0; built = None })
list_twice_row = record {
  value = array list_twice_items;
  reads = (utf8 list_twice refl, list_twice_read);
  names_once = list_twice_once;
  entries = map lasting (v ∷ []);
  lists = inl (record {
    items = list_twice_items;
    is_array = refl;
    payloads = v ∷ [];
    listed = (record { members = _; is_object = refl; three = refl; asn = refl; max_len = refl; text = codes "192.0.2.0/24"; has_text = refl; prefix = v_text; payload = v_payload }, tt);
    entries_are = refl;
  });
  set_is = refl;
  within_limit = one_within;
  expired_is = refl;
  built_is = λ t e m says. absurd (cc);
}

-- ---- until when they stay so

-- Of the entries of rpki-client that count the second ends first.
rpki_client_until : IsExportUntil rpki_client 1700000000 (record { export = record { set = both; expired = 1; built = Some 1699999800 }; until = Some 1700040000 })
unfolding rpki_client_row
rpki_client_until = record {
  export = rpki_client_row;
  until = (
    (1, lit< tt, refl),
    All-cons (λ s. 1700040000 ≤ s) 1700050000 (1700040000 ∷ []) (lit≤ tt) (All-cons (λ s. 1700040000 ≤ s) 1700040000 [] (lit≤ tt) (All-nil (λ s. 1700040000 ≤ s))),
  );
}

-- A second before it the bytes are the same export.
rpki_client_then : IsExport rpki_client 1700039999 (record { set = both; expired = 1; built = Some 1699999800 })
rpki_client_then = lasts rpki_client 1700000000 (record { export = record { set = both; expired = 1; built = Some 1699999800 }; until = Some 1700040000 }) rpki_client_until 1700039999 (lit≤ tt) (lit< tt)

-- ---- how long each of its payloads counts

-- The first entry ends at 1700050000, and the second at 1700040000.
rpki_client_lasting : (lasts : Vec ℕ Global) → lasts.items ≡ 1700049999 ∷ 1700039999 ∷ [] → IsExportLasting rpki_client 1700000000 (record { export = record { set = both; expired = 1; built = Some 1699999800 }; until = Some 1700040000; lasts = lasts })
unfolding rpki_client_row rpki_client_until
rpki_client_lasting lasts are = record {
  export = rpki_client_until.export;
  until = rpki_client_until.until;
  one_each = ap length are ∙ sym (size-set_of (v ∷ w ∷ []) both_ascend);
  later = λ t later small.
      (λ i. set_of (counting t (listing-set_of (v ∷ w ∷ []) both_ascend i) (are i)))
      ∙ ap set_of (counting_current 1700000000 t rpki_client_until.export.entries later small);
}

-- Of two entries with the same payload that ends later counts.
later_of_two : AreLasts (v ∷ v ∷ []) (99 ∷ 199 ∷ []) (set_of (v ∷ [])) (199 ∷ [])
unfolding IsStrictlySortedBy
later_of_two = record {
  one_each = sym (size-set_of (v ∷ []) (tt, tt));
  same = λ t small. ap (λ vs. set_of (counting t vs (199 ∷ []))) (listing-set_of (v ∷ []) (tt, tt)) ∙ by_tests (nat_le t 99) (nat_le t 199) (λ early. let yes : nat_le t 199 ≡ true = grind (arith, nat_tests) in yes);
}
  where
    twice : (s : Bool) → (s || false) ≡ (s || (s || false))
    twice true = refl
    twice false = refl

    by_tests : (a b : Bool) → (a ≡ true → b ≡ true) → set_of (cond b (v ∷ []) []) ≡ set_of (cond a (v ∷ cond b (v ∷ []) []) (cond b (v ∷ []) []))
    by_tests true true h = same_set (set_of (v ∷ [])) (set_of (v ∷ v ∷ [])) (λ q. has-set_of (v ∷ []) q ∙ twice (same_vrp q v) ∙ sym (has-set_of (v ∷ v ∷ []) q))
    by_tests true false h = absurd (let no : false ≡ true = h refl in cc)
    by_tests false b h = refl
