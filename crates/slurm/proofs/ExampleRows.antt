-- The full example of RFC 8416 section 3.5, and its effect.
use Rattle.std.proofs.Common.{◌≡◌, ℕ, true, false, nat_lt, if◌then◌else◌, List, [], ◌∷◌, Option, Some, None, Ok, Err, refl, sym, ap, ◌∙◌, ◌&&◌, ◌||◌, arith, codes, inl, inr, lit<, lit≤, rules}
use Rattle.std.specs.Fmt.{digits}
use Rattle.std.specs.List.Sorted.{IsStrictlySortedBy}
use Rattle.std.specs.Str.{IsUtf8, chars, is_utf8}
use Rattle.std.proofs.lemmas.Str.{IsUtf8-from_is_utf8}
use Rattle.serde_json.specs.Data.{Data, number, string, array, object, unsigned, Items, no_items, item, no_members, member}
use Rattle.serde_json.specs.Read as json
use Rattle.json.proofs.OnLiterals.{json_on_literals}
use Rattle.serde_json.proofs.OnLiterals.{serde_json_on_literals}
use Rattle.prefixes.specs.Payload.{Payload, vrp_cmp}
use Rattle.prefix_texts.specs.MixedText.{SpellsPrefix}
use Rattle.prefixes.specs.declared.asn.Asn.{Asn}
use Rattle.prefixes.specs.declared.prefix.IpPrefix.{IpPrefix}
use Rattle.prefixes.specs.declared.prefix.IpPrefix.TheVariants.{V4, V6}
use Rattle.vrps.specs.VrpSet.{VrpSet, has, set_of}
use Rattle.vrps.proofs.SetLaws.{has-set_of, size-set_of}
use Rattle.slurm.specs.Entries.{ReadsAssertion, ReadsEntries, ReadsFilter, ReadsKeyAssertion, ReadsKeyFilter}
use Rattle.slurm.specs.Exceptions.{Exceptions, excepted, is_filtered}
use Rattle.slurm.specs.Relations.{IsSlurmFile}
use Rattle.slurm.specs.SlurmFile.{NamesOnce, ReadsSlurm, limited}
use Rattle.slurm.specs.declared.fault.SlurmArray.TheVariants as arrays
use Rattle.slurm.specs.declared.fault.SlurmFault.TheVariants as fault
use Rattle.slurm.specs.declared.filter.PrefixFilter.{PrefixFilter}
use Rattle.slurm.proofs.Exactly.{reads_exactly}
use Rattle.slurm.proofs.ExceptionLaws.{assertions_stay, is_excepted}
use Rattle.slurm.proofs.NamesOnce.{stand_once}
use Rattle.std.proofs.Math.Bool.{and-false}
use lib.Utf8.{encode}

-- ---- its prefixes: 192.0.2.0/24, 198.51.100.0/24 and 2001:DB8::/32

abbrev net : IpPrefix
net = V4 (record { addr = 0xc0000200; len = 24 })

abbrev other : IpPrefix
other = V4 (record { addr = 0xc6336400; len = 24 })

abbrev six : IpPrefix
six = V6 (record { addr = 0x20010db8000000000000000000000000; len = 32 })

net_text : SpellsPrefix net (codes "192.0.2.0/24")
unfolding digits
net_text = record {
  is_prefix = record { in_family = lit≤ tt; address = lit< tt; no_host_bits = omega arith };
  says = record { address = codes "192.0.2.0"; is_address = (lit< tt, refl); three_digits = lit< tt; text_is = refl };
}

other_text : SpellsPrefix other (codes "198.51.100.0/24")
unfolding digits
other_text = record {
  is_prefix = record { in_family = lit≤ tt; address = lit< tt; no_host_bits = omega arith };
  says = record { address = codes "198.51.100.0"; is_address = (lit< tt, refl); three_digits = lit< tt; text_is = refl };
}

six_text : SpellsPrefix six (codes "2001:DB8::/32")
unfolding digits
six_text = record {
  is_prefix = record { in_family = lit≤ tt; address = lit< tt; no_host_bits = omega arith };
  says = inl (record {
    address = codes "2001:DB8::";
    is_address = (
      lit< tt,
      inr (record {
        before = 0x2001 ∷ 0xdb8 ∷ [];
        after = [];
        zeros = 6;
        some = lit< tt;
        all_are = refl;
        left = codes "2001" ∷ codes "DB8" ∷ [];
        right = [];
        before_are = search rules;
        after_are = tt;
        text_is = refl;
      }),
    );
    three_digits = lit< tt;
    text_is = refl;
  });
}

-- ---- the file

abbrev full : List ℕ
full = codes "{\n  \"slurmVersion\": 1,\n  \"validationOutputFilters\": {\n    \"prefixFilters\": [\n      {\n        \"prefix\": \"192.0.2.0/24\",\n        \"comment\": \"All VRPs encompassed by prefix\"\n      },\n      {\n        \"asn\": 64496,\n        \"comment\": \"All VRPs matching ASN\"\n      },\n      {\n        \"prefix\": \"198.51.100.0/24\",\n        \"asn\": 64497,\n        \"comment\": \"All VRPs encompassed by prefix, matching ASN\"\n      }\n    ],\n    \"bgpsecFilters\": [\n      {\n        \"asn\": 64496,\n        \"comment\": \"All keys for ASN\"\n      },\n      {\n        \"SKI\": \"Zm9v\",\n        \"comment\": \"Key matching Router SKI\"\n      },\n      {\n        \"asn\": 64497,\n        \"SKI\": \"YmFy\",\n        \"comment\": \"Key for ASN 64497 matching Router SKI\"\n      }\n    ]\n  },\n  \"locallyAddedAssertions\": {\n    \"prefixAssertions\": [\n      {\n        \"asn\": 64496,\n        \"prefix\": \"198.51.100.0/24\",\n        \"comment\": \"My other important route\"\n      },\n      {\n        \"asn\": 64496,\n        \"prefix\": \"2001:DB8::/32\",\n        \"maxPrefixLength\": 48,\n        \"comment\": \"My other important de-aggregated routes\"\n      }\n    ],\n    \"bgpsecAssertions\": [\n      {\n        \"asn\": 64496,\n        \"comment\": \"My known key for my important ASN\",\n        \"SKI\": \"<some base64 SKI>\",\n        \"routerPublicKey\": \"<some base64 public key>\"\n      }\n    ]\n  }\n}\n"

abbrev filter_items : Items
filter_items =
    item (object (member (codes "comment") (string (codes "All VRPs encompassed by prefix")) (member (codes "prefix") (string (codes "192.0.2.0/24")) no_members)))
    (item (object (member (codes "asn") (number (unsigned 64496)) (member (codes "comment") (string (codes "All VRPs matching ASN")) no_members)))
    (item (object (member (codes "asn") (number (unsigned 64497)) (member (codes "comment") (string (codes "All VRPs encompassed by prefix, matching ASN")) (member (codes "prefix") (string (codes "198.51.100.0/24")) no_members)))) no_items))

abbrev key_filter_items : Items
key_filter_items =
    item (object (member (codes "asn") (number (unsigned 64496)) (member (codes "comment") (string (codes "All keys for ASN")) no_members)))
    (item (object (member (codes "SKI") (string (codes "Zm9v")) (member (codes "comment") (string (codes "Key matching Router SKI")) no_members)))
    (item (object (member (codes "SKI") (string (codes "YmFy")) (member (codes "asn") (number (unsigned 64497)) (member (codes "comment") (string (codes "Key for ASN 64497 matching Router SKI")) no_members)))) no_items))

abbrev assertion_items : Items
assertion_items =
    item (object (member (codes "asn") (number (unsigned 64496)) (member (codes "comment") (string (codes "My other important route")) (member (codes "prefix") (string (codes "198.51.100.0/24")) no_members))))
    (item (object (member (codes "asn") (number (unsigned 64496)) (member (codes "comment") (string (codes "My other important de-aggregated routes")) (member (codes "maxPrefixLength") (number (unsigned 48)) (member (codes "prefix") (string (codes "2001:DB8::/32")) no_members))))) no_items)

abbrev key_items : Items
key_items =
    item (object (member (codes "SKI") (string (codes "<some base64 SKI>")) (member (codes "asn") (number (unsigned 64496)) (member (codes "comment") (string (codes "My known key for my important ASN")) (member (codes "routerPublicKey") (string (codes "<some base64 public key>")) no_members))))) no_items

abbrev filters_value : Data
filters_value = object (member (codes "bgpsecFilters") (array key_filter_items) (member (codes "prefixFilters") (array filter_items) no_members))

abbrev assertions_value : Data
assertions_value = object (member (codes "bgpsecAssertions") (array key_items) (member (codes "prefixAssertions") (array assertion_items) no_members))

abbrev full_value : Data
full_value = object (member (codes "locallyAddedAssertions") assertions_value (member (codes "slurmVersion") (number (unsigned 1)) (member (codes "validationOutputFilters") filters_value no_members)))

full_read : json.read full ≡ Some full_value
unfolding serde_json_on_literals
full_read = refl

-- ---- what it says

-- "All VRPs encompassed by prefix", "All VRPs matching ASN", and both
abbrev filters : List PrefixFilter
filters =
    record { prefix = Some net; asn = None } ∷ record { prefix = None; asn = Some (record { 0 = 64496 }) } ∷ record { prefix = Some other; asn = Some (record { 0 = 64497 }) } ∷ []

-- An absent maximum is the prefix length.
abbrev route : Payload
route = record { prefix = other; max_len = 24; asn = 64496 }

abbrev routes : Payload
routes = record { prefix = six; max_len = 48; asn = 64496 }

abbrev exceptions : Exceptions
exceptions = record { filters = filters; assertions = set_of (route ∷ routes ∷ []) }

filters_read : ReadsEntries ReadsFilter arrays.PrefixFilters filter_items (Ok filters)
filters_read = ((refl, (codes "192.0.2.0/24", refl, net_text)), ((refl, refl), ((refl, (codes "198.51.100.0/24", refl, other_text)), tt)))

assertions_read : ReadsEntries ReadsAssertion arrays.PrefixAssertions assertion_items (Ok (route ∷ routes ∷ []))
assertions_read = ((refl, (codes "198.51.100.0/24", refl, other_text), (refl, lit≤ tt, lit≤ tt)), ((refl, (codes "2001:DB8::/32", refl, six_text), (refl, lit≤ tt, lit≤ tt)), tt))

-- Nothing comes of the entries on BGPsec.
abbrev key_ases : List (Option Asn)
key_ases = Some (record { 0 = 64496 }) ∷ None ∷ Some (record { 0 = 64497 }) ∷ []

key_filters_read : ReadsEntries ReadsKeyFilter arrays.BgpsecFilters key_filter_items (Ok key_ases)
key_filters_read = (refl, (refl, (refl, tt)))

abbrev keys_ases : List Asn
keys_ases = record { 0 = 64496 } ∷ []

keys_read : ReadsEntries ReadsKeyAssertion arrays.BgpsecAssertions key_items (Ok keys_ases)
keys_read = (refl, tt)

two_ascend : IsStrictlySortedBy vrp_cmp (route ∷ routes ∷ [])
unfolding IsStrictlySortedBy
two_ascend = ((refl, tt), (tt, tt))

within_limit : Ok exceptions ≡ limited filters (route ∷ routes ∷ [])
within_limit = ap (λ n. if nat_lt 16777215 n then Err fault.TooMany else Ok exceptions) (sym (size-set_of (route ∷ routes ∷ []) two_ascend))

full_utf8 : IsUtf8 full
unfolding is_utf8 chars encode
full_utf8 = IsUtf8-from_is_utf8 full refl

full_once : NamesOnce full
unfolding json_on_literals
full_once = stand_once full refl

full_row : ReadsSlurm full (Ok exceptions)
full_row = (full_value, (full_utf8, full_read), inl (full_once, (filters, filters_read, (key_ases, key_filters_read, ((route ∷ routes ∷ []), assertions_read, (keys_ases, keys_read, within_limit))))))

-- .. so it is a file of these.
full_file : IsSlurmFile full exceptions
full_file = (reads_exactly full exceptions).0 full_row

-- ---- its effect (sections 3.3.1 and 3.4.1)

abbrev of : IpPrefix → ℕ → Payload
of p n = record { prefix = p; max_len = 32; asn = n }

-- what the first filter covers, and not what covers it
row_of_prefix : (is_filtered filters (of net 64500) ≡ true) × (is_filtered filters (of (V4 (record { addr = 0xc0000280; len = 25 })) 0) ≡ true) × (is_filtered filters (of (V4 (record { addr = 0xc0000000; len = 16 })) 64500) ≡ false)
row_of_prefix = (refl, refl, refl)

-- what the second says: each prefix of AS 64496
row_of_asn : (is_filtered filters (of other 64496) ≡ true) × (is_filtered filters (of six 64496) ≡ true)
row_of_asn = (refl, refl)

-- and the third: 198.51.100.0/24 of AS 64497 alone
row_of_both : (is_filtered filters (of other 64497) ≡ true) × (is_filtered filters (of other 64498) ≡ false) × (is_filtered filters (of six 64497) ≡ false)
row_of_both = (refl, refl, refl)

-- The asserted route is of an AS that is filtered, and is there.
row_asserted : (is_filtered filters route ≡ true) × ((s : VrpSet) → has (excepted exceptions s) route ≡ true)
row_asserted = (refl, λ s. assertions_stay exceptions s route (has-set_of (route ∷ routes ∷ []) route))

-- A payload that no filter matches stays, and one that is filtered and not asserted is not there.
row_stays : (s : VrpSet) → has s (of other 64498) ≡ true → has (excepted exceptions s) (of other 64498) ≡ true
row_stays s h = is_excepted exceptions s (of other 64498) ∙ ap (λ b. (b && true) || has exceptions.assertions (of other 64498)) h

row_goes : (s : VrpSet) → has (excepted exceptions s) (of net 64500) ≡ false
row_goes s = is_excepted exceptions s (of net 64500) ∙ ap (λ b. (has s (of net 64500) && false) || b) (has-set_of (route ∷ routes ∷ []) (of net 64500)) ∙ ap (λ b. b || false) (and-false (has s (of net 64500)))
