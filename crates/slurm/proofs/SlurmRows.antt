-- Worked rows: RFC 8416 sections 3.3.1 and 3.4.1, and each fault of an entry and of a file.
use Rattle.std.specs.Prelude.{◌≡◌, ℕ, true, false, List, [], Option, Some, None, Ok, Err, codes, refl, negsuc}
use Rattle.std.specs.Fmt.{digits}
use Rattle.std.specs.Str.{chars, is_utf8}
use Rattle.std.proofs.Common.{◌∷◌, subst, arith, inl, inr, lit<, lit≤}
use Rattle.std.proofs.lemmas.Str.{IsUtf8-from_is_utf8}
use Rattle.json.specs.Json as tree
use Rattle.json.proofs.OnLiterals.{json_on_literals}
use Rattle.serde_json.proofs.OnLiterals.{serde_json_on_literals}
use Rattle.serde_json.specs.Data.{Data, null, number, string, array, object, unsigned, negative, Items, no_items, item, Members, no_members, member}
use Rattle.prefixes.specs.Address.{IsPrefix}
use Rattle.prefixes.specs.Payload.{Payload, block_of, width_of}
use Rattle.prefixes.specs.Text.{Says}
use Rattle.prefix_texts.specs.MixedText.{SpellsPrefix}
use Rattle.prefix_texts.proofs.MixedRows.{mapped}
use Rattle.prefix_texts.proofs.Sayings.{one_saying}
use Rattle.payload_lists.proofs.Entries.{one_some}
use Rattle.prefixes.specs.declared.prefix.IpPrefix.{IpPrefix}
use Rattle.prefixes.specs.declared.prefix.IpPrefix.TheVariants.{V4, V6}
use Rattle.slurm.specs.Entries.{ReadsAssertion, ReadsEntries, ReadsFilter, ReadsKeyFilter, assertion_asn, filter_asn, key_assertion, key_filter, max_len_of}
use Rattle.slurm.specs.Exceptions.{is_filtered, matches}
use Rattle.slurm.specs.Faults.{slurm_fault_number}
use Rattle.slurm.specs.SlurmFile.{Arrays, NamesOnce, ReadsArrays, ReadsSlurm, arrays_of}
use Rattle.slurm.specs.declared.fault.SlurmEntryFault.TheVariants as why
use Rattle.slurm.specs.declared.fault.SlurmArray.TheVariants as arrays
use Rattle.slurm.specs.declared.fault.SlurmFault.TheVariants as fault
use Rattle.slurm.specs.declared.fault.SlurmObject.TheVariants as objects
use Rattle.slurm.specs.declared.filter.PrefixFilter.{PrefixFilter}
use Rattle.slurm.proofs.NamesOnce.{stand_once, stand_twice}
use lib.Utf8.{encode}

-- ---- filters (section 3.3.1)

-- 192.0.2.0/24, 192.0.2.128/25, 192.0.0.0/16, 198.51.100.0/24, 2001:db8::/32
abbrev net : IpPrefix
net = V4 (record { addr = 3221225984; len = 24 })

abbrev half : IpPrefix
half = V4 (record { addr = 3221226112; len = 25 })

abbrev wide : IpPrefix
wide = V4 (record { addr = 3221225472; len = 16 })

abbrev other : IpPrefix
other = V4 (record { addr = 3325256704; len = 24 })

abbrev six : IpPrefix
six = V6 (record { addr = 42540766411282592856903984951653826560; len = 32 })

abbrev says : IpPrefix → ℕ → Payload
says p asn = record { prefix = p; max_len = 32; asn = asn }

abbrev filter : Option IpPrefix → Option ℕ → PrefixFilter
filter p None = record { prefix = p; asn = None }
filter p (Some n) = record { prefix = p; asn = Some (record { 0 = n }) }

-- "All VRPs encompassed by prefix": the prefix and what it covers, of any AS, and not what covers it
row_prefix : (matches (filter (Some net) None) (says net 64500) ≡ true) × (matches (filter (Some net) None) (says half 0) ≡ true) × (matches (filter (Some net) None) (says wide 64500) ≡ false)
row_prefix = (refl, refl, refl)

row_family : (matches (filter (Some net) None) (says six 64500) ≡ false) × (matches (filter (Some (V6 (record { addr = 0; len = 0 }))) None) (says six 1) ≡ true)
row_family = (refl, refl)

-- "All VRPs matching ASN", in both families
row_asn : (matches (filter None (Some 64496)) (says net 64496) ≡ true) × (matches (filter None (Some 64496)) (says six 64496) ≡ true) × (matches (filter None (Some 64496)) (says net 64497) ≡ false)
row_asn = (refl, refl, refl)

-- "All VRPs encompassed by prefix, matching ASN": both
row_both : (matches (filter (Some other) (Some 64497)) (says other 64497) ≡ true) × (matches (filter (Some other) (Some 64497)) (says other 64496) ≡ false) × (matches (filter (Some other) (Some 64497)) (says net 64497) ≡ false)
row_both = (refl, refl, refl)

row_none : is_filtered [] (says net 64496) ≡ false
row_none = refl

-- ---- entries

abbrev asn : Data → Members → Members
asn d ms = member (codes "asn") d ms

abbrev comment : Data → Members → Members
comment d ms = member (codes "comment") d ms

abbrev prefix : Data → Members → Members
prefix d ms = member (codes "prefix") d ms

abbrev text : Data
text = string (codes "192.0.2.0/24")

row_filter : filter_asn (object (asn (number (unsigned 64496)) (comment (string (codes "All VRPs matching ASN")) no_members))) ≡ Ok (Some (record { 0 = 64496 }))
row_filter = refl

row_filter_prefix : filter_asn (object (prefix text no_members)) ≡ Ok None
row_filter_prefix = refl

row_no_object : (filter_asn (array no_items) ≡ Err why.NoObject) × (assertion_asn null ≡ Err why.NoObject)
row_no_object = (refl, refl)

row_other_key : (filter_asn (object (asn (number (unsigned 1)) (member (codes "maxPrefixLength") (number (unsigned 24)) no_members))) ≡ Err why.OtherKey)
    × (assertion_asn (object (asn (number (unsigned 1)) (member (codes "maxLength") (number (unsigned 24)) (prefix text no_members)))) ≡ Err why.OtherKey)
row_other_key = (refl, refl)

row_neither : (filter_asn (object no_members) ≡ Err why.NeitherKey) × (filter_asn (object (comment null no_members)) ≡ Err why.NeitherKey)
row_neither = (refl, refl)

-- an AS as a text, -1, 2^32, and the greatest
row_bad_asn : (filter_asn (object (asn (string (codes "64496")) no_members)) ≡ Err why.Asn) × (filter_asn (object (asn (number (negative (negsuc 0))) no_members)) ≡ Err why.Asn)
    × (filter_asn (object (asn (number (unsigned 4294967296)) no_members)) ≡ Err why.Asn)
row_bad_asn = (refl, refl, refl)

row_greatest_asn : filter_asn (object (asn (number (unsigned 4294967295)) no_members)) ≡ Ok (Some (record { 0 = 4294967295 }))
row_greatest_asn = refl

-- The AS is judged before the comment.
row_comment : (filter_asn (object (asn (number (unsigned 1)) (comment null no_members))) ≡ Err why.Comment) × (filter_asn (object (asn null (comment null no_members))) ≡ Err why.Asn)
row_comment = (refl, refl)

-- An assertion has an AS.
row_assertion : (assertion_asn (object (prefix text no_members)) ≡ Err why.Asn) × (assertion_asn (object (asn (number (unsigned 64496)) (prefix text no_members))) ≡ Ok (record { 0 = 64496 }))
row_assertion = (refl, refl)

-- Its comment is a text, and judged behind its AS.
row_assertion_comment : (assertion_asn (object (asn (number (unsigned 1)) (comment null (prefix text no_members)))) ≡ Err why.Comment) × (assertion_asn (object (asn null (comment null (prefix text no_members)))) ≡ Err why.Asn)
row_assertion_comment = (refl, refl)

-- .. and before its prefix.
row_assertion_comment_first : assertion_asn (object (asn (number (unsigned 1)) (comment null (prefix null no_members)))) ≡ Err why.Comment
row_assertion_comment_first = refl

-- An absent maximum is the length; a text is none.
row_maximum : (max_len_of (object (prefix text no_members)) 24 ≡ Some 24) × (max_len_of (object (member (codes "maxPrefixLength") (number (unsigned 48)) no_members)) 32 ≡ Some 48)
    × (max_len_of (object (member (codes "maxPrefixLength") (string (codes "24")) no_members)) 24 ≡ None)
row_maximum = (refl, refl, refl)

-- an entry of an AS and a prefix
abbrev of_text : Data → Members → Data
of_text d ms = object (asn (number (unsigned 1)) (prefix d ms))

-- A host bit: no text of a prefix, in a filter or an assertion
host_bit : (p : IpPrefix) → ¬ (SpellsPrefix p (codes "192.0.2.1/24"))
unfolding digits
host_bit p h = let same = one_saying (codes "192.0.2.1/24") p (V4 (record { addr = 3221225985; len = 24 })) h.says says in bits (subst (λ q. IsPrefix (width_of q) (block_of q)) same h.is_prefix)
  where
    says : Says (V4 (record { addr = 3221225985; len = 24 })) (codes "192.0.2.1/24")
    says = record { address = codes "192.0.2.1"; is_address = (lit< tt, refl); three_digits = lit< tt; text_is = refl }

    bits : IsPrefix 32 (record { addr = 3221225985; len = 24 }) → ⊥
    bits k = absurd (omega (arith, k.no_host_bits))

row_host_bit : ReadsFilter (object (prefix (string (codes "192.0.2.1/24")) no_members)) (Err why.Prefix) × ReadsAssertion (of_text (string (codes "192.0.2.1/24")) no_members) (Err why.Prefix)
row_host_bit = (
  (refl, refl, λ p h. host_bit p (subst (λ t. SpellsPrefix p t) (one_some h.0 (codes "192.0.2.1/24") (Some (codes "192.0.2.1/24")) h.1 refl) h.2)),
  λ p h. host_bit p (subst (λ t. SpellsPrefix p t) (one_some h.0 (codes "192.0.2.1/24") (Some (codes "192.0.2.1/24")) h.1 refl) h.2),
)

-- no text, and no prefix at all
row_no_text : ReadsFilter (object (prefix (number (unsigned 3)) no_members)) (Err why.Prefix) × ReadsAssertion (object (asn (number (unsigned 1)) no_members)) (Err why.Prefix)
row_no_text = ((refl, refl, λ p h. absurd (cc)), λ p h. absurd (cc))

-- The comment is judged before the prefix.
row_comment_first : filter_asn (of_text (number (unsigned 3)) (comment (number (unsigned 2)) no_members)) ≡ Err why.Comment
row_comment_first = refl

net_text : SpellsPrefix net (codes "192.0.2.0/24")
unfolding digits
net_text = record {
  is_prefix = record { in_family = lit≤ tt; address = lit< tt; no_host_bits = omega arith };
  says = record { address = codes "192.0.2.0"; is_address = (lit< tt, refl); three_digits = lit< tt; text_is = refl };
}

-- an IPv6 address with a dotted tail
abbrev mapped_net : IpPrefix
mapped_net = V6 (record { addr = 0xffff00000000; len = 96 })

mapped_text : SpellsPrefix mapped_net (codes "::ffff:0.0.0.0/96")
mapped_text = record { is_prefix = record { in_family = lit≤ tt; address = lit< tt; no_host_bits = omega arith }; says = inr mapped }

row_mapped : ReadsFilter (object (prefix (string (codes "::ffff:0.0.0.0/96")) no_members)) (Ok (filter (Some mapped_net) None))
    × ReadsAssertion (of_text (string (codes "::ffff:0.0.0.0/96")) no_members) (Ok (record { prefix = mapped_net; max_len = 96; asn = 1 }))
row_mapped = ((refl, (codes "::ffff:0.0.0.0/96", refl, mapped_text)), (refl, (codes "::ffff:0.0.0.0/96", refl, mapped_text), (refl, lit≤ tt, lit≤ tt)))

abbrev up_to : Data → Data
up_to d = of_text text (member (codes "maxPrefixLength") d no_members)

-- a maximum below the length, over the width, and one that is a text
row_no_maximum : ReadsAssertion (up_to (number (unsigned 23))) (Err why.MaxLength) × ReadsAssertion (up_to (number (unsigned 33))) (Err why.MaxLength) × ReadsAssertion (up_to (string (codes "24"))) (Err why.MaxLength)
row_no_maximum = (
  (net, (codes "192.0.2.0/24", refl, net_text), λ m h. let is : 23 ≡ m = one_some 23 m (Some 23) refl h.0 in absurd (omega (arith, is, h.1))),
  (net, (codes "192.0.2.0/24", refl, net_text), λ m h. let is : 33 ≡ m = one_some 33 m (Some 33) refl h.0 in absurd (omega (arith, is, h.2))),
  (net, (codes "192.0.2.0/24", refl, net_text), λ m h. absurd (cc)),
)

-- with its own maximum, and without one
row_own_maximum : ReadsAssertion (up_to (number (unsigned 32))) (Ok (record { prefix = net; max_len = 32; asn = 1 })) × ReadsAssertion (of_text text no_members) (Ok (record { prefix = net; max_len = 24; asn = 1 }))
row_own_maximum = ((refl, (codes "192.0.2.0/24", refl, net_text), (refl, lit≤ tt, lit≤ tt)), (refl, (codes "192.0.2.0/24", refl, net_text), (refl, lit≤ tt, lit≤ tt)))

-- ---- on BGPsec (sections 3.3.2 and 3.4.2)

abbrev ski : Data → Members → Members
ski d ms = member (codes "SKI") d ms

abbrev router_key : Data → Members → Members
router_key d ms = member (codes "routerPublicKey") d ms

abbrev an_ski : Data
an_ski = string (codes "Zm9v")

-- "All keys for ASN", "Key matching Router SKI", "Key for ASN 64497 matching Router SKI"
row_key_filter : (key_filter (object (asn (number (unsigned 64496)) (comment (string (codes "All keys for ASN")) no_members))) ≡ Ok (Some (record { 0 = 64496 })))
    × (key_filter (object (ski an_ski no_members)) ≡ Ok None) × (key_filter (object (ski an_ski (asn (number (unsigned 64497)) no_members))) ≡ Ok (Some (record { 0 = 64497 })))
row_key_filter = (refl, refl, refl)

row_no_key_filter : (key_filter (array no_items) ≡ Err why.NoObject) × (key_filter (object no_members) ≡ Err why.NeitherSki) × (key_filter (object (comment an_ski no_members)) ≡ Err why.NeitherSki)
    × (key_filter (object (asn (number (unsigned 1)) (router_key an_ski no_members))) ≡ Err why.OtherKey) × (key_filter (object (prefix text no_members)) ≡ Err why.OtherKey)
row_no_key_filter = (refl, refl, refl, refl, refl)

-- The AS is judged before the comment, and the comment before the SKI.
row_key_filter_order : (key_filter (object (ski null (asn (number (unsigned 4294967296)) (comment null no_members)))) ≡ Err why.Asn)
    × (key_filter (object (ski null (asn (number (unsigned 4294967295)) (comment null no_members)))) ≡ Err why.Comment)
    × (key_filter (object (ski null (asn (number (unsigned 4294967295)) no_members))) ≡ Err why.Ski)
row_key_filter_order = (refl, refl, refl)

-- an assertion of an AS, an SKI and a key
abbrev of_key : Data → Data → Data → Members → Data
of_key n s k ms = object (ski s (asn n (router_key k ms)))

row_key_assertion : (key_assertion (of_key (number (unsigned 64496)) an_ski an_ski no_members) ≡ Ok (record { 0 = 64496 }))
    × (key_assertion (of_key (number (unsigned 64496)) an_ski an_ski (comment an_ski no_members)) ≡ Ok (record { 0 = 64496 }))
row_key_assertion = (refl, refl)

-- Each of the three is needed, and no other may be there.
row_no_key_assertion : (key_assertion null ≡ Err why.NoObject) × (key_assertion (object (ski an_ski (router_key an_ski no_members))) ≡ Err why.Asn)
    × (key_assertion (object (asn (number (unsigned 1)) (router_key an_ski no_members))) ≡ Err why.Ski) × (key_assertion (object (ski an_ski (asn (number (unsigned 1)) no_members))) ≡ Err why.RouterPublicKey)
    × (key_assertion (of_key null null null (prefix null no_members)) ≡ Err why.OtherKey)
row_no_key_assertion = (refl, refl, refl, refl, refl)

-- the AS, the comment, the SKI, the key
row_key_assertion_order : (key_assertion (of_key null null null (comment null no_members)) ≡ Err why.Asn)
    × (key_assertion (of_key (number (unsigned 1)) null null (comment null no_members)) ≡ Err why.Comment)
    × (key_assertion (of_key (number (unsigned 1)) null null no_members) ≡ Err why.Ski) × (key_assertion (of_key (number (unsigned 1)) an_ski null no_members) ≡ Err why.RouterPublicKey)
row_key_assertion_order = (refl, refl, refl, refl)

-- ---- files (section 3.2)

abbrev pair : List ℕ → Data → List ℕ → Data → Data
pair one d another e = object (member one d (member another e no_members))

abbrev filters : Data → Data → Data
filters d e = pair (codes "prefixFilters") d (codes "bgpsecFilters") e

abbrev assertions : Data → Data → Data
assertions d e = pair (codes "prefixAssertions") d (codes "bgpsecAssertions") e

abbrev file : Data → Data → Data → Data
file version one two = object (member (codes "slurmVersion") version (member (codes "validationOutputFilters") one (member (codes "locallyAddedAssertions") two no_members)))

abbrev none : Data
none = array no_items

abbrev one_item : Items
one_item = item null no_items

row_file : arrays_of (file (number (unsigned 1)) (filters (array one_item) none) (assertions none (array one_item)))
    ≡ Ok (record { prefix_filters = one_item; bgpsec_filters = no_items; prefix_assertions = no_items; bgpsec_assertions = one_item })
row_file = refl

row_version : (arrays_of (file (number (unsigned 2)) null null) ≡ Err fault.Version) × (arrays_of (file (string (codes "1")) null null) ≡ Err fault.Version)
row_version = (refl, refl)

-- The versions beside 1
row_version_0 : arrays_of (file (number (unsigned 0)) null null) ≡ Err fault.Version
row_version_0 = refl

-- three members, of which one is no member of a file; and two, of which one is none of that object
row_another_three : arrays_of (object (member (codes "slurmVersion") (number (unsigned 1)) (member (codes "validationOutputFilters") (filters none none) (member (codes "more") null no_members)))) ≡ Err (fault.Members objects.File)
row_another_three = refl

row_another_two : (arrays_of (file (number (unsigned 1)) (pair (codes "prefixFilters") none (codes "more") none) null) ≡ Err (fault.Members objects.Filters))
    × (arrays_of (file (number (unsigned 1)) (filters none none) (pair (codes "more") none (codes "bgpsecAssertions") none)) ≡ Err (fault.Members objects.Assertions))
row_another_two = (refl, refl)

row_members : (arrays_of none ≡ Err (fault.Members objects.File)) × (arrays_of (object (member (codes "slurmVersion") (number (unsigned 1)) no_members)) ≡ Err (fault.Members objects.File))
    × (arrays_of (file (number (unsigned 1)) (object no_members) null) ≡ Err (fault.Members objects.Filters)) × (arrays_of (file (number (unsigned 1)) (filters null null) null) ≡ Err (fault.Members objects.Assertions))
row_members = (refl, refl, refl, refl)

-- Another member is told before another version, and one of the filters' object before its arrays.
row_more : (arrays_of (object (member (codes "slurmVersion") (number (unsigned 2)) (member (codes "validationOutputFilters") none (member (codes "locallyAddedAssertions") none (member (codes "more") null no_members))))) ≡ Err (fault.Members objects.File))
    × (arrays_of (file (number (unsigned 1)) (object (member (codes "prefixFilters") null (member (codes "bgpsecFilters") null (member (codes "more") null no_members)))) (assertions null null)) ≡ Err (fault.Members objects.Filters))
    × (arrays_of (file (number (unsigned 1)) (filters null null) (object (member (codes "prefixAssertions") null (member (codes "bgpsecAssertions") null (member (codes "more") null no_members))))) ≡ Err (fault.Members objects.Assertions))
row_more = (refl, refl, refl)

-- An array that is none is told before an entry of another.
row_array_first : arrays_of (file (number (unsigned 1)) (filters (array one_item) (array one_item)) (assertions (array one_item) null)) ≡ Err (fault.NoArray arrays.BgpsecAssertions)
row_array_first = refl

row_arrays : (arrays_of (file (number (unsigned 1)) (filters null null) (assertions null null)) ≡ Err (fault.NoArray arrays.PrefixFilters))
    × (arrays_of (file (number (unsigned 1)) (filters none null) (assertions null null)) ≡ Err (fault.NoArray arrays.BgpsecFilters))
    × (arrays_of (file (number (unsigned 1)) (filters none none) (assertions null null)) ≡ Err (fault.NoArray arrays.PrefixAssertions))
    × (arrays_of (file (number (unsigned 1)) (filters none none) (assertions none null)) ≡ Err (fault.NoArray arrays.BgpsecAssertions))
row_arrays = (refl, refl, refl, refl)

-- Of two arrays with a wrong entry the first is told, with the index of its first one.
abbrev arrays_with : Items → Items → Arrays
arrays_with filters keys = record { prefix_filters = filters; bgpsec_filters = keys; prefix_assertions = keys; bgpsec_assertions = keys }

abbrev of_as_1 : Data
of_as_1 = object (asn (number (unsigned 1)) no_members)

abbrev second_wrong : Items
second_wrong = item of_as_1 (item null no_items)

the_second : ReadsEntries ReadsFilter arrays.PrefixFilters second_wrong (Err (fault.Entry arrays.PrefixFilters 1 why.NoObject))
the_second = (refl, record { before = of_as_1 ∷ []; entry = null; after = []; parts = refl; index_is = refl; values = filter None (Some 1) ∷ []; are_read = ((refl, refl), tt); fault = refl })

no_key : ReadsEntries ReadsKeyFilter arrays.BgpsecFilters one_item (Err (fault.Entry arrays.BgpsecFilters 0 why.NoObject))
no_key = (refl, record { before = []; entry = null; after = []; parts = refl; index_is = refl; values = []; are_read = tt; fault = refl })

row_entries : ReadsArrays (arrays_with second_wrong one_item) (Err (fault.Entry arrays.PrefixFilters 1 why.NoObject)) × ReadsArrays (arrays_with no_items one_item) (Err (fault.Entry arrays.BgpsecFilters 0 why.NoObject))
row_entries = (inl the_second, inr ([], tt, inl no_key))

row_numbers : (slurm_fault_number fault.NotJson ≡ 1) × (slurm_fault_number (fault.Members objects.File) ≡ 2) × (slurm_fault_number fault.Version ≡ 3) × (slurm_fault_number (fault.NoArray arrays.PrefixFilters) ≡ 4)
    × (slurm_fault_number (fault.Entry arrays.PrefixFilters 0 why.Asn) ≡ 5) × (slurm_fault_number fault.TooMany ≡ 6) × (slurm_fault_number fault.Memory ≡ 7) × (slurm_fault_number fault.Repeated ≡ 8)
row_numbers = (refl, refl, refl, refl, refl, refl, refl, refl)

-- ---- names that stand twice

abbrev asn_twice : List ℕ
asn_twice = codes "{\"asn\":1,\"asn\":1}"

row_twice : ¬ (NamesOnce asn_twice)
unfolding json_on_literals
row_twice = stand_twice asn_twice (tree.object (tree.member (codes "asn") (tree.number (codes "1")) (tree.member (codes "asn") (tree.number (codes "1")) tree.no_members))) refl (λ h. h.0 0 1 [] (lit< tt) (lit< tt) refl)

-- .. once by an escape, and within another object
abbrev within_twice : List ℕ
within_twice = codes "{\"a\":[{\"a\":1,\"\\u0061\":2}]}"

row_within_twice : ¬ (NamesOnce within_twice)
unfolding json_on_literals
row_within_twice =
    stand_twice within_twice
    (tree.object (tree.member (codes "a") (tree.array (tree.item (tree.object (tree.member (codes "a") (tree.number (codes "1")) (tree.member (codes "a") (tree.number (codes "2")) tree.no_members))) tree.no_items)) tree.no_members))
    refl (λ h. h.1.0.0.0 0 1 [] (lit< tt) (lit< tt) refl)

-- one in each of two objects, of which one is in the other
row_once : NamesOnce (codes "{\"a\":[{\"a\":1},{\"a\":2}],\"b\":{\"a\":3}}")
unfolding json_on_literals
row_once = stand_once (codes "{\"a\":[{\"a\":1},{\"a\":2}],\"b\":{\"a\":3}}") refl

-- It is told before another version, and behind a text that is none.
row_repeated : ReadsSlurm asn_twice (Err fault.Repeated)
unfolding is_utf8 chars encode serde_json_on_literals
row_repeated = inr (object (asn (number (unsigned 1)) no_members), (IsUtf8-from_is_utf8 asn_twice refl, refl), inr (row_twice, refl))
