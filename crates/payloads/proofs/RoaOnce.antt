-- No ROA has two spellings.
use Rattle.std.proofs.Common.{◌≡◌, ℕ, ◌+◌, ◌≤◌, Bool, None, not, ltb, List, [], ◌∷◌, length, pos, Option, Some, sym, ap, subst, ◌∙◌, arith}
use Rattle.std.proofs.lemmas.Bool.{ltb-false}
use Rattle.std.specs.List.{last_or}
use Rattle.der_lite.specs.Der.{BitsSpell, IntSpells, is_bit_string, bit_count, head_rules}
use Rattle.der_lite.specs.Grammar.{KeepsRules, primitive, constructed, member, last, optional, each}
use Rattle.der_lite.specs.Values.{integer_between}
use Rattle.der_lite.proofs.Rules.{kept_first}
use Rattle.der_lite.proofs.Once.{Once, once_element, once_primitive, once_constructed, once_last, once_member, once_optional, once_each}
use Rattle.der_lite.proofs.FieldLaws.{once_valued}
use Rattle.der_lite.proofs.Integers.{once_between}
use Rattle.der_lite.proofs.BitStrings.{once_bits, bits_one, spelled_count}
use Rattle.prefixes.specs.Payload.{block_of, width_of}
use Rattle.prefixes.specs.declared.prefix.IpPrefix.{IpPrefix}
use Rattle.payloads.specs.declared.roa_family.AddressFamily.{AddressFamily}
use Rattle.payloads.specs.declared.roa_family.AddressFamily.TheVariants.{Ipv4, Ipv6}
use Rattle.payloads.specs.declared.roa_entry.RoaEntry.{RoaEntry}
use Rattle.payloads.specs.Roa.{no_rules, first_head, as_id, FamilySpells, family_rules, address_family, family_width, of_bits, PrefixSpells, address_rules, address, maximum_rules, max_length, entry_parts, too_many_rules, order_rules, entry_members, ip_address, not_empty, entry_behind, addresses, ip_family, ip_addr_blocks, route_origin_attestation, roa_payload}
use Rattle.payloads.specs.RoaValues.{TreeSpells}
use Rattle.payloads.proofs.RoaFields.{maximum_kept}

-- ---- a prefix has one list of bits

-- a prefix of this many bits
bits_from : (family : AddressFamily) (bits others : List Bool) → length bits ≤ family_width family → of_bits family bits ≡ of_bits family others → bits ≡ others
bits_from Ipv4 bits others h e = bits_one bits others 32 h (ap (λ (p : IpPrefix). (block_of p).len) e) (ap (λ (p : IpPrefix). (block_of p).addr) e)
bits_from Ipv6 bits others h e = bits_one bits others 128 h (ap (λ (p : IpPrefix). (block_of p).len) e) (ap (λ (p : IpPrefix). (block_of p).addr) e)

-- the bits of a spelled prefix are as many as an address has, or fewer
pub few_bits : (family : AddressFamily) (prefix : IpPrefix) (content : List ℕ) (s : PrefixSpells family prefix content) → KeepsRules (address_rules family content) → length s.bits ≤ family_width family
few_bits family prefix content s kept =
    let long : Bool = ltb (family_width family) (bit_count content) in
    let k = kept_first 4 (not (is_bit_string content)) ((10, long) ∷ []) kept in
    let within = ltb-false (family_width family) (bit_count content) (kept_first 10 long [] k.1).0 in
    omega (arith, within, spelled_count s.bits content s.spelled)

once_address : (family : AddressFamily) → Once (address family).Spells
unfolding address
once_address family =
    once_element 3 (head_rules 3) (primitive (PrefixSpells family) (address_rules family)) (once_primitive (PrefixSpells family) (address_rules family) (λ prefix a b ba bb ka kb s t.
    let same : s.bits ≡ t.bits = bits_from family s.bits t.bits (few_bits family prefix a s ka) (sym s.is ∙ t.is) in
    once_bits t.bits a b ba bb (subst (λ (bits : List Bool). BitsSpell bits a) same s.spelled) t.spelled))

-- ---- the other fields

once_as_id : Once as_id.Spells
unfolding as_id
once_as_id = once_element 2 first_head (integer_between 0 4294967295 7) (once_between 0 4294967295 7)

once_address_family : (before : Option AddressFamily) → Once (address_family before).Spells
unfolding address_family
once_address_family before = once_element 4 (head_rules 4) (primitive FamilySpells (family_rules before)) (once_primitive FamilySpells (family_rules before) (λ v a b ba bb ka kb s t. s ∙ sym t))

once_max_length : (prefix : IpPrefix) → Once (max_length prefix).Spells
unfolding max_length
once_max_length prefix =
    once_element 2 (head_rules 2) (primitive (λ n content. IntSpells (pos n) content) (maximum_rules prefix))
    (λ n a b ba bb s t. once_between (block_of prefix).len (width_of prefix) 11 n a b ba bb (s.0, (maximum_kept prefix a s.1).0) (t.0, (maximum_kept prefix b t.1).0))

-- ---- the grammar

once_entry : (family : AddressFamily) (count : ℕ) (before : Option RoaEntry) → Once (ip_address family count before).Spells
unfolding ip_address
once_entry family count before = once_element 48 (head_rules 48) (constructed (too_many_rules count) (entry_members family) (order_rules before))
    (once_constructed (too_many_rules count) (entry_members family) (order_rules before)
    (once_valued entry_parts (member (address family) (λ prefix. optional (max_length prefix)))
    (once_member (address family) (λ prefix. optional (max_length prefix)) (once_address family) (λ prefix. once_optional (max_length prefix) (once_max_length prefix)))))

once_addresses : (family : AddressFamily) (count : ℕ) → Once (addresses family count).Spells
unfolding addresses
once_addresses family count = once_element 48 (head_rules 48) (constructed not_empty (each (entry_behind family count)) no_rules)
    (once_constructed not_empty (each (entry_behind family count)) no_rules (once_each (entry_behind family count) (λ before. once_entry family (count + length before) (last_or None before))))

once_ip_family : (before : Option AddressFamily) (count : ℕ) → Once (ip_family before count).Spells
unfolding ip_family
once_ip_family before count = once_element 48 (head_rules 48) (constructed no_rules (member (address_family before) (λ family. last (addresses family count))) no_rules)
    (once_constructed no_rules (member (address_family before) (λ family. last (addresses family count))) no_rules
    (once_member (address_family before) (λ family. last (addresses family count)) (once_address_family before) (λ family. once_last (addresses family count) (once_addresses family count))))

once_blocks : Once ip_addr_blocks.Spells
unfolding ip_addr_blocks
once_blocks = once_element 48 (head_rules 48) (constructed not_empty (member (ip_family None 0) (λ first. optional (ip_family (Some first.0) (length first.1)))) no_rules)
    (once_constructed not_empty (member (ip_family None 0) (λ first. optional (ip_family (Some first.0) (length first.1)))) no_rules
    (once_member (ip_family None 0) (λ first. optional (ip_family (Some first.0) (length first.1))) (once_ip_family None 0)
    (λ first. once_optional (ip_family (Some first.0) (length first.1)) (once_ip_family (Some first.0) (length first.1)))))

once_attestation : Once route_origin_attestation.Spells
unfolding route_origin_attestation
once_attestation = once_element 48 (head_rules 48) (constructed no_rules (member as_id (λ asn. last ip_addr_blocks)) no_rules)
    (once_constructed no_rules (member as_id (λ asn. last ip_addr_blocks)) no_rules (once_member as_id (λ asn. last ip_addr_blocks) once_as_id (λ asn. once_last ip_addr_blocks once_blocks)))

-- the whole payload
pub once_tree : Once TreeSpells
unfolding TreeSpells roa_payload
once_tree = once_last route_origin_attestation once_attestation
