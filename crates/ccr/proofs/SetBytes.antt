-- The octets of a payload set are those that are written of its VRPs.
use Rattle.std.proofs.Common.{◌≡◌, ◌≢◌, ◌∙◌, ℕ, suc, ◌^◌, ◌≤◌, Bool, true, false, cond, eqb, ◌-◌, ◌%◌, List, [], ◌∷◌, ◌++◌, length, get_or, map, Option, Some, None, Ok, refl, sym, ap, subst, arith, append-nil}
use Rattle.std.specs.Prelude.{⊤}
use Rattle.std.specs.List.{AllByRecursion, last_or}
use Rattle.std.proofs.lemmas.Bool.{eq-eqb}
use Rattle.std.proofs.lemmas.List.{map-append}
use Rattle.std.proofs.Math.Nat.{mul-mod_left}
use Rattle.der_lite.specs.Place.{Place, place_of}
use Rattle.der_lite.specs.Der.{BitsSpell, IsBytes, Tlv, head_rules, length_bytes, number, tlv}
use Rattle.der_lite.specs.DerReading.{◌>>=◌, end_at, judged, octets_at}
use Rattle.der_lite.specs.Grammar.{EachSpells, KeepsRules, OptionSpells, SplitsBytes, primitive}
use Rattle.der_lite.specs.Values.{bits_number, unsigned_bytes}
use Rattle.der_lite.proofs.BitStrings.{bits_bound, bits_one, once_bits, widened}
use Rattle.der_lite.proofs.FieldLaws.{exact_last_at}
use Rattle.der_lite.proofs.Integers.{between_kept, once_between, pos_is, value_is}
use Rattle.der_lite.proofs.NumberBytes.{tlv_bytes, unsigned_are, unsigned_spells}
use Rattle.der_lite.proofs.Once.{Once, front_bytes, once_element, once_primitive}
use Rattle.der_lite.proofs.Rules.{bind_ok, judged_ok, kept_first, ok_is}
use Rattle.prefixes.specs.Address.{IsPrefix}
use Rattle.prefixes.specs.Payload.{block_of, width_of}
use Rattle.prefixes.specs.declared.prefix.IpPrefix.{IpPrefix}
use Rattle.prefixes.specs.declared.prefix.IpPrefix.TheVariants.{V4, V6}
use Rattle.payloads.specs.declared.roa_entry.RoaEntry.{RoaEntry}
use Rattle.payloads.specs.Roa.{Blocks, PrefixSpells, address, address_family, address_rules, as_id, family_number, family_rules, family_width, ip_address, max_length, of_bits}
use Rattle.payloads.specs.RoaBytes.{address_content, entry_bytes, families_bytes, family_bytes, is_of, list_bytes, maximum_bytes, roa_bytes}
use Rattle.payloads.specs.RoaEntries.{is_not_above, payload_of}
use Rattle.payloads.specs.RoaReading.{address_family_at, family_in}
use Rattle.payloads.specs.RoaValues.{RoaValue, all_entries, flat, payloads_of}
use Rattle.payloads.proofs.RoaFields.{exact_address_family, maximum_kept}
use Rattle.payloads.proofs.RoaFlats.{family_of, family_of_bits}
use Rattle.payloads.proofs.RoaOnce.{few_bits}
use Rattle.payloads.proofs.RoaPrefixes.{address_are, address_spells}
use Rattle.payloads.proofs.RoaSpellings.{family_members, family_some, list_append}
use Rattle.ccr.specs.declared.family.Family.{Family}
use Rattle.ccr.specs.declared.family.Family.TheVariants.{Ipv4, Ipv6}
use Rattle.ccr.specs.Families.{RoaFamily, of_roa}
use Rattle.ccr.specs.PayloadSet as g
use Rattle.ccr.specs.Canonical as canonical
use Rattle.ccr.specs.Canonical.{entry_of}
use Rattle.ccr.proofs.Sets.{last_more}

-- ---- bytes of parts

rest_bytes : (front rest : List ℕ) → IsBytes (front ++ rest) → IsBytes rest
rest_bytes [] rest h = h
rest_bytes (x ∷ xs) rest h = rest_bytes xs rest (λ j. h (suc j))

pub inner_bytes : (tag : ℕ) (content bytes : List ℕ) → Tlv tag content bytes → IsBytes bytes → IsBytes content
inner_bytes tag content bytes t h = rest_bytes (tag ∷ length_bytes (length content)) content (subst IsBytes t.spelled h)

pub split_bytes : (bytes front rest : List ℕ) → SplitsBytes bytes front rest → IsBytes bytes → IsBytes front × IsBytes rest
split_bytes bytes front rest s h =
    let whole = subst IsBytes s.parts h in
    (front_bytes front rest whole, rest_bytes front rest whole)

-- two parts that are others
both : (bytes front rest f r : List ℕ) → SplitsBytes bytes front rest → front ≡ f → rest ≡ r → bytes ≡ f ++ r
both bytes front rest f r s a b = s.parts ∙ ap (λ (l : List ℕ). l ++ rest) a ∙ ap (λ (l : List ℕ). f ++ l) b

-- ---- a family is one of two

family_known : (content : List ℕ) (b : Bool) → eqb (get_or content 1 0) 1 ≡ b → (f : Family) × (family_in content ≡ of_roa f)
family_known content true e = (Ipv4, ap (λ (test : Bool). cond test (of_roa Ipv4) (of_roa Ipv6)) e)
family_known content false e = (Ipv6, ap (λ (test : Bool). cond test (of_roa Ipv4) (of_roa Ipv6)) e)

family_named : (before : Option RoaFamily) (family : RoaFamily) (bytes : List ℕ) → (address_family before).Spells family bytes → (f : Family) × (family ≡ of_roa f)
unfolding address_family_at
family_named before family bytes s =
    let read = (exact_last_at (address_family before) (address_family_at before) (exact_address_family before)).again (place_of 0 bytes) family s in
    let a = bind_ok (address_family_at before (place_of 0 bytes)) (λ x. end_at x.1 >>= λ _. Ok x.0) family read in
    let b = bind_ok (end_at a.0.1) (λ _. Ok a.0.0) family a.2 in
    let c = bind_ok (octets_at (place_of 0 bytes)) (λ x. judged (family_rules before x.0) 0 (Ok (family_in x.0, x.1))) a.0 a.1 in
    let d = judged_ok (family_rules before c.0.0) 0 (Ok (family_in c.0.0, c.0.1)) a.0 c.2 in
    let is : family_in c.0.0 ≡ a.0.0 = ap (λ (y : RoaFamily × Place). y.0) (ok_is (family_in c.0.0, c.0.1) a.0 d.1) in
    let k = family_known c.0.0 (eqb (get_or c.0.0 1 0) 1) refl in
    (k.0, sym (ok_is a.0.0 family b.2) ∙ sym is ∙ k.1)

abbrev other : Family → Family
other Ipv4 = Ipv6
other Ipv6 = Ipv4

of_bits_in : (f : Family) (bits : List Bool) → (is_of (of_roa f) (of_bits (of_roa f) bits) ≡ true) × (is_of (of_roa (other f)) (of_bits (of_roa f) bits) ≡ false)
of_bits_in Ipv4 bits = (refl, refl)
of_bits_in Ipv6 bits = (refl, refl)

-- ---- an address

bits_from : (f : Family) (bits others : List Bool) → length bits ≤ family_width (of_roa f) → of_bits (of_roa f) bits ≡ of_bits (of_roa f) others → bits ≡ others
bits_from Ipv4 bits others h e = bits_one bits others 32 h (ap (λ (p : IpPrefix). (block_of p).len) e) (ap (λ (p : IpPrefix). (block_of p).addr) e)
bits_from Ipv6 bits others h e = bits_one bits others 128 h (ap (λ (p : IpPrefix). (block_of p).len) e) (ap (λ (p : IpPrefix). (block_of p).addr) e)

of_bits_right : (f : Family) (bits : List Bool) → length bits ≤ family_width (of_roa f) → IsPrefix (width_of (of_bits (of_roa f) bits)) (block_of (of_bits (of_roa f) bits))
of_bits_right Ipv4 bits h = record { in_family = h; address = bits_bound bits 32 h; no_host_bits = ap (λ (n : ℕ). n % 2 ^ (32 - length bits)) (widened bits 32 h) ∙ mul-mod_left (bits_number bits (length bits)) (2 ^ (32 - length bits)) }
of_bits_right Ipv6 bits h = record { in_family = h; address = bits_bound bits 128 h; no_host_bits = ap (λ (n : ℕ). n % 2 ^ (128 - length bits)) (widened bits 128 h) ∙ mul-mod_left (bits_number bits (length bits)) (2 ^ (128 - length bits)) }

once_address : (f : Family) → Once (address (of_roa f)).Spells
unfolding address
once_address f =
    once_element 3 (head_rules 3) (primitive (PrefixSpells (of_roa f)) (address_rules (of_roa f))) (once_primitive (PrefixSpells (of_roa f)) (address_rules (of_roa f)) (λ prefix a b ba bb ka kb s t.
    let same : s.bits ≡ t.bits = bits_from f s.bits t.bits (few_bits (of_roa f) prefix a s ka) (sym s.is ∙ t.is) in
    once_bits t.bits a b ba bb (subst (λ (bits : List Bool). BitsSpell bits a) same s.spelled) t.spelled))

address_is : (f : Family) (prefix : IpPrefix) (bytes : List ℕ) → IsBytes bytes → (address (of_roa f)).Spells prefix bytes → bytes ≡ tlv 3 (address_content prefix)
unfolding address
address_is f prefix bytes are s =
    let p = s.2.0 in
    let right : IsPrefix (width_of prefix) (block_of prefix) = subst (λ (q : IpPrefix). IsPrefix (width_of q) (block_of q)) (sym p.is) (of_bits_right f p.bits (few_bits (of_roa f) prefix s.0 p s.2.1)) in
    let family : family_of prefix ≡ of_roa f = ap family_of p.is ∙ family_of_bits (of_roa f) p.bits in
    let written : (address (of_roa f)).Spells prefix (tlv 3 (address_content prefix)) = subst (λ (x : RoaFamily). (address x).Spells prefix (tlv 3 (address_content prefix))) family (address_spells prefix right) in
    once_address f prefix bytes (tlv 3 (address_content prefix)) are (tlv_bytes 3 (address_content prefix) (omega arith) (address_are prefix)) s written

address_in : (f : Family) (prefix : IpPrefix) (bytes : List ℕ) → (address (of_roa f)).Spells prefix bytes → (is_of (of_roa f) prefix ≡ true) × (is_of (of_roa (other f)) prefix ≡ false)
unfolding address
address_in f prefix bytes s =
    let t = of_bits_in f s.2.0.bits in
    (ap (is_of (of_roa f)) s.2.0.is ∙ t.0, ap (is_of (of_roa (other f))) s.2.0.is ∙ t.1)

-- ---- a maximum length

narrow : (p : IpPrefix) → width_of p ≤ 128
narrow (V4 p) = omega arith
narrow (V6 p) = omega arith

maximum_is : (prefix : IpPrefix) (m : ℕ) (bytes : List ℕ) → IsBytes bytes → (max_length prefix).Spells m bytes → (bytes ≡ tlv 2 (unsigned_bytes m)) × (eqb m (block_of prefix).len ≡ false)
unfolding max_length
maximum_is prefix m bytes are s =
    let content = s.0 in
    let len = (block_of prefix).len in
    let width = width_of prefix in
    let kept = maximum_kept prefix content s.2.1 in
    let k = between_kept len width 11 content kept.0 in
    let n : m ≡ number content = pos_is m (number content) (sym s.2.0.value ∙ value_is content k.1) in
    let low : len ≤ m = omega (arith, n, k.2) in
    let high : m ≤ width = omega (arith, n, k.3) in
    let written = unsigned_spells len width 11 m low high (omega (arith, high, narrow prefix)) in
    let same : content ≡ unsigned_bytes m = once_between len width 11 m content (unsigned_bytes m) (inner_bytes 2 content bytes s.1 are) (unsigned_are m) (s.2.0, kept.0) written in
    (s.1.spelled ∙ ap (λ (l : List ℕ). tlv 2 l) same, ap (λ (k : ℕ). eqb k len) n ∙ kept.1)

option_is : (prefix : IpPrefix) (m : Option ℕ) (bytes : List ℕ) → IsBytes bytes → OptionSpells (max_length prefix).Spells m bytes → bytes ≡ maximum_bytes m
option_is prefix None bytes are s = s
option_is prefix (Some m) bytes are s = (maximum_is prefix m bytes are s).0

-- ---- an entry

-- what is written of the VRP of an entry is the entry
entry_back : (asn : ℕ) (prefix : IpPrefix) (m : Option ℕ) (bytes : List ℕ) → IsBytes bytes → OptionSpells (max_length prefix).Spells m bytes → entry_of (payload_of asn (record { prefix = prefix; max_len = m })) ≡ record { prefix = prefix; max_len = m }
entry_back asn prefix None bytes are s =
    ap (λ (test : Bool). record { prefix = prefix; max_len = cond test None (Some (block_of prefix).len) }) (eq-eqb (block_of prefix).len (block_of prefix).len refl)
entry_back asn prefix (Some m) bytes are s = ap (λ (test : Bool). record { prefix = prefix; max_len = cond test None (Some m) }) (maximum_is prefix m bytes are s).1

-- what is known of a spelled entry
pub record IsEntry (f : Family) (asn : ℕ) (before : Option RoaEntry) (e : RoaEntry) (bytes : List ℕ) : Type 0 where
  pub is : bytes ≡ entry_bytes e
  pub order : is_not_above before e ≡ false
  pub mine : is_of (of_roa f) e.prefix ≡ true
  pub not_other : is_of (of_roa (other f)) e.prefix ≡ false
  pub back : entry_of (payload_of asn e) ≡ e

entry_known : (f : Family) (asn : ℕ) (before : Option RoaEntry) (e : RoaEntry) (bytes : List ℕ) → IsBytes bytes → (ip_address (of_roa f) 0 before).Spells e bytes → IsEntry f asn before e bytes
unfolding ip_address entry_bytes
entry_known f asn before e bytes are s =
    let m = s.2.1 in
    let parts = split_bytes s.0 m.0 m.1 m.2 (inner_bytes 48 s.0 bytes s.1 are) in
    let inner : s.0 ≡ tlv 3 (address_content e.prefix) ++ maximum_bytes e.max_len =
    both s.0 m.0 m.1 (tlv 3 (address_content e.prefix)) (maximum_bytes e.max_len) m.2 (address_is f e.prefix m.0 parts.0 m.3) (option_is e.prefix e.max_len m.1 parts.1 m.4) in
    let family = address_in f e.prefix m.0 m.3 in
    record { is = s.1.spelled ∙ ap (λ (l : List ℕ). tlv 48 l) inner; order = (kept_first 12 (is_not_above before e) [] s.2.2).0; mine = family.0; not_other = family.1; back = entry_back asn e.prefix e.max_len m.1 parts.1 m.4 }

-- ---- the entries of a family

-- each is above the one before it
abbrev pub Chain : Option RoaEntry → List RoaEntry → Type 0
Chain before [] = ⊤
Chain before (e ∷ es) = (is_not_above before e ≡ false) × Chain (Some e) es

pub record AreEntries (f : Family) (asn : ℕ) (before : Option RoaEntry) (es : List RoaEntry) (bytes : List ℕ) : Type 0 where
  pub is : bytes ≡ list_bytes (of_roa f) es
  pub mine : AllByRecursion (λ e. is_of (of_roa f) e.prefix ≡ true) es
  pub not_other : list_bytes (of_roa (other f)) es ≡ []
  pub back : map entry_of (map (payload_of asn) es) ≡ es
  pub chain : Chain before es

entries_known : (f : Family) (asn : ℕ) (before es : List RoaEntry) (bytes : List ℕ) → IsBytes bytes → EachSpells (g.entry_behind (of_roa f)) before es bytes → AreEntries f asn (last_or None before) es bytes
entries_known f asn before [] bytes are s = record { is = s; mine = tt; not_other = refl; back = refl; chain = tt }
entries_known f asn before (e ∷ es) bytes are s =
    let parts = split_bytes bytes s.0 s.1 s.2 are in
    let k = entry_known f asn (last_or None before) e s.0 parts.0 s.3 in
    let more = entries_known f asn (before ++ e ∷ []) es s.1 parts.1 s.4 in
    record {
      is = both bytes s.0 s.1 (entry_bytes e) (list_bytes (of_roa f) es) s.2 k.is more.is ∙ ap (λ (test : Bool). cond test (entry_bytes e) [] ++ list_bytes (of_roa f) es) (sym k.mine);
      mine = (k.mine, more.mine);
      not_other = ap (λ (test : Bool). cond test (entry_bytes e) [] ++ list_bytes (of_roa (other f)) es) k.not_other ∙ more.not_other;
      back = (λ i. k.back i ∷ more.back i);
      chain = (k.order, subst (λ (b : Option RoaEntry). Chain b es) (last_more None before e) more.chain);
    }

-- ---- a family

pub record IsFamily (f : Family) (asn : ℕ) (es : List RoaEntry) (bytes : List ℕ) : Type 0 where
  pub is : bytes ≡ family_bytes (of_roa f) (list_bytes (of_roa f) es)
  pub mine : AllByRecursion (λ e. is_of (of_roa f) e.prefix ≡ true) es
  pub chain : Chain None es
  pub not_other : list_bytes (of_roa (other f)) es ≡ []
  pub back : map entry_of (map (payload_of asn) es) ≡ es
  pub some : es ≢ []

-- bytes that are there are of some entry
some_of : (f : Family) (es : List RoaEntry) (inner : List ℕ) → EachSpells (g.entry_behind (of_roa f)) [] es inner → eqb (length inner) 0 ≡ false → es ≢ []
some_of f [] inner s n e = let k : eqb (length inner) 0 ≡ true = ap (λ (l : List ℕ). eqb (length l) 0) s in cc
some_of f (x ∷ xs) inner s n e = cc

family_of_roa : (f : Family) (asn : ℕ) (before : Option RoaFamily) (es : List RoaEntry) (bytes : List ℕ) → IsBytes bytes → (g.ip_family before).Spells (of_roa f, es) bytes → IsFamily f asn es bytes
unfolding g.ip_family g.addresses address_family
family_of_roa f asn before es bytes are s =
    let m = s.2.1 in
    let list = m.4 in
    let parts = split_bytes s.0 m.0 m.1 m.2 (inner_bytes 48 s.0 bytes s.1 are) in
    let k = entries_known f asn [] es list.0 (inner_bytes 48 list.0 m.1 list.1 parts.1) list.2.1 in
    let n = (kept_first 9 (eqb (length list.0) 0) [] list.2.0).0 in
    let here : length (list_bytes (of_roa f) es) ≢ 0 = λ z. (let h : eqb (length list.0) 0 ≡ true = ap (λ (l : List ℕ). eqb (length l) 0) k.is ∙ eq-eqb (length (list_bytes (of_roa f) es)) 0 z in cc) in
    let number : m.0 ≡ tlv 4 (0 ∷ family_number (of_roa f) ∷ []) = m.3.1.spelled ∙ ap (λ (l : List ℕ). tlv 4 l) m.3.2.0 in
    let inner : s.0 ≡ family_members (of_roa f) (list_bytes (of_roa f) es) =
    both s.0 m.0 m.1 (tlv 4 (0 ∷ family_number (of_roa f) ∷ [])) (tlv 48 (list_bytes (of_roa f) es)) m.2 number (list.1.spelled ∙ ap (λ (l : List ℕ). tlv 48 l) k.is) in
    record {
      is = s.1.spelled ∙ ap (λ (l : List ℕ). tlv 48 l) inner ∙ sym (family_some (of_roa f) (list_bytes (of_roa f) es) here);
      mine = k.mine;
      chain = k.chain;
      not_other = k.not_other;
      back = k.back;
      some = some_of f es list.0 list.2.1 n;
    }

-- after a family comes IPv6, and the first is IPv4
second_named : (f h : Family) → KeepsRules (family_rules (Some (of_roa f)) (0 ∷ family_number (of_roa h) ∷ [])) → (f ≡ Ipv4) × (h ≡ Ipv6)
second_named Ipv4 Ipv4 k = absurd cc
second_named Ipv4 Ipv6 k = (refl, refl)
second_named Ipv6 Ipv4 k = absurd cc
second_named Ipv6 Ipv6 k = absurd cc

-- nothing is written of no entries
no_family : (family : RoaFamily) → family_bytes family [] ≡ []
unfolding family_bytes
no_family family = refl

-- what is written of the entries of one family, and of those of both
alone : (f : Family) (asn : ℕ) (es : List RoaEntry) (bytes : List ℕ) → IsFamily f asn es bytes → bytes ≡ families_bytes es
alone Ipv4 asn es bytes k =
    k.is ∙ sym (append-nil (family_bytes (of_roa Ipv4) (list_bytes (of_roa Ipv4) es)))
    ∙ ap (λ (l : List ℕ). family_bytes (of_roa Ipv4) (list_bytes (of_roa Ipv4) es) ++ l) (sym (no_family (of_roa Ipv6)) ∙ ap (family_bytes (of_roa Ipv6)) (sym k.not_other))
alone Ipv6 asn es bytes k = k.is ∙ ap (λ (l : List ℕ). l ++ family_bytes (of_roa Ipv6) (list_bytes (of_roa Ipv6) es)) (sym (no_family (of_roa Ipv4)) ∙ ap (family_bytes (of_roa Ipv4)) (sym k.not_other))

together : (asn : ℕ) (es others : List RoaEntry) (a b : List ℕ) → IsFamily Ipv4 asn es a → IsFamily Ipv6 asn others b → a ++ b ≡ families_bytes (es ++ others)
together asn es others a b k l =
    let four : list_bytes (of_roa Ipv4) (es ++ others) ≡ list_bytes (of_roa Ipv4) es = list_append (of_roa Ipv4) es others ∙ ap (λ (x : List ℕ). list_bytes (of_roa Ipv4) es ++ x) l.not_other ∙ append-nil (list_bytes (of_roa Ipv4) es) in
    let six : list_bytes (of_roa Ipv6) (es ++ others) ≡ list_bytes (of_roa Ipv6) others = list_append (of_roa Ipv6) es others ∙ ap (λ (x : List ℕ). x ++ list_bytes (of_roa Ipv6) others) k.not_other in
    ap (λ (x : List ℕ). x ++ b) k.is ∙ ap (λ (x : List ℕ). family_bytes (of_roa Ipv4) (list_bytes (of_roa Ipv4) es) ++ x) l.is
    ∙ ap (λ (x : List ℕ). family_bytes (of_roa Ipv4) x ++ family_bytes (of_roa Ipv6) (list_bytes (of_roa Ipv6) others)) (sym four)
    ∙ ap (λ (x : List ℕ). family_bytes (of_roa Ipv4) (list_bytes (of_roa Ipv4) (es ++ others)) ++ family_bytes (of_roa Ipv6) x) (sym six)

-- IPv6 is above IPv4
above_ipv4 : (b e : RoaEntry) → is_of (of_roa Ipv4) b.prefix ≡ true → is_of (of_roa Ipv6) e.prefix ≡ true → is_not_above (Some b) e ≡ false
above_ipv4 b e hb he = by b.prefix e.prefix hb he b.max_len e.max_len
  where
    by : (p q : IpPrefix) → is_of (of_roa Ipv4) p ≡ true → is_of (of_roa Ipv6) q ≡ true → (m n : Option ℕ) → is_not_above (Some (record { prefix = p; max_len = m })) (record { prefix = q; max_len = n }) ≡ false
    by (V4 p) (V6 q) hp hq m n = refl
    by (V4 p) (V4 q) hp hq m n = absurd cc
    by (V6 p) q hp hq m n = absurd cc

-- no entry came, or one of IPv4
abbrev OfIpv4 : Option RoaEntry → Type 0
OfIpv4 None = ⊤
OfIpv4 (Some b) = is_of (of_roa Ipv4) b.prefix ≡ true

chain_first : (before : Option RoaEntry) (f : RoaEntry) → OfIpv4 before → is_of (of_roa Ipv6) f.prefix ≡ true → is_not_above before f ≡ false
chain_first None f h k = refl
chain_first (Some b) f h k = above_ipv4 b f h k

chain_both : (before : Option RoaEntry) (es others : List RoaEntry) → OfIpv4 before → AllByRecursion (λ e. is_of (of_roa Ipv4) e.prefix ≡ true) es → Chain before es
    → AllByRecursion (λ e. is_of (of_roa Ipv6) e.prefix ≡ true) others → Chain None others → Chain before (es ++ others)
chain_both before [] [] h mine c theirs d = tt
chain_both before [] (f ∷ fs) h mine c theirs d = (chain_first before f h theirs.0, d.1)
chain_both before (e ∷ es) others h mine c theirs d = (c.0, chain_both (Some e) es others mine.0 mine.1 c.1 theirs d)

-- ---- all families

pub record AreBlocks (asn : ℕ) (es : List RoaEntry) (bytes : List ℕ) : Type 0 where
  pub is : bytes ≡ tlv 48 (families_bytes es)
  pub back : map entry_of (map (payload_of asn) es) ≡ es
  pub chain : Chain None es
  pub some : es ≢ []

some_with : (es others : List RoaEntry) → es ≢ [] → es ++ others ≢ []
some_with [] others h e = h refl
some_with (x ∷ es) others h e = cc

back_both : (asn : ℕ) (es others : List RoaEntry) → map entry_of (map (payload_of asn) es) ≡ es → map entry_of (map (payload_of asn) others) ≡ others → map entry_of (map (payload_of asn) (es ++ others)) ≡ es ++ others
back_both asn es others a b =
    ap (map entry_of) (map-append (payload_of asn) es others) ∙ map-append entry_of (map (payload_of asn) es) (map (payload_of asn) others) ∙ (λ i. a i ++ b i)

one_family : (f : Family) (asn : ℕ) (es : List RoaEntry) (bytes inner front rest : List ℕ) → Tlv 48 inner bytes → SplitsBytes inner front rest → rest ≡ [] → IsFamily f asn es front → AreBlocks asn (es ++ []) bytes
one_family f asn es bytes inner front rest t parts none k =
    let same : es ++ [] ≡ es = append-nil es in
    record {
      is = t.spelled ∙ ap (λ (l : List ℕ). tlv 48 l) (both inner front rest (families_bytes es) [] parts (alone f asn es front k) none ∙ append-nil (families_bytes es) ∙ ap families_bytes (sym same));
      back = subst (λ (l : List RoaEntry). map entry_of (map (payload_of asn) l) ≡ l) (sym same) k.back;
      chain = subst (λ (l : List RoaEntry). Chain None l) (sym same) k.chain;
      some = some_with es [] k.some;
    }

two_families : (asn : ℕ) (es others : List RoaEntry) (bytes inner front rest : List ℕ) → Tlv 48 inner bytes → SplitsBytes inner front rest → IsFamily Ipv4 asn es front → IsFamily Ipv6 asn others rest → AreBlocks asn (es ++ others) bytes
two_families asn es others bytes inner front rest t parts k l = record {
  is = t.spelled ∙ ap (λ (x : List ℕ). tlv 48 x) (parts.parts ∙ together asn es others front rest k l);
  back = back_both asn es others k.back l.back;
  chain = chain_both None es others tt k.mine k.chain l.mine l.chain;
  some = some_with es others k.some;
}

blocks_known : (asn : ℕ) (v : Blocks) (bytes : List ℕ) → IsBytes bytes → g.ip_addr_blocks.Spells v bytes → AreBlocks asn (all_entries v) bytes
unfolding g.ip_addr_blocks g.ip_family address_family
blocks_known asn ((x, es), None) bytes are s =
    let m = s.2.1 in
    let parts = split_bytes s.0 m.0 m.1 m.2 (inner_bytes 48 s.0 bytes s.1 are) in
    let first = m.3.2.1 in
    let named = family_named None x first.0 first.3 in
    one_family named.0 asn es bytes s.0 m.0 m.1 s.1 m.2 m.4 (family_of_roa named.0 asn None es m.0 parts.0 (subst (λ (y : RoaFamily). (g.ip_family None).Spells (y, es) m.0) named.1 m.3))
blocks_known asn ((x, es), Some (y, others)) bytes are s =
    let m = s.2.1 in
    let parts = split_bytes s.0 m.0 m.1 m.2 (inner_bytes 48 s.0 bytes s.1 are) in
    let first = m.3.2.1 in
    let named = family_named None x first.0 first.3 in
    let second = m.4.2.1 in
    let behind = family_named (Some x) y second.0 second.3 in
    let k = family_of_roa named.0 asn None es m.0 parts.0 (subst (λ (z : RoaFamily). (g.ip_family None).Spells (z, es) m.0) named.1 m.3) in
    let l = family_of_roa behind.0 asn (Some x) others m.1 parts.1 (subst (λ (z : RoaFamily). (g.ip_family (Some x)).Spells (z, others) m.1) behind.1 m.4) in
    let content : second.3.0 ≡ 0 ∷ family_number (of_roa behind.0) ∷ [] = second.3.2.0 ∙ ap (λ (z : RoaFamily). 0 ∷ family_number z ∷ []) behind.1 in
    let kept : KeepsRules (family_rules (Some (of_roa named.0)) (0 ∷ family_number (of_roa behind.0) ∷ [])) =
    subst (λ (z : RoaFamily). KeepsRules (family_rules (Some z) (0 ∷ family_number (of_roa behind.0) ∷ []))) named.1 (subst (λ (c : List ℕ). KeepsRules (family_rules (Some x) c)) content second.3.2.1) in
    let two = second_named named.0 behind.0 kept in
    two_families asn es others bytes s.0 m.0 m.1 s.1 m.2 (subst (λ (f : Family). IsFamily f asn es m.0) two.0 k) (subst (λ (f : Family). IsFamily f asn others m.1) two.1 l)

-- ---- the AS

as_is : (asn : ℕ) (bytes : List ℕ) → IsBytes bytes → as_id.Spells asn bytes → bytes ≡ tlv 2 (unsigned_bytes asn)
unfolding as_id
as_is asn bytes are s =
    let content = s.0 in
    let k = between_kept 0 4294967295 7 content s.2.1 in
    let n : asn ≡ number content = pos_is asn (number content) (sym s.2.0.value ∙ value_is content k.1) in
    let high : asn ≤ 4294967295 = omega (arith, n, k.3) in
    let written = unsigned_spells 0 4294967295 7 asn (omega arith) high (omega (arith, high)) in
    s.1.spelled ∙ ap (λ (l : List ℕ). tlv 2 l) (once_between 0 4294967295 7 asn content (unsigned_bytes asn) (inner_bytes 2 content bytes s.1 are) (unsigned_are asn) s.2 written)

-- ---- the set

pub record IsSet (before : Option ℕ) (roa : RoaValue) (bytes : List ℕ) : Type 0 where
  pub is : bytes ≡ canonical.payload_set roa.asn (payloads_of roa)
  pub chain : Chain None roa.entries
  pub some : roa.entries ≢ []
  pub order : g.is_not_above before roa.asn ≡ false

pub set_known : (before : Option ℕ) (roa : RoaValue) (bytes : List ℕ) → IsBytes bytes → (g.payload_set before).Spells roa bytes → IsSet before roa bytes
unfolding g.payload_set g.set_members canonical.payload_set roa_bytes
set_known before roa bytes are s =
    let t = s.2.1.0 in
    let m = s.2.1.1 in
    let parts = split_bytes s.0 m.0 m.1 m.2 (inner_bytes 48 s.0 bytes s.1 are) in
    let k = blocks_known t.0 t.1 m.1 parts.1 m.4 in
    let inner : s.0 ≡ tlv 2 (unsigned_bytes t.0) ++ tlv 48 (families_bytes (all_entries t.1)) =
    both s.0 m.0 m.1 (tlv 2 (unsigned_bytes t.0)) (tlv 48 (families_bytes (all_entries t.1))) m.2 (as_is t.0 m.0 parts.0 m.3) k.is in
    let whole : bytes ≡ canonical.payload_set t.0 (payloads_of (flat t)) =
    s.1.spelled ∙ ap (λ (l : List ℕ). tlv 48 l) inner ∙ ap (λ (es : List RoaEntry). tlv 48 (tlv 2 (unsigned_bytes t.0) ++ tlv 48 (families_bytes es))) (sym k.back) in
    record {
      is = subst (λ (r : RoaValue). bytes ≡ canonical.payload_set r.asn (payloads_of r)) s.2.1.2 whole;
      chain = subst (λ (r : RoaValue). Chain None r.entries) s.2.1.2 k.chain;
      some = subst (λ (r : RoaValue). r.entries ≢ []) s.2.1.2 k.some;
      order = (kept_first 25 (g.is_not_above before roa.asn) [] s.2.2).0;
    }
