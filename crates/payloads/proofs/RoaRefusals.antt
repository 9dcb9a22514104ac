-- Nothing is wrong with a value that is spelled.
use Rattle.std.proofs.Common.{◌≡◌, ◌≢◌, ◌⊎◌, ℕ, zero, suc, ◌+◌, ◌<◌, ◌≤◌, Bool, false, not, ◌||◌, eqb, ltb, leb, List, [], ◌∷◌, ◌++◌, length, get_or, Option, Some, None, refl, sym, ap, subst, ◌∙◌, inl, inr, arith, length-append}
use Rattle.std.proofs.lemmas.Bool.{le-ltb, or_parts}
use Rattle.std.specs.List.{last_or}
use Rattle.der_lite.specs.Place.{first_of}
use Rattle.der_lite.specs.Der.{number}
use Rattle.der_lite.specs.Grammar.{EachSpells}
use Rattle.der_lite.proofs.Rules.{kept_first}
use Rattle.der_lite.proofs.Integers.{between_kept, value_is, pos_is}
use Rattle.prefixes.specs.Payload.{block_of, width_of}
use Rattle.prefixes.specs.declared.prefix.IpPrefix.{IpPrefix}
use Rattle.prefixes.specs.declared.prefix.IpPrefix.TheVariants.{V4, V6}
use Rattle.payloads.specs.declared.roa_family.AddressFamily.{AddressFamily}
use Rattle.payloads.specs.declared.roa_family.AddressFamily.TheVariants.{Ipv4, Ipv6}
use Rattle.payloads.specs.declared.roa_entry.RoaEntry.{RoaEntry}
use Rattle.payloads.specs.RoaEntries.{is_not_above, is_bad_maximum, is_superfluous}
use Rattle.payloads.specs.Roa.{family_number, is_family, address_family, family_width, of_bits, address, max_length, entry_members, ip_address, entry_behind, addresses, ip_family, ip_addr_blocks, RoaTree, route_origin_attestation, roa_payload}
use Rattle.payloads.specs.RoaValues.{all_entries, TreeSpells, RoaValue, RoaSpells}
use Rattle.payloads.specs.RoaRefusal.{goes_back, is_family_below, entry_rules, at_index, entries_refusal, roa_refusal}
use Rattle.payloads.proofs.RoaFields.{maximum_kept}
use Rattle.payloads.proofs.RoaOnce.{few_bits}
use Rattle.payloads.proofs.RoaFlats.{family_of, AllIn, IsAddresses, addresses_are}
use Rattle.payloads.proofs.RoaGrowing.{last_is}

-- ---- the maximum

-- a prefix of bits is no longer than an address
short_bits : (family : AddressFamily) (bits : List Bool) → length bits ≤ family_width family → (block_of (of_bits family bits)).len ≤ width_of (of_bits family bits)
short_bits Ipv4 bits h = h
short_bits Ipv6 bits h = h

-- a spelled prefix is no longer than an address
short_prefix : (family : AddressFamily) (prefix : IpPrefix) (bytes : List ℕ) → (address family).Spells prefix bytes → (block_of prefix).len ≤ width_of prefix
unfolding address
short_prefix family prefix bytes s =
    let spelled = s.2.0 in
    subst (λ (p : IpPrefix). (block_of p).len ≤ width_of p) (sym spelled.is) (short_bits family spelled.bits (few_bits family prefix s.0 spelled s.2.1))

-- a maximum between these is right
between_right : (len width m : ℕ) → len ≤ m → m ≤ width → (ltb m len || ltb width m) ≡ false
between_right len width m low high = rw (le-ltb m len low, le-ltb width m high) refl

-- the maximum of spelled members is right
maximum_right : (family : AddressFamily) (prefix : IpPrefix) (maximum : Option ℕ) (inner : List ℕ) → (entry_members family).Spells (record { prefix = prefix; max_len = maximum }) inner
    → is_bad_maximum (record { prefix = prefix; max_len = maximum }) ≡ false
unfolding max_length
maximum_right family prefix None inner s = between_right (block_of prefix).len (width_of prefix) (block_of prefix).len (omega arith) (short_prefix family prefix s.0 s.3)
maximum_right family prefix (Some m) inner s =
    let content = s.4.0 in
    let k = between_kept (block_of prefix).len (width_of prefix) 11 content (maximum_kept prefix content s.4.2.1).0 in
    let n = pos_is m _ (sym s.4.2.0.value ∙ value_is content k.1) in
    between_right (block_of prefix).len (width_of prefix) m (omega (arith, n, k.2)) (omega (arith, n, k.3))

-- and it says more than the length of the prefix
maximum_needed : (family : AddressFamily) (prefix : IpPrefix) (maximum : Option ℕ) (inner : List ℕ) → (entry_members family).Spells (record { prefix = prefix; max_len = maximum }) inner
    → is_superfluous (record { prefix = prefix; max_len = maximum }) ≡ false
unfolding max_length
maximum_needed family prefix None inner s = refl
maximum_needed family prefix (Some m) inner s =
    let content = s.4.0 in
    let kept = maximum_kept prefix content s.4.2.1 in
    let k = between_kept (block_of prefix).len (width_of prefix) 11 content kept.0 in
    ap (λ (n : ℕ). eqb n (block_of prefix).len) (pos_is m (number content) (sym s.4.2.0.value ∙ value_is content k.1)) ∙ kept.1

-- ---- an entry

-- it follows those before it in its family, or is the first after an entry of IPv4
abbrev Behind : AddressFamily → List RoaEntry → Option RoaEntry → Type 0
Behind family seen before = ((before ≡ last_or None seen) × AllIn family seen) ⊎ ((family ≡ Ipv6) × ((b : RoaEntry) × (before ≡ Some b) × (family_of b.prefix ≡ Ipv4)))

-- one rule behind the others
rules_kept : (a b c d e : Bool) → a ≡ false → b ≡ false → c ≡ false → d ≡ false → e ≡ false → first_of ((19, a) ∷ (12, b) ∷ (11, c) ∷ (20, d) ∷ (12, e) ∷ []) ≡ None
rules_kept a b c d e ha hb hc hd he = rw (ha, hb, hc, hd, he) refl

-- of one family, or behind IPv4, the family does not go back
no_way_back : (p q : IpPrefix) (family : AddressFamily) → (family_of p ≡ family) ⊎ (family_of p ≡ Ipv4) → family_of q ≡ family → goes_back p q ≡ false
no_way_back (V4 p) q family h e = refl
no_way_back (V6 p) (V6 q) family h e = refl
no_way_back (V6 p) (V4 q) family (inl h) e = absurd (let k = h ∙ sym e in cc)
no_way_back (V6 p) (V4 q) family (inr h) e = absurd cc

-- an entry of IPv6 is above one of IPv4
above_ipv4 : (b e : RoaEntry) → family_of b.prefix ≡ Ipv4 → family_of e.prefix ≡ Ipv6 → is_not_above (Some b) e ≡ false
above_ipv4 b e hb he = by b.prefix e.prefix hb he b.max_len e.max_len
  where
    by : (p q : IpPrefix) → family_of p ≡ Ipv4 → family_of q ≡ Ipv6 → (m n : Option ℕ) → is_not_above (Some (record { prefix = p; max_len = m })) (record { prefix = q; max_len = n }) ≡ false
    by (V4 p) (V6 q) hp hq m n = refl
    by (V4 p) (V4 q) hp hq m n = absurd cc
    by (V6 p) q hp hq m n = absurd cc

-- the last of some entries of a family
some_last : (family : AddressFamily) (before : RoaEntry) (es : List RoaEntry) → family_of before.prefix ≡ family → AllIn family es → (b : RoaEntry) × (last_or (Some before) es ≡ Some b) × (family_of b.prefix ≡ family)
some_last family before [] f all = (before, refl, f)
some_last family before (e ∷ es) f all = some_last family e es all.0 all.1

-- the last is of the family of all
last_in : (family : AddressFamily) (seen : List RoaEntry) (b : RoaEntry) → AllIn family seen → last_or None seen ≡ Some b → family_of b.prefix ≡ family
last_in family [] b all e = absurd cc
last_in family (x ∷ seen) b all e =
    let l = some_last family x seen all.0 all.1 in
    let same : b ≡ l.0 = let h = sym e ∙ l.1 in cc in
    ap (λ (y : RoaEntry). family_of y.prefix) same ∙ l.2

-- the family is not below that before it
family_right : (family : AddressFamily) (seen : List RoaEntry) (before : Option RoaEntry) (e : RoaEntry) → Behind family seen before → family_of e.prefix ≡ family → is_family_below before e ≡ false
family_right family seen None e h f = refl
family_right family seen (Some b) e (inl h) f = no_way_back b.prefix e.prefix family (inl (last_in family seen b h.1 (sym h.0))) f
family_right family seen (Some b) e (inr h) f = let same : b ≡ h.1.0 = let k = h.1.1 in cc in no_way_back b.prefix e.prefix family (inr (ap (λ (y : RoaEntry). family_of y.prefix) same ∙ h.1.2)) f

-- and the entry is above that before it
order_right : (family : AddressFamily) (seen : List RoaEntry) (before : Option RoaEntry) (e : RoaEntry) → Behind family seen before → family_of e.prefix ≡ family → is_not_above (last_or None seen) e ≡ false → is_not_above before e ≡ false
order_right family seen before e (inl h) f o = ap (λ (b : Option RoaEntry). is_not_above b e) h.0 ∙ o
order_right family seen before e (inr h) f o = ap (λ (b : Option RoaEntry). is_not_above b e) h.1.1 ∙ above_ipv4 h.1.0 e h.1.2 (f ∙ h.0)

-- ---- entries

-- a spelled entry that follows those before it is right
entry_right : (family : AddressFamily) (count : ℕ) (seen : List RoaEntry) (before : Option RoaEntry) (e : RoaEntry) (bytes : List ℕ) → (entry_behind family count seen).Spells e bytes → Behind family seen before
    → family_of e.prefix ≡ family → first_of (entry_rules (count + length seen) before e) ≡ None
unfolding ip_address
entry_right family count seen before e bytes s h f =
    rules_kept (leb 65536 (count + length seen)) (is_family_below before e) (is_bad_maximum e) (is_superfluous e) (is_not_above before e)
    (kept_first 19 (leb 65536 (count + length seen)) [] s.2.0).0 (family_right family seen before e h f) (maximum_right family e.prefix e.max_len s.0 s.2.1) (maximum_needed family e.prefix e.max_len s.0 s.2.1)
    (order_right family seen before e h f (kept_first 12 (is_not_above (last_or None seen) e) [] s.2.2).0)

-- one more is of the family too
all_more : (family : AddressFamily) (seen : List RoaEntry) (e : RoaEntry) → AllIn family seen → family_of e.prefix ≡ family → AllIn family (seen ++ e ∷ [])
all_more family [] e a f = (f, tt)
all_more family (x ∷ seen) e a f = (a.0, all_more family seen e a.1 f)

-- behind an entry that is right, the later ones decide
pub later_right : (index : ℕ) (before : Option RoaEntry) (e : RoaEntry) (es : List RoaEntry) → first_of (entry_rules index before e) ≡ None → entries_refusal (suc index) (Some e) es ≡ None → entries_refusal index before (e ∷ es) ≡ None
later_right index before e es h later = ap (λ (n : Option ℕ). at_index index n (entries_refusal (suc index) (Some e) es)) h ∙ later

-- spelled entries of a family are right
entries_right : (family : AddressFamily) (count : ℕ) (seen es : List RoaEntry) (before : Option RoaEntry) (bytes : List ℕ) → EachSpells (entry_behind family count) seen es bytes → Behind family seen before → AllIn family seen → AllIn family es
    → entries_refusal (count + length seen) before es ≡ None
entries_right family count seen [] before bytes s h all those = refl
entries_right family count seen (e ∷ es) before bytes s h all those =
    let more = all_more family seen e all those.0 in
    let next : suc (count + length seen) ≡ count + length (seen ++ e ∷ []) = omega (arith, length-append seen (e ∷ [])) in
    later_right (count + length seen) before e es (entry_right family count seen before e s.0 s.3 h those.0)
    (ap (λ (n : ℕ). entries_refusal n (Some e) es) next ∙ entries_right family count (seen ++ e ∷ []) es (Some e) s.1 s.4 (inl (sym (last_is None seen e), more)) more those.1)

-- nothing is wrong at an index, nor later
pub none_at : (index : ℕ) (r : Option ℕ) (later : Option (ℕ × ℕ)) → at_index index r later ≡ None → (r ≡ None) × (later ≡ None)
none_at index None later h = (refl, h)
none_at index (Some n) later h = absurd cc

-- the first part is right, and the second behind it
parts_right : (index : ℕ) (before : Option RoaEntry) (es others : List RoaEntry) → entries_refusal index before es ≡ None → entries_refusal (index + length es) (last_or before es) others ≡ None → entries_refusal index before (es ++ others) ≡ None
parts_right index before [] others h k = ap (λ (n : ℕ). entries_refusal n before others) (omega arith) ∙ k
parts_right index before (e ∷ es) others h k =
    let s = none_at index (first_of (entry_rules index before e)) (entries_refusal (suc index) (Some e) es) h in
    later_right index before e (es ++ others) s.0 (parts_right (suc index) (Some e) es others s.1 (ap (λ (n : ℕ). entries_refusal n (last_or (Some e) es) others) (omega arith) ∙ k))

-- the last of the first family
last_of_some : (family : AddressFamily) (es : List RoaEntry) → IsAddresses (family, es) → family ≡ Ipv4 → (b : RoaEntry) × (last_or None es ≡ Some b) × (family_of b.prefix ≡ Ipv4)
last_of_some family [] i f = absurd (i.some refl)
last_of_some family (e ∷ es) i f =
    let l = some_last family e es i.all.0 i.all.1 in
    (l.0, l.1, l.2 ∙ f)

-- ---- the whole

-- what some entries are refused for
refusal_is : (es : List RoaEntry) → es ≢ [] → entries_refusal 0 None es ≡ None → roa_refusal es ≡ None
unfolding roa_refusal
refusal_is [] some h = absurd (some refl)
refusal_is (e ∷ es) some h = h

-- a second family is IPv6, behind IPv4
families_are : (first family : AddressFamily) (bytes : List ℕ) → (address_family (Some first)).Spells family bytes → (first ≡ Ipv4) × (family ≡ Ipv6)
unfolding address_family
families_are first family bytes s = by first family (not_same (kept_first 8 (not (is_family s.0) || eqb (get_or s.0 1 0) (family_number first)) ((12, ltb (get_or s.0 1 0) (family_number first)) ∷ []) s.2.1))
  where
    number_is : get_or s.0 1 0 ≡ family_number family
    number_is = ap (λ (l : List ℕ). get_or l 1 0) s.2.0

    not_same : ((not (is_family s.0) || eqb (get_or s.0 1 0) (family_number first)) ≡ false) × (first_of ((12, ltb (get_or s.0 1 0) (family_number first)) ∷ []) ≡ None) → (eqb (family_number family) (family_number first) ≡ false) × (ltb (family_number family) (family_number first) ≡ false)
    not_same k =
        let o = or_parts (not (is_family s.0)) (eqb (get_or s.0 1 0) (family_number first)) k.0 in
        (ap (λ (n : ℕ). eqb n (family_number first)) (sym number_is) ∙ o.1, ap (λ (n : ℕ). ltb n (family_number first)) (sym number_is) ∙ (kept_first 12 (ltb (get_or s.0 1 0) (family_number first)) [] k.1).0)

    by : (f g : AddressFamily) → (eqb (family_number g) (family_number f) ≡ false) × (ltb (family_number g) (family_number f) ≡ false) → (f ≡ Ipv4) × (g ≡ Ipv6)
    by Ipv4 Ipv4 k = absurd (let h = k.0 in cc)
    by Ipv4 Ipv6 k = (refl, refl)
    by Ipv6 Ipv4 k = absurd (let h = k.1 in cc)
    by Ipv6 Ipv6 k = absurd (let h = k.0 in cc)

-- entries that are there, and others behind them
not_empty_with : (es others : List RoaEntry) → es ≢ [] → es ++ others ≢ []
not_empty_with [] others some e = some refl
not_empty_with (x ∷ es) others some e = cc

-- the first family is right, and what is behind it
first_right : (family : AddressFamily) (es : List RoaEntry) (bytes : List ℕ) → (addresses family 0).Spells es bytes → entries_refusal 0 None es ≡ None
unfolding addresses
first_right family es bytes s = entries_right family 0 [] es None s.0 s.2.1 (inl (refl, tt)) tt (addresses_are family 0 es bytes s).all

second_right : (family : AddressFamily) (count : ℕ) (es : List RoaEntry) (before : Option RoaEntry) (b : RoaEntry) (bytes : List ℕ) → (addresses family count).Spells es bytes → family ≡ Ipv6 → before ≡ Some b → family_of b.prefix ≡ Ipv4 → entries_refusal count before es ≡ None
unfolding addresses
second_right family count es before b bytes s f e g =
    ap (λ (n : ℕ). entries_refusal n before es) (omega arith) ∙ entries_right family count [] es before s.0 s.2.1 (inr (f, (b, e, g))) tt (addresses_are family count es bytes s).all

-- Nothing is wrong with the entries of a tree that is spelled.
pub tree_right : (tree : RoaTree) (bytes : List ℕ) → TreeSpells tree bytes → roa_refusal (all_entries tree.1) ≡ None
unfolding TreeSpells roa_payload route_origin_attestation ip_addr_blocks ip_family
tree_right (asn, ((first, es), None)) bytes s =
    let spelled = s.2.1.4.2.1.3.2.1 in
    refusal_is (es ++ []) (not_empty_with es [] (addresses_are first 0 es spelled.1 spelled.4).some) (parts_right 0 None es [] (first_right first es spelled.1 spelled.4) refl)
tree_right (asn, ((first, es), Some (second, others))) bytes s =
    let spelled = s.2.1.4.2.1.3.2.1 in
    let behind = s.2.1.4.2.1.4.2.1 in
    let some = (addresses_are first 0 es spelled.1 spelled.4) in
    let families = families_are first second behind.0 behind.3 in
    let b = last_of_some first es some families.0 in
    refusal_is (es ++ others) (not_empty_with es others some.some)
    (parts_right 0 None es others (first_right first es spelled.1 spelled.4)
    (ap (λ (n : ℕ). entries_refusal n (last_or None es) others) (omega arith) ∙ second_right second (length es) others (last_or None es) b.0 behind.1 behind.4 families.1 b.1 b.2))

-- nor with a value that is spelled
pub roa_right : (roa : RoaValue) (bytes : List ℕ) → RoaSpells roa bytes → roa_refusal roa.entries ≡ None
roa_right roa bytes s = ap (λ (r : RoaValue). roa_refusal r.entries) (sym s.is_flat) ∙ tree_right s.tree bytes s.spelled

-- ---- what is right with each entry

-- five rules are kept
pub record RulesKept (index : ℕ) (before : Option RoaEntry) (e : RoaEntry) : Type 0 where
  pub few : leb 65536 index ≡ false
  pub family : is_family_below before e ≡ false
  pub maximum : is_bad_maximum e ≡ false
  pub needed : is_superfluous e ≡ false
  pub order : is_not_above before e ≡ false

-- nothing is wrong with the first of entries, nor with the others
pub first_and_later : (index : ℕ) (before : Option RoaEntry) (e : RoaEntry) (es : List RoaEntry) → entries_refusal index before (e ∷ es) ≡ None → RulesKept index before e × (entries_refusal (suc index) (Some e) es ≡ None)
first_and_later index before e es h =
    let s = none_at index (first_of (entry_rules index before e)) (entries_refusal (suc index) (Some e) es) h in
    let above : List (ℕ × Bool) = (12, is_not_above before e) ∷ [] in
    let few = kept_first 19 (leb 65536 index) ((12, is_family_below before e) ∷ (11, is_bad_maximum e) ∷ (20, is_superfluous e) ∷ above) s.0 in
    let family = kept_first 12 (is_family_below before e) ((11, is_bad_maximum e) ∷ (20, is_superfluous e) ∷ above) few.1 in
    let maximum = kept_first 11 (is_bad_maximum e) ((20, is_superfluous e) ∷ above) family.1 in
    let needed = kept_first 20 (is_superfluous e) above maximum.1 in
    (record { few = few.0; family = family.0; maximum = maximum.0; needed = needed.0; order = (kept_first 12 (is_not_above before e) [] needed.1).0 }, s.1)

-- entries that are right have right maxima
maxima_from : (index : ℕ) (before : Option RoaEntry) (es : List RoaEntry) (i : ℕ) (d : RoaEntry) → entries_refusal index before es ≡ None → i < length es → is_bad_maximum (get_or es i d) ≡ false
maxima_from index before [] i d h less = absurd (omega (arith, less))
maxima_from index before (e ∷ es) zero d h less = (first_and_later index before e es h).0.maximum
maxima_from index before (e ∷ es) (suc i) d h less = maxima_from (suc index) (Some e) es i d (first_and_later index before e es h).1 (omega (arith, less))

pub maxima_right : (es : List RoaEntry) (i : ℕ) (d : RoaEntry) → roa_refusal es ≡ None → i < length es → is_bad_maximum (get_or es i d) ≡ false
unfolding roa_refusal
maxima_right [] i d h less = absurd (omega (arith, less))
maxima_right (e ∷ es) i d h less = maxima_from 0 None (e ∷ es) i d h less
