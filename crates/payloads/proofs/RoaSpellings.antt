-- What nothing is wrong with is spelled by its bytes.
use Rattle.std.proofs.Common.{◌≡◌, ◌≢◌, ◌⊎◌, ℕ, suc, ◌+◌, ◌*◌, ◌^◌, ◌<◌, ◌≤◌, Bool, true, false, cond, eqb, ltb, leb, List, [], ◌∷◌, ◌++◌, length, get_or, take, Option, Some, None, refl, sym, ap, subst, ◌∙◌, inl, inr, arith, length-append, append_assoc}
use Rattle.std.specs.Prelude.{Result, Ok, Err, OnOk}
use Rattle.std.specs.declared.alloc.AllocError.{AllocError}
use Rattle.std.specs.List.{All, last_or}
use Rattle.std.proofs.lemmas.Bool.{or_parts, ltb-false, leb-false, ne_eqb}
use Rattle.std.proofs.lemmas.List.{append-nil}
use Rattle.std.proofs.lemmas.List.Elements.{All-cons}
use Rattle.std.proofs.Math.Seq.{take-suc}
use Rattle.der_lite.specs.Place.{first_of}
use Rattle.der_lite.specs.Der.{IsBytes, number, length_bytes, tlv}
use Rattle.der_lite.specs.Grammar.{KeepsRules, EachSpells, OptionSpells}
use Rattle.der_lite.specs.Values.{unsigned_bytes}
use Rattle.der_lite.specs.Writing.{Adds}
use Rattle.der_lite.proofs.NumberBytes.{bytes_append, bytes_cons, no_bytes, unsigned_few, unsigned_are, unsigned_spells, tlv_length, tlv_bytes}
use Rattle.prefixes.specs.Payload.{block_of, width_of}
use Rattle.prefixes.specs.declared.prefix.IpPrefix.{IpPrefix}
use Rattle.prefixes.specs.declared.prefix.IpPrefix.TheVariants.{V4, V6}
use Rattle.payloads.specs.declared.roa_family.AddressFamily.{AddressFamily}
use Rattle.payloads.specs.declared.roa_family.AddressFamily.TheVariants.{Ipv4, Ipv6}
use Rattle.payloads.specs.declared.roa_entry.RoaEntry.{RoaEntry}
use Rattle.payloads.specs.RoaEntries.{is_not_above, is_bad_maximum, is_superfluous, HasPrefix}
use Rattle.payloads.specs.Roa.{as_id, family_number, family_rules, address_family, address, max_length, ip_address, entry_behind, addresses, ip_family, ip_addr_blocks, Blocks, route_origin_attestation, roa_payload}
use Rattle.payloads.specs.RoaValues.{RoaValue, all_entries, TreeSpells, RoaSpells}
use Rattle.payloads.specs.RoaBytes.{address_content, maximum_bytes, entry_bytes, is_of, list_bytes, family_bytes, families_bytes, roa_bytes}
use Rattle.payloads.specs.RoaRefusal.{goes_back, entry_rules, entries_refusal, roa_refusal}
use Rattle.payloads.specs.PayloadLaws.{RoaRefusesExactly}
use Rattle.der_lite.proofs.Rules.{kept_on}
use Rattle.der_lite.proofs.Integers.{value_is, pos_is, between_kept}
use Rattle.payloads.proofs.DecodingLaws.{value_of}
use Rattle.payloads.proofs.RoaFields.{maximum_keeps}
use Rattle.payloads.proofs.RoaFlats.{family_of, AllIn}
use Rattle.payloads.proofs.RoaGrowing.{last_is}
use Rattle.payloads.proofs.RoaPrefixes.{address_few, address_are, address_spells}
use Rattle.payloads.proofs.RoaRefusals.{first_and_later, none_at, later_right, roa_right}

-- ---- how many bytes there are

maximum_few : (maximum : Option ℕ) → length (maximum_bytes maximum) ≤ 11
maximum_few None = omega arith
maximum_few (Some n) = omega (arith, tlv_length 2 (unsigned_bytes n), unsigned_few n)

maximum_are : (maximum : Option ℕ) → IsBytes (maximum_bytes maximum)
maximum_are None = no_bytes
maximum_are (Some n) = tlv_bytes 2 (unsigned_bytes n) (omega arith) (unsigned_are n)

-- the members of an entry
abbrev pub members_bytes : IpPrefix → Option ℕ → List ℕ
members_bytes prefix maximum = tlv 3 (address_content prefix) ++ maximum_bytes maximum

pub members_few : (prefix : IpPrefix) (maximum : Option ℕ) → length (members_bytes prefix maximum) ≤ 34
members_few prefix maximum =
    omega (arith, length-append (tlv 3 (address_content prefix)) (maximum_bytes maximum), tlv_length 3 (address_content prefix), address_few prefix, maximum_few maximum)

entry_few : (e : RoaEntry) → length (entry_bytes e) ≤ 40
unfolding entry_bytes
entry_few e = omega (arith, tlv_length 48 (members_bytes e.prefix e.max_len), members_few e.prefix e.max_len)

entry_are : (e : RoaEntry) → IsBytes (entry_bytes e)
unfolding entry_bytes
entry_are e =
    tlv_bytes 48 (members_bytes e.prefix e.max_len) (omega arith)
    (bytes_append (tlv 3 (address_content e.prefix)) (maximum_bytes e.max_len) (tlv_bytes 3 (address_content e.prefix) (omega arith) (address_are e.prefix)) (maximum_are e.max_len))

-- those of an entry, if it is of the family
abbrev pub chosen : Bool → RoaEntry → List ℕ
chosen test e = cond test (entry_bytes e) []

chosen_few : (test : Bool) (e : RoaEntry) → length (chosen test e) ≤ 40
chosen_few true e = entry_few e
chosen_few false e = omega arith

chosen_are : (test : Bool) (e : RoaEntry) → IsBytes (chosen test e)
chosen_are true e = entry_are e
chosen_are false e = no_bytes

pub list_few : (family : AddressFamily) (es : List RoaEntry) → length (list_bytes family es) ≤ 40 * length es
list_few family [] = omega arith
list_few family (e ∷ es) = omega (arith, length-append (chosen (is_of family e.prefix) e) (list_bytes family es), chosen_few (is_of family e.prefix) e, list_few family es)

list_are : (family : AddressFamily) (es : List RoaEntry) → IsBytes (list_bytes family es)
list_are family [] = no_bytes
list_are family (e ∷ es) = bytes_append (chosen (is_of family e.prefix) e) (list_bytes family es) (chosen_are (is_of family e.prefix) e) (list_are family es)

-- the members of a family
abbrev pub family_members : AddressFamily → List ℕ → List ℕ
family_members family list = tlv 4 (0 ∷ family_number family ∷ []) ++ tlv 48 list

pub members_length : (family : AddressFamily) (list : List ℕ) → length (family_members family list) ≤ 14 + length list
members_length family list = omega (arith, length-append (tlv 4 (0 ∷ family_number family ∷ [])) (tlv 48 list), tlv_length 4 (0 ∷ family_number family ∷ []), tlv_length 48 list)

number_small : (family : AddressFamily) → family_number family < 256
number_small Ipv4 = omega arith
number_small Ipv6 = omega arith

members_are : (family : AddressFamily) (list : List ℕ) → IsBytes list → IsBytes (family_members family list)
members_are family list h =
    bytes_append (tlv 4 (0 ∷ family_number family ∷ [])) (tlv 48 list)
    (tlv_bytes 4 (0 ∷ family_number family ∷ []) (omega arith) (bytes_cons 0 (family_number family ∷ []) (omega arith) (bytes_cons (family_number family) [] (number_small family) no_bytes)))
    (tlv_bytes 48 list (omega arith) h)

-- a family whose list is not empty
some_family : (family : AddressFamily) (b : ℕ) (list : List ℕ) → family_bytes family (b ∷ list) ≡ tlv 48 (family_members family (b ∷ list))
unfolding family_bytes
some_family family b list = rw (ne_eqb (suc (length list)) 0 (λ e. absurd (omega (arith, e)))) refl

pub family_few : (family : AddressFamily) (list : List ℕ) → length (family_bytes family list) ≤ 20 + length list
unfolding family_bytes
family_few family [] = omega arith
family_few family (b ∷ list) = omega (arith, ap (λ (l : List ℕ). length l) (some_family family b list), tlv_length 48 (family_members family (b ∷ list)), members_length family (b ∷ list))

family_are : (family : AddressFamily) (list : List ℕ) → IsBytes list → IsBytes (family_bytes family list)
unfolding family_bytes
family_are family [] h = no_bytes
family_are family (b ∷ list) h = subst IsBytes (sym (some_family family b list)) (tlv_bytes 48 (family_members family (b ∷ list)) (omega arith) (members_are family (b ∷ list) h))

-- the members of the whole
abbrev pub roa_members : RoaValue → List ℕ
roa_members roa = tlv 2 (unsigned_bytes roa.asn) ++ tlv 48 (families_bytes roa.entries)

-- if they are empty, nothing is added
pub family_none : (family : AddressFamily) (list old : List ℕ) → length list ≡ 0 → old ≡ old ++ family_bytes family list
unfolding family_bytes
family_none family [] old h = sym (append-nil old)
family_none family (b ∷ list) old h = absurd (omega (arith, h))

pub family_some : (family : AddressFamily) (list : List ℕ) → length list ≢ 0 → family_bytes family list ≡ tlv 48 (family_members family list)
family_some family [] h = absurd (h refl)
family_some family (b ∷ list) h = some_family family b list

-- bytes of a ROA are bytes
pub roa_are : (roa : RoaValue) → IsBytes (roa_bytes roa)
unfolding roa_bytes
roa_are roa =
    let families = families_bytes roa.entries in
    let each : (family : AddressFamily) → IsBytes (family_bytes family (list_bytes family roa.entries)) = λ family. family_are family (list_bytes family roa.entries) (list_are family roa.entries) in
    tlv_bytes 48 (roa_members roa) (omega arith)
    (bytes_append (tlv 2 (unsigned_bytes roa.asn)) (tlv 48 families) (tlv_bytes 2 (unsigned_bytes roa.asn) (omega arith) (unsigned_are roa.asn))
    (tlv_bytes 48 families (omega arith) (bytes_append (family_bytes Ipv4 (list_bytes Ipv4 roa.entries)) (family_bytes Ipv6 (list_bytes Ipv6 roa.entries)) (each Ipv4) (each Ipv6))))

-- ---- an entry

-- a maximum that is right
maximum_spells : (prefix : IpPrefix) (maximum : Option ℕ) → is_bad_maximum (record { prefix = prefix; max_len = maximum }) ≡ false → is_superfluous (record { prefix = prefix; max_len = maximum }) ≡ false
    → OptionSpells (max_length prefix).Spells maximum (maximum_bytes maximum)
unfolding max_length
maximum_spells prefix None h needed = refl
maximum_spells prefix (Some m) h needed =
    let o = or_parts (ltb m (block_of prefix).len) (ltb (width_of prefix) m) h in
    let low : (block_of prefix).len ≤ m = ltb-false m (block_of prefix).len o.0 in
    let high : m ≤ width_of prefix = ltb-false (width_of prefix) m o.1 in
    let content = unsigned_bytes m in
    let spelled = unsigned_spells (block_of prefix).len (width_of prefix) 11 m low high (omega (arith, high, narrow prefix)) in
    let k = between_kept (block_of prefix).len (width_of prefix) 11 content spelled.1 in
    let is : number content ≡ m = pos_is (number content) m (sym (value_is content k.1) ∙ spelled.0.value) in
    (content, record { short = omega (arith, unsigned_few m); spelled = refl }, (spelled.0, maximum_keeps prefix content spelled.1 (ap (λ (n : ℕ). eqb n (block_of prefix).len) is ∙ needed)))
  where
    narrow : (p : IpPrefix) → width_of p ≤ 128
    narrow (V4 p) = omega arith
    narrow (V6 p) = omega arith

-- an entry with which nothing is wrong
entry_spells : (family : AddressFamily) (count : ℕ) (before : Option RoaEntry) (e : RoaEntry) → family_of e.prefix ≡ family → HasPrefix e → leb 65536 count ≡ false → is_bad_maximum e ≡ false → is_superfluous e ≡ false → is_not_above before e ≡ false
    → (ip_address family count before).Spells e (entry_bytes e)
unfolding ip_address entry_bytes
entry_spells family count before e f is few maximum needed order =
    let spelled = subst (λ (x : AddressFamily). (address x).Spells e.prefix (tlv 3 (address_content e.prefix))) f (address_spells e.prefix is) in (
      members_bytes e.prefix e.max_len,
      record { short = omega (arith, members_few e.prefix e.max_len); spelled = refl },
      (
        kept_on 19 (leb 65536 count) [] few refl,
        (tlv 3 (address_content e.prefix), maximum_bytes e.max_len, record { parts = refl }, spelled, maximum_spells e.prefix e.max_len maximum needed),
        kept_on 12 (is_not_above before e) [] order refl,
      ),
    )

-- ---- the entries of a family

-- the tests of a family
of_family : (family : AddressFamily) (prefix : IpPrefix) → family_of prefix ≡ family → is_of family prefix ≡ true
of_family Ipv4 (V4 p) h = refl
of_family Ipv4 (V6 p) h = absurd cc
of_family Ipv6 (V4 p) h = absurd cc
of_family Ipv6 (V6 p) h = refl

of_other : (family other : AddressFamily) (prefix : IpPrefix) → family_of prefix ≡ other → family ≢ other → is_of family prefix ≡ false
of_other Ipv4 Ipv4 prefix h n = absurd (n refl)
of_other Ipv6 Ipv6 prefix h n = absurd (n refl)
of_other Ipv4 Ipv6 (V4 p) h n = absurd cc
of_other Ipv4 Ipv6 (V6 p) h n = refl
of_other Ipv6 Ipv4 (V4 p) h n = refl
of_other Ipv6 Ipv4 (V6 p) h n = absurd cc

-- the first and the others
all_first : (e : RoaEntry) (es : List RoaEntry) → All HasPrefix (e ∷ es) → HasPrefix e × All HasPrefix es
all_first e es h = (h 0 e (omega arith), λ k d less. h (suc k) d (omega (arith, less)))

-- the entry before it is the last of its family, if one came
abbrev Follows : List RoaEntry → Option RoaEntry → Type 0
Follows seen before = (before ≡ last_or None seen) ⊎ (seen ≡ [])

-- in its family it is above the one before it
above_last : (seen : List RoaEntry) (before : Option RoaEntry) (e : RoaEntry) → Follows seen before → is_not_above before e ≡ false → is_not_above (last_or None seen) e ≡ false
above_last seen before e (inl h) k = ap (λ (b : Option RoaEntry). is_not_above b e) (sym h) ∙ k
above_last seen before e (inr h) k = ap (λ (l : List RoaEntry). is_not_above (last_or None l) e) h

-- entries of a family with which nothing is wrong
each_spells : (family : AddressFamily) (count : ℕ) (seen es : List RoaEntry) (before : Option RoaEntry) → entries_refusal (count + length seen) before es ≡ None → Follows seen before → AllIn family es → All HasPrefix es
    → EachSpells (entry_behind family count) seen es (list_bytes family es)
each_spells family count seen [] before right follows those all = refl
each_spells family count seen (e ∷ es) before right follows those all =
    let r = first_and_later (count + length seen) before e es right in
    let a = all_first e es all in
    let next : suc (count + length seen) ≡ count + length (seen ++ e ∷ []) = omega (arith, length-append seen (e ∷ [])) in
    let mine : chosen (is_of family e.prefix) e ≡ entry_bytes e = ap (λ (test : Bool). chosen test e) (of_family family e.prefix those.0) in (
      entry_bytes e,
      list_bytes family es,
      record { parts = ap (λ (l : List ℕ). l ++ list_bytes family es) mine },
      entry_spells family (count + length seen) (last_or None seen) e those.0 a.0 r.0.few r.0.maximum r.0.needed (above_last seen before e follows r.0.order),
      each_spells family count (seen ++ e ∷ []) es (Some e) (ap (λ (n : ℕ). entries_refusal n (Some e) es) (sym next) ∙ r.1) (inl (sym (last_is None seen e))) those.1 a.1,
    )

-- some entries have some bytes
some_list : (family : AddressFamily) (es : List RoaEntry) → es ≢ [] → AllIn family es → (b : ℕ) × (list : List ℕ) × (list_bytes family es ≡ b ∷ list)
unfolding entry_bytes
some_list family [] some those = absurd (some refl)
some_list family (e ∷ es) some those =
    let inner = members_bytes e.prefix e.max_len in
    (48, length_bytes (length inner) ++ inner ++ list_bytes family es, ap (λ (test : Bool). chosen test e ++ list_bytes family es) (of_family family e.prefix those.0))

-- how many entries there can be
few_from : (index : ℕ) (before : Option RoaEntry) (es : List RoaEntry) → entries_refusal index before es ≡ None → index ≤ 65536 → index + length es ≤ 65536
few_from index before [] h le = omega (arith, le)
few_from index before (e ∷ es) h le =
    let r = first_and_later index before e es h in
    omega (arith, few_from (suc index) (Some e) es r.1 (omega (arith, leb-false 65536 index r.0.few)))

pub few_entries : (es : List RoaEntry) → roa_refusal es ≡ None → length es ≤ 65536
unfolding roa_refusal
few_entries [] h = omega arith
few_entries (e ∷ es) h = omega (arith, few_from 0 None (e ∷ es) h (omega arith))

-- ---- both families

-- entries of the other family add nothing
alone : (family other : AddressFamily) (es : List RoaEntry) → AllIn other es → family ≢ other → list_bytes family es ≡ []
alone family other [] those n = refl
alone family other (e ∷ es) those n = ap (λ (test : Bool). chosen test e ++ list_bytes family es) (of_other family other e.prefix those.0 n) ∙ alone family other es those.1 n

pub list_append : (family : AddressFamily) (es others : List RoaEntry) → list_bytes family (es ++ others) ≡ list_bytes family es ++ list_bytes family others
list_append family [] others = refl
list_append family (e ∷ es) others =
    ap (λ (l : List ℕ). chosen (is_of family e.prefix) e ++ l) (list_append family es others) ∙ sym (append_assoc (chosen (is_of family e.prefix) e) (list_bytes family es) (list_bytes family others))

-- one entry more
list_next : (family : AddressFamily) (es : List RoaEntry) (i : ℕ) (d : RoaEntry) → i < length es
    → list_bytes family (take (i + 1) es) ≡ list_bytes family (take i es) ++ cond (is_of family (get_or es i d).prefix) (entry_bytes (get_or es i d)) []
list_next family es i d h =
    let e = get_or es i d in
    let next : i + 1 ≡ suc i = omega arith in
    ap (λ (n : ℕ). list_bytes family (take n es)) next ∙ ap (list_bytes family) (take-suc es i d h) ∙ list_append family (take i es) (e ∷ [])
    ∙ ap (λ (l : List ℕ). list_bytes family (take i es) ++ l) (append-nil (chosen (is_of family e.prefix) e))

-- the list with one entry more, or without it
pub list_step : (family : AddressFamily) (es : List RoaEntry) (i : ℕ) (e : RoaEntry) (old new : List ℕ) → i < length es → e ≡ get_or es i e → old ≡ list_bytes family (take i es) → new ≡ old ++ chosen (is_of family e.prefix) e
    → new ≡ list_bytes family (take (i + 1) es)
list_step family es i e old new h item old_is new_is =
    new_is ∙ ap (λ (l : List ℕ). l ++ chosen (is_of family e.prefix) e) old_is ∙ ap (λ (x : RoaEntry). list_bytes family (take i es) ++ chosen (is_of family x.prefix) x) item ∙ sym (list_next family es i e h)

-- some entries of IPv4, and then some of IPv6
record Parts (es : List RoaEntry) : Type 0 where
  pub ipv4 : List RoaEntry
  pub ipv6 : List RoaEntry
  pub whole : es ≡ ipv4 ++ ipv6
  pub first : AllIn Ipv4 ipv4
  pub second : AllIn Ipv6 ipv6

-- behind IPv6 all is IPv6
stays : (p q : IpPrefix) → family_of p ≡ Ipv6 → goes_back p q ≡ false → family_of q ≡ Ipv6
stays (V4 p) q h g = absurd cc
stays (V6 p) (V4 q) h g = absurd cc
stays (V6 p) (V6 q) h g = refl

all_ipv6 : (index : ℕ) (before : RoaEntry) (es : List RoaEntry) → family_of before.prefix ≡ Ipv6 → entries_refusal index (Some before) es ≡ None → AllIn Ipv6 es
all_ipv6 index before [] f h = tt
all_ipv6 index before (e ∷ es) f h =
    let r = first_and_later index (Some before) e es h in
    let mine : family_of e.prefix ≡ Ipv6 = stays before.prefix e.prefix f r.0.family in
    (mine, all_ipv6 (suc index) e es mine r.1)

-- the first is of one of the families
parts_by : (index : ℕ) (e : RoaEntry) (es : List RoaEntry) (family : AddressFamily) → family_of e.prefix ≡ family → entries_refusal index (Some e) es ≡ None → Parts es → Parts (e ∷ es)
parts_by index e es Ipv4 f h p = record { ipv4 = e ∷ p.ipv4; ipv6 = p.ipv6; whole = ap (λ (l : List RoaEntry). e ∷ l) p.whole; first = (f, p.first); second = p.second }
parts_by index e es Ipv6 f h p = record { ipv4 = []; ipv6 = e ∷ es; whole = refl; first = tt; second = (f, all_ipv6 index e es f h) }

parts_of : (index : ℕ) (before : Option RoaEntry) (es : List RoaEntry) → entries_refusal index before es ≡ None → Parts es
parts_of index before [] h = record { ipv4 = []; ipv6 = []; whole = refl; first = tt; second = tt }
parts_of index before (e ∷ es) h =
    let r = first_and_later index before e es h in
    parts_by (suc index) e es (family_of e.prefix) refl r.1 (parts_of (suc index) (Some e) es r.1)

-- nothing is wrong with the front of entries, nor with those behind it
split_right : (index : ℕ) (before : Option RoaEntry) (es others : List RoaEntry) → entries_refusal index before (es ++ others) ≡ None
    → (entries_refusal index before es ≡ None) × (entries_refusal (index + length es) (last_or before es) others ≡ None)
split_right index before [] others h = (refl, ap (λ (n : ℕ). entries_refusal n before others) (omega arith) ∙ h)
split_right index before (e ∷ es) others h =
    let s = none_at index (first_of (entry_rules index before e)) (entries_refusal (suc index) (Some e) (es ++ others)) h in
    let r = split_right (suc index) (Some e) es others s.1 in
    (later_right index before e es s.0 r.0, ap (λ (n : ℕ). entries_refusal n (last_or (Some e) es) others) (omega arith) ∙ r.1)

all_split : (es others : List RoaEntry) → All HasPrefix (es ++ others) → All HasPrefix es × All HasPrefix others
all_split [] others h = ((λ k d less. absurd (omega (arith, less))), h)
all_split (e ∷ es) others h =
    let a = all_first e (es ++ others) h in
    let r = all_split es others a.1 in
    (All-cons HasPrefix e es a.0 r.0, r.1)

-- ---- the elements around the entries

-- what is right with the entries of a family, behind this many others
record IsListed (family : AddressFamily) (count : ℕ) (es : List RoaEntry) : Type 0 where
  pub some : es ≢ []
  pub few : length es ≤ 65536
  pub before : Option RoaEntry
  pub right : entries_refusal count before es ≡ None
  pub those : AllIn family es
  pub all : All HasPrefix es

pub list_short : (family : AddressFamily) (es : List RoaEntry) → length es ≤ 65536 → length (list_bytes family es) ≤ 2621440
list_short family es h = omega (arith, h, list_few family es)

addresses_spell : (family : AddressFamily) (count : ℕ) (es : List RoaEntry) → IsListed family count es → (addresses family count).Spells es (tlv 48 (list_bytes family es))
unfolding addresses
addresses_spell family count es i =
    let list = list_bytes family es in
    let s = some_list family es i.some i.those in (
      list,
      record { short = omega (arith, list_short family es i.few); spelled = refl },
      (
        kept_on 9 (eqb (length list) 0) [] (ne_eqb (length list) 0 (λ n. absurd (omega (arith, n, ap (λ (l : List ℕ). length l) s.2)))) refl,
        each_spells family count [] es i.before (ap (λ (n : ℕ). entries_refusal n i.before es) (omega arith) ∙ i.right) (inr refl) i.those i.all,
        refl,
      ),
    )

family_is : (family : AddressFamily) (es : List RoaEntry) → es ≢ [] → AllIn family es → family_bytes family (list_bytes family es) ≡ tlv 48 (family_members family (list_bytes family es))
family_is family es some those =
    let s = some_list family es some those in
    ap (family_bytes family) s.2 ∙ some_family family s.0 s.1 ∙ ap (λ (l : List ℕ). tlv 48 (family_members family l)) (sym s.2)

-- behind no family, or IPv6 behind IPv4
abbrev FamilyKept : Option AddressFamily → AddressFamily → Type 0
FamilyKept before family = KeepsRules (family_rules before (0 ∷ family_number family ∷ []))

family_spells : (before : Option AddressFamily) (family : AddressFamily) (count : ℕ) (es : List RoaEntry) → FamilyKept before family → IsListed family count es
    → (ip_family before count).Spells (family, es) (family_bytes family (list_bytes family es))
unfolding ip_family address_family
family_spells before family count es kept i =
    let list = list_bytes family es in
    let content = 0 ∷ family_number family ∷ [] in
    let number : (address_family before).Spells family (tlv 4 content) = (content, record { short = omega arith; spelled = refl }, (refl, kept)) in
    let spelled : (ip_family before count).Spells (family, es) (tlv 48 (family_members family list)) = (
      family_members family list,
      record { short = omega (arith, members_length family list, list_short family es i.few); spelled = refl },
      (refl, (tlv 4 content, tlv 48 list, record { parts = refl }, number, addresses_spell family count es i), refl),
    ) in
    subst (λ (bytes : List ℕ). (ip_family before count).Spells (family, es) bytes) (sym (family_is family es i.some i.those)) spelled

-- one family or two
blocks_spell : (blocks : Blocks) (front rest : List ℕ) → front ≢ [] → length (front ++ rest) < 2 ^ 32 → (ip_family None 0).Spells blocks.0 front
    → OptionSpells (ip_family (Some blocks.0.0) (length blocks.0.1)).Spells blocks.1 rest → ip_addr_blocks.Spells blocks (tlv 48 (front ++ rest))
unfolding ip_addr_blocks
blocks_spell blocks [] rest some short s t = absurd (some refl)
blocks_spell blocks (b ∷ front) rest some short s t =
    let content = b ∷ front ++ rest in (
      content,
      record { short = short; spelled = refl },
      (kept_on 9 (eqb (length content) 0) [] (ne_eqb (length content) 0 (λ n. absurd (omega (arith, n)))) refl, (b ∷ front, rest, record { parts = refl }, s, t), refl),
    )

-- the whole
tree_spells : (asn : ℕ) (blocks : Blocks) (families : List ℕ) → asn < 2 ^ 32 → length families < 2 ^ 31 → ip_addr_blocks.Spells blocks (tlv 48 families)
    → TreeSpells (asn, blocks) (tlv 48 (tlv 2 (unsigned_bytes asn) ++ tlv 48 families))
unfolding TreeSpells roa_payload route_origin_attestation as_id
tree_spells asn blocks families h short s =
    let content = tlv 2 (unsigned_bytes asn) ++ tlv 48 families in
    let number : as_id.Spells asn (tlv 2 (unsigned_bytes asn)) =
    (unsigned_bytes asn, record { short = omega (arith, unsigned_few asn); spelled = refl }, unsigned_spells 0 4294967295 7 asn (omega arith) (omega (arith, h)) h) in (
      content,
      record { short = omega (arith, short, length-append (tlv 2 (unsigned_bytes asn)) (tlv 48 families), tlv_length 2 (unsigned_bytes asn), unsigned_few asn, tlv_length 48 families); spelled = refl },
      (refl, (tlv 2 (unsigned_bytes asn), tlv 48 families, record { parts = refl }, number, s), refl),
    )

-- ---- the value

pub families_few : (es : List RoaEntry) → length es ≤ 65536 → length (families_bytes es) ≤ 5242920
families_few es h =
    let ipv4 = list_bytes Ipv4 es in
    let ipv6 = list_bytes Ipv6 es in
    omega (arith, length-append (family_bytes Ipv4 ipv4) (family_bytes Ipv6 ipv6), family_few Ipv4 ipv4, family_few Ipv6 ipv6, list_short Ipv4 es h, list_short Ipv6 es h)

pub members_short : (roa : RoaValue) → length roa.entries ≤ 65536 → length (roa_members roa) ≤ 5242937
members_short roa h =
    let families = families_bytes roa.entries in
    omega (arith, length-append (tlv 2 (unsigned_bytes roa.asn)) (tlv 48 families), tlv_length 2 (unsigned_bytes roa.asn), unsigned_few roa.asn, tlv_length 48 families, families_few roa.entries h)

no_family : (family : AddressFamily) → family_bytes family [] ≡ []
unfolding family_bytes
no_family family = refl

is_there : (e : RoaEntry) (es : List RoaEntry) → e ∷ es ≢ []
is_there e es h = cc

family_there : (family : AddressFamily) (es : List RoaEntry) → es ≢ [] → AllIn family es → family_bytes family (list_bytes family es) ≢ []
family_there family es some those h = let k = sym (family_is family es some those) ∙ h in cc

-- the families of entries of IPv4 and then IPv6
families_are : (ipv4 ipv6 : List RoaEntry) → AllIn Ipv4 ipv4 → AllIn Ipv6 ipv6 → families_bytes (ipv4 ++ ipv6) ≡ family_bytes Ipv4 (list_bytes Ipv4 ipv4) ++ family_bytes Ipv6 (list_bytes Ipv6 ipv6)
families_are ipv4 ipv6 first second =
    let a : list_bytes Ipv4 (ipv4 ++ ipv6) ≡ list_bytes Ipv4 ipv4 = list_append Ipv4 ipv4 ipv6 ∙ ap (λ (l : List ℕ). list_bytes Ipv4 ipv4 ++ l) (alone Ipv4 Ipv6 ipv6 second (λ e. cc)) ∙ append-nil (list_bytes Ipv4 ipv4) in
    let b : list_bytes Ipv6 (ipv4 ++ ipv6) ≡ list_bytes Ipv6 ipv6 = list_append Ipv6 ipv4 ipv6 ∙ ap (λ (l : List ℕ). l ++ list_bytes Ipv6 ipv6) (alone Ipv6 Ipv4 ipv4 first (λ e. cc)) in
    ap (λ (l : List ℕ). family_bytes Ipv4 l ++ family_bytes Ipv6 (list_bytes Ipv6 (ipv4 ++ ipv6))) a ∙ ap (λ (l : List ℕ). family_bytes Ipv4 (list_bytes Ipv4 ipv4) ++ family_bytes Ipv6 l) b

-- families that are spelled, and whose entries these are
abbrev BlocksOf : List RoaEntry → List ℕ → Type 0
BlocksOf es families = (blocks : Blocks) × (all_entries blocks ≡ es) × ip_addr_blocks.Spells blocks (tlv 48 families)

blocks_of : (ipv4 ipv6 : List RoaEntry) → entries_refusal 0 None (ipv4 ++ ipv6) ≡ None → ipv4 ++ ipv6 ≢ [] → AllIn Ipv4 ipv4 → AllIn Ipv6 ipv6 → All HasPrefix (ipv4 ++ ipv6) → length (ipv4 ++ ipv6) ≤ 65536
    → length (family_bytes Ipv4 (list_bytes Ipv4 ipv4) ++ family_bytes Ipv6 (list_bytes Ipv6 ipv6)) < 2 ^ 32
    → BlocksOf (ipv4 ++ ipv6) (family_bytes Ipv4 (list_bytes Ipv4 ipv4) ++ family_bytes Ipv6 (list_bytes Ipv6 ipv6))
blocks_of [] [] right some first second all few short = absurd (some refl)
blocks_of [] (e ∷ es) right some first second all few short =
    let listed : IsListed Ipv6 0 (e ∷ es) = record { some = is_there e es; few = few; before = None; right = right; those = second; all = all } in
    let bytes = family_bytes Ipv6 (list_bytes Ipv6 (e ∷ es)) in
    let same : bytes ++ [] ≡ family_bytes Ipv4 [] ++ bytes = append-nil bytes ∙ ap (λ (l : List ℕ). l ++ bytes) (sym (no_family Ipv4)) in (
      ((Ipv6, e ∷ es), None),
      append-nil (e ∷ es),
      subst (λ (l : List ℕ). ip_addr_blocks.Spells ((Ipv6, e ∷ es), None) (tlv 48 l)) same
          (blocks_spell ((Ipv6, e ∷ es), None) bytes [] (family_there Ipv6 (e ∷ es) (is_there e es) second) (subst (λ (l : List ℕ). length l < 2 ^ 32) (sym same) short) (family_spells None Ipv6 0 (e ∷ es) refl listed) refl),
    )
blocks_of (e ∷ es) [] right some first second all few short =
    let listed : IsListed Ipv4 0 (e ∷ es) =
    record { some = is_there e es; few = omega (arith, few, length-append (e ∷ es) []); before = None; right = (split_right 0 None (e ∷ es) [] right).0; those = first; all = (all_split (e ∷ es) [] all).0 } in (
      ((Ipv4, e ∷ es), None),
      refl,
      blocks_spell ((Ipv4, e ∷ es), None) (family_bytes Ipv4 (list_bytes Ipv4 (e ∷ es))) (family_bytes Ipv6 []) (family_there Ipv4 (e ∷ es) (is_there e es) first) short (family_spells None Ipv4 0 (e ∷ es) refl listed) (no_family Ipv6),
    )
blocks_of (e ∷ es) (x ∷ xs) right some first second all few short =
    let count = length-append (e ∷ es) (x ∷ xs) in
    let r = split_right 0 None (e ∷ es) (x ∷ xs) right in
    let a = all_split (e ∷ es) (x ∷ xs) all in
    let listed : IsListed Ipv4 0 (e ∷ es) = record { some = is_there e es; few = omega (arith, few, count); before = None; right = r.0; those = first; all = a.0 } in
    let behind : IsListed Ipv6 (length (e ∷ es)) (x ∷ xs) =
    record {
      some = is_there x xs;
      few = omega (arith, few, count);
      before = last_or None (e ∷ es);
      right = ap (λ (n : ℕ). entries_refusal n (last_or None (e ∷ es)) (x ∷ xs)) (omega arith) ∙ r.1;
      those = second;
      all = a.1;
    } in (
      ((Ipv4, e ∷ es), Some (Ipv6, x ∷ xs)),
      refl,
      blocks_spell ((Ipv4, e ∷ es), Some (Ipv6, x ∷ xs)) (family_bytes Ipv4 (list_bytes Ipv4 (e ∷ es))) (family_bytes Ipv6 (list_bytes Ipv6 (x ∷ xs))) (family_there Ipv4 (e ∷ es) (is_there e es) first) short
          (family_spells None Ipv4 0 (e ∷ es) refl listed) (family_spells (Some Ipv4) Ipv6 (length (e ∷ es)) (x ∷ xs) refl behind),
    )

-- A value with which nothing is wrong is spelled by its bytes.
pub value_spells : (asn : ℕ) (es : List RoaEntry) → asn < 2 ^ 32 → roa_refusal es ≡ None → All HasPrefix es → RoaSpells (value_of asn es) (roa_bytes (value_of asn es))
unfolding roa_bytes roa_refusal
value_spells asn [] h right all = absurd cc
value_spells asn (e ∷ es) h right all =
    let whole = e ∷ es in
    let few = few_entries whole right in
    let p = parts_of 0 None whole right in
    let same : families_bytes whole ≡ family_bytes Ipv4 (list_bytes Ipv4 p.ipv4) ++ family_bytes Ipv6 (list_bytes Ipv6 p.ipv6) = ap families_bytes p.whole ∙ families_are p.ipv4 p.ipv6 p.first p.second in
    let short : length (families_bytes whole) < 2 ^ 31 = omega (arith, families_few whole few) in
    let b =
    blocks_of p.ipv4 p.ipv6 (subst (λ (l : List RoaEntry). entries_refusal 0 None l ≡ None) p.whole right) (λ z. is_there e es (p.whole ∙ z)) p.first p.second (subst (λ (l : List RoaEntry). All HasPrefix l) p.whole all)
    (subst (λ (l : List RoaEntry). length l ≤ 65536) p.whole few) (subst (λ (l : List ℕ). length l < 2 ^ 32) same (omega (arith, short))) in
    record {
      tree = (asn, b.0);
      spelled = tree_spells asn b.0 (families_bytes whole) h short (subst (λ (l : List ℕ). ip_addr_blocks.Spells b.0 (tlv 48 l)) (sym same) b.2);
      is_flat = ap (value_of asn) (b.1 ∙ sym p.whole);
    }

-- Nothing is wrong exactly with what some bytes spell.
pub refusal_law : RoaRefusesExactly
refusal_law roa h all = ((λ right. (roa_bytes roa, roa_are roa, value_spells roa.asn roa.entries h right all)), λ s. roa_right roa s.0 s.2)

-- ---- what is written

-- if an element was added, it is that of the same content
pub adds_same : (result : Result (Unit {0}) AllocError) (tag : ℕ) (content old new bytes : List ℕ) → tlv tag content ≡ bytes → Adds result tag content old new → OnOk result (new ≡ old ++ bytes)
adds_same (Ok _) tag content old new bytes same a = a ∙ ap (λ (l : List ℕ). old ++ l) same
adds_same (Err _) tag content old new bytes same a = tt
