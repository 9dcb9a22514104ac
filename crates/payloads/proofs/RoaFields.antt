-- The fields of a ROA are read exactly.
use Rattle.std.proofs.Common.{◌≡◌, ℕ, pos, Bool, true, false, not, ◌&&◌, ◌||◌, cond, eqb, ltb, List, [], ◌∷◌, ◌++◌, length, get_or, Option, Result, Ok, Err, refl, sym, ap, ◌∙◌, arith}
use Rattle.std.proofs.lemmas.Bool.{and_parts, or_parts, not-false, eqb-true, ne_eqb}
use Rattle.der_lite.specs.Place.{Place, Fault}
use Rattle.der_lite.specs.Der.{number, is_integer, IntSpells, is_bit_string, bit_count, head_rules, is_truncated, has_der_length, tag_of}
use Rattle.der_lite.specs.Grammar.{KeepsRules, element, primitive}
use Rattle.der_lite.specs.DerReading.{◌>>=◌, judged, element_at, content_at, integer_at, content_place, next_place}
use Rattle.der_lite.specs.Decoding.{Read, read_element, read_primitive}
use Rattle.der_lite.specs.Values.{is_negative, between_rules, bits_value}
use Rattle.der_lite.specs.Fields.{field_at}
use Rattle.der_lite.proofs.Rules.{judged-bind, kept_first, kept_on}
use Rattle.der_lite.proofs.Elements.{head_kept}
use Rattle.der_lite.proofs.Exact.{ExactElement, ExactContent, IsHead, exact_element, exact_primitive}
use Rattle.der_lite.proofs.ContentReads.{exact_along}
use Rattle.der_lite.proofs.FieldLaws.{judged-append, exact_field}
use Rattle.der_lite.proofs.Integers.{value_is, pos_is, between_kept, exact_between}
use Rattle.der_lite.proofs.BitStrings.{taken, bits_spelled}
use Rattle.prefixes.specs.Payload.{block_of, width_of}
use Rattle.prefixes.specs.declared.prefix.IpPrefix.{IpPrefix}
use Rattle.payloads.specs.declared.roa_family.AddressFamily.{AddressFamily}
use Rattle.payloads.specs.declared.roa_family.AddressFamily.TheVariants.{Ipv4, Ipv6}
use Rattle.payloads.specs.Roa.{first_head, as_id, family_number, number_before, is_family, family_rules, FamilySpells, address_family, family_width, of_bits, PrefixSpells, address_rules, address, needed_rules, maximum_rules, max_length}
use Rattle.payloads.specs.RoaReading.{with_version, range_rules, as_id_at, family_in, address_family_at, prefix_in, address_at, max_length_at}

-- ---- the place of the version

-- an INTEGER has no tag of a version
version_head : IsHead 2 first_head
version_head = record {
  usual = λ bytes h. (kept_first 6 (eqb (tag_of bytes) 160) (head_rules 2 bytes) (kept_first 1 (is_truncated bytes) ((6, eqb (tag_of bytes) 160) ∷ head_rules 2 bytes) h).1).1;
  keeps = λ bytes h.
      let k = head_kept 2 bytes h in
      kept_on 1 (is_truncated bytes) ((6, eqb (tag_of bytes) 160) ∷ head_rules 2 bytes) k.whole (kept_on 6 (eqb (tag_of bytes) 160) (head_rules 2 bytes) (ne_eqb (tag_of bytes) 160 (λ n. absurd (omega (arith, k.tag_is)))) h);
}

-- if there is no version the read is as it was
with_no_version : {V : Type 0} (r : Result V Fault) → with_version false r ≡ r
with_no_version (Ok x) = refl
with_no_version (Err f) = refl

-- the rules of this head are the usual ones, and then a version for a wrong tag
heads : {A V : Type 0} (a b c d : Bool) (at : ℕ) (i : Result A Fault) (h : A → Result V Fault) → (b ≡ true → c ≡ false)
    → judged ((1, a) ∷ (6, b) ∷ (1, a) ∷ (2, not c) ∷ (3, not d) ∷ []) at (i >>= h) ≡ (with_version b (judged ((1, a) ∷ (2, not c) ∷ (3, not d) ∷ []) at i) >>= h)
heads true true c d at i h n = refl
heads true false c d at i h n = refl
heads false true true d at i h n = absurd (let k = n refl in cc)
heads false true false d at i h n = refl
heads false false false d at i h n = refl
heads false false true false at i h n = refl
heads false false true true at i h n = ap (λ r. r >>= h) (sym (with_no_version i))

module _ {V : Type 0} (rules : List ℕ → List (ℕ × Bool)) (value : List ℕ → V) where
  -- the rules of the first member, an INTEGER
  abbrev first_rules : List ℕ → List (ℕ × Bool)
  first_rules content = (4, not (is_integer content)) ∷ rules content

  -- reading it as a cursor does
  abbrev first_at : Read V
  first_at p = field_at (with_version (eqb (tag_of p.rest) 160) (integer_at p)) p.at rules value

  -- the first member is read with this head
  first_is : (p : Place) → read_element first_head (read_primitive first_rules value) p ≡ first_at p
  unfolding content_at element_at head_rules
  first_is p =
      let c = (content_place p).rest in
      let own : List ℕ → List (ℕ × Bool) = λ k. (4, not (is_integer k)) ∷ [] in
      let then_next : V → Result (V × Place) Fault = λ v. Ok (v, next_place p) in
      let own_then : Place × Place → Result (List ℕ × Place) Fault = λ x. judged (own x.0.rest) p.at (Ok (x.0.rest, x.1)) in
      let rules_then : List ℕ × Place → Result (V × Place) Fault = λ x. judged (rules x.0) p.at (Ok (value x.0, x.1)) in
      let read : Result (List ℕ × Place) Fault = judged (own c) p.at (Ok (c, next_place p)) in
      let inner : (judged (own c ++ rules c) p.at (Ok (value c)) >>= then_next) ≡ (read >>= rules_then) =
      ap (λ (r : Result V Fault). r >>= then_next) (judged-append (own c) (rules c) p.at (Ok (value c)))
      ∙ judged-bind (own c) p.at (judged (rules c) p.at (Ok (value c))) then_next ∙ ap (judged (own c) p.at) (judged-bind (rules c) p.at (Ok (value c)) then_next)
      ∙ sym (judged-bind (own c) p.at (Ok (c, next_place p)) rules_then) in
      ap (judged (first_head p.rest) p.at) inner
      ∙ heads (is_truncated p.rest) (eqb (tag_of p.rest) 160) (eqb (tag_of p.rest) 2) (has_der_length p.rest) p.at read rules_then (λ n. ne_eqb (tag_of p.rest) 2 (λ m. absurd (omega (arith, eqb-true (tag_of p.rest) 160 n))))
      ∙ ap (λ (r : Result (List ℕ × Place) Fault). with_version (eqb (tag_of p.rest) 160) r >>= rules_then) (sym (judged-bind (head_rules 2 p.rest) p.at (Ok (content_place p, next_place p)) own_then))

  -- and exactly so if its content is
  pub exact_first : (Spells : V → List ℕ → Type 0) → ExactContent (primitive Spells first_rules) (read_primitive first_rules value) → ExactElement (element 2 first_head (primitive Spells first_rules)) first_at
  exact_first Spells x =
      exact_along (element 2 first_head (primitive Spells first_rules)) (read_element first_head (read_primitive first_rules value)) first_at first_is
      (exact_element 2 first_head (primitive Spells first_rules) (read_primitive first_rules value) version_head x)

pub exact_as_id : ExactElement as_id as_id_at
unfolding as_id as_id_at
exact_as_id = exact_first (range_rules 0 4294967295 7) number (λ n content. IntSpells (pos n) content) (exact_between 0 4294967295 7)

-- ---- the family

-- a list of two
two_cells : (content : List ℕ) → length content ≡ 2 → content ≡ get_or content 0 0 ∷ get_or content 1 0 ∷ []
two_cells [] h = absurd cc
two_cells (a ∷ []) h = absurd (omega arith)
two_cells (a ∷ b ∷ []) h = refl
two_cells (a ∷ b ∷ c ∷ more) h = absurd (omega arith)

-- the number of a family that is 1 or 2
number_by : (n : ℕ) (is_one : Bool) → eqb n 1 ≡ is_one → (is_one || eqb n 2) ≡ true → family_number (cond is_one Ipv4 Ipv6) ≡ n
number_by n true e h = sym (eqb-true n 1 e)
number_by n false e h = sym (eqb-true n 2 h)

-- a content that is a family's
family_is : (content : List ℕ) → is_family content ≡ true → FamilySpells (family_in content) content
family_is content h =
    let a = and_parts (eqb (length content) 2 && eqb (get_or content 0 0) 0) (eqb (get_or content 1 0) 1 || eqb (get_or content 1 0) 2) h in
    let b = and_parts (eqb (length content) 2) (eqb (get_or content 0 0) 0) a.0 in
    two_cells content (eqb-true (length content) 2 b.0) ∙ ap (λ (n : ℕ). n ∷ get_or content 1 0 ∷ []) (eqb-true (get_or content 0 0) 0 b.1)
    ∙ ap (λ (n : ℕ). 0 ∷ n ∷ []) (sym (number_by (get_or content 1 0) (eqb (get_or content 1 0) 1) refl a.1))

-- the family of the number
family_again : (family : AddressFamily) → family_in (0 ∷ family_number family ∷ []) ≡ family
family_again Ipv4 = refl
family_again Ipv6 = refl

pub exact_address_family : (before : Option AddressFamily) → ExactElement (address_family before) (address_family_at before)
unfolding address_family address_family_at
exact_address_family before =
    exact_field 4 (λ content. []) (family_rules before) family_in FamilySpells
    (exact_primitive FamilySpells (family_rules before) family_in
    (λ content bytes kept.
    let k = kept_first 8 (not (is_family content) || eqb (get_or content 1 0) (number_before before)) ((12, ltb (get_or content 1 0) (number_before before)) ∷ []) kept in
    family_is content (not-false (is_family content) (or_parts (not (is_family content)) (eqb (get_or content 1 0) (number_before before)) k.0).0))
    (λ content family kept s. ap family_in s ∙ family_again family))

-- ---- the prefix and its maximum

pub exact_address : (family : AddressFamily) → ExactElement (address family) (address_at family)
unfolding address address_at
exact_address family =
    exact_field 3 (λ content. (4, not (is_bit_string content)) ∷ []) (λ content. (10, ltb (family_width family) (bit_count content)) ∷ []) (prefix_in family) (PrefixSpells family)
    (exact_primitive (PrefixSpells family) (address_rules family) (prefix_in family)
    (λ content bytes kept. record { bits = bits_value content; spelled = bits_spelled content (not-false (is_bit_string content) (kept_first 4 (not (is_bit_string content)) ((10, ltb (family_width family) (bit_count content)) ∷ []) kept).0); is = refl })
    (λ content prefix kept s. ap (of_bits family) (ap bits_value s.spelled.counted ∙ taken s.spelled.unused s.spelled.body s.bits s.spelled.padded) ∙ sym s.is))

-- the content of a maximum length that keeps its rules is in range, and not the length of the prefix
pub maximum_kept : (prefix : IpPrefix) (content : List ℕ) → KeepsRules (maximum_rules prefix content)
    → KeepsRules (between_rules (block_of prefix).len (width_of prefix) 11 content) × (eqb (number content) (block_of prefix).len ≡ false)
maximum_kept prefix content kept =
    let out : Bool = is_negative content || ltb (number content) (block_of prefix).len || ltb (width_of prefix) (number content) in
    let whole = kept_first 4 (not (is_integer content)) ((11, out) ∷ needed_rules prefix content) kept in
    let within = kept_first 11 out (needed_rules prefix content) whole.1 in
    (kept_on 4 (not (is_integer content)) ((11, out) ∷ []) whole.0 (kept_on 11 out [] within.0 refl), (kept_first 20 (eqb (number content) (block_of prefix).len) [] within.1).0)

-- and the other way round
pub maximum_keeps : (prefix : IpPrefix) (content : List ℕ) → KeepsRules (between_rules (block_of prefix).len (width_of prefix) 11 content) → eqb (number content) (block_of prefix).len ≡ false
    → KeepsRules (maximum_rules prefix content)
maximum_keeps prefix content kept needed =
    let out : Bool = is_negative content || ltb (number content) (block_of prefix).len || ltb (width_of prefix) (number content) in
    let whole = kept_first 4 (not (is_integer content)) ((11, out) ∷ []) kept in
    kept_on 4 (not (is_integer content)) ((11, out) ∷ needed_rules prefix content) whole.0
    (kept_on 11 out (needed_rules prefix content) (kept_first 11 out [] whole.1).0 (kept_on 20 (eqb (number content) (block_of prefix).len) [] needed refl))

pub exact_max_length : (prefix : IpPrefix) → ExactElement (max_length prefix) (max_length_at prefix)
unfolding max_length max_length_at
exact_max_length prefix =
    exact_field 2 (λ content. (4, not (is_integer content)) ∷ []) (λ content. range_rules (block_of prefix).len (width_of prefix) 11 content ++ needed_rules prefix content) number (λ n content. IntSpells (pos n) content)
    (exact_primitive (λ n content. IntSpells (pos n) content) (maximum_rules prefix) number
    (λ content bytes kept. let k = between_kept (block_of prefix).len (width_of prefix) 11 content (maximum_kept prefix content kept).0 in record { value = value_is content k.1; fewest = k.0 })
    (λ content n kept s. let k = between_kept (block_of prefix).len (width_of prefix) 11 content (maximum_kept prefix content kept).0 in pos_is (number content) n (sym (value_is content k.1) ∙ s.value)))
