-- An object in DER is an element in BER, and what is written for it is itself.
use Rattle.std.proofs.Common.{◌≡◌, ◌⊎◌, ℕ, suc, ◌+◌, ◌-◌, ◌<◌, ◌≤◌, ◌||◌, not, Bool, true, false, eqb, ltb, leb, List, [], ◌∷◌, ◌++◌, length, Some, None, refl, sym, ap, subst, ◌∙◌, arith, inl, inr}
use Rattle.std.proofs.lemmas.Bool.{cases_lt, lt-ltb, le-ltb, ltb-true, lt-leb, ne_eqb}
use Rattle.std.proofs.lemmas.Bool.Decides.{nat_tests}
use Rattle.std.proofs.lemmas.List.{append-nil}
use lib.Pointwise.{pointwise, bytes_decides}
use Rattle.der_lite.specs.Place.{first_of}
use Rattle.der_lite.specs.Der.{INTEGER, OBJECT_IDENTIFIER, OCTET_STRING, SEQUENCE, EXPLICIT_0, Tlv, tlv, number, length_bytes, announced, told_length}
use Rattle.der_lite.specs.Grammar.{Element, KeepsRules, SplitsBytes, EachSpells}
use Rattle.der_lite.proofs.Lengths.{Tells, is_fewest, length_tells}
use Rattle.signed_objects.specs.declared.form.Form.{Form}
use Rattle.signed_objects.specs.declared.form.Form.TheVariants.{Member, Der}
use Rattle.der_forms.specs.Combinators.{holding_one}
use Rattle.signed_objects.specs.Oids.{object_identifier}
use Rattle.signed_objects.specs.Attributes.{SET, Attribute, Said, attribute}
use Rattle.signed_objects.specs.Certificates.{Key, certificate}
use Rattle.signed_objects.specs.Cms.{is_algorithm, sha_256, pkcs_1, is_rsa, digest_algorithm, signature_algorithm, IMPLICIT_0, signer_identifier, signed_attributes, Signer, SignedParts, signature_members, signed_members, signer_members, signer_info, digest_algorithms, content, encapsulated, certificates, signer_infos, ObjectParts, SignedBy, signed_by, signed_data_members, signed_data, wrapped_data, content_info, object}
use Rattle.signed_objects.specs.Parts.{Members}
use Rattle.signed_objects.specs.Ber.{is_primitive, tag_rules, length_by, length_from, length_octets, head, contents, form_inside, der_tag, element}
use Rattle.signed_objects.specs.BerObjects.{DerIsKept, DerIsObject}

-- ---- lengths

-- a number below 2^32 breaks no bound
keeps_bound : (fault n : ℕ) → n < 4294967296 → first_of ((fault, leb 4294967296 n) ∷ []) ≡ None
keeps_bound fault n low = rw (lt-leb 4294967296 n low) refl

-- the short form
in_short_form : (is_short is_open : Bool) (first n : ℕ) (more : List ℕ) → is_short ≡ true → more ≡ [] → first ≡ n → (length_by is_short is_open first).Spells (Some n) more
in_short_form true is_open first n more short none same = (none, ap (λ (k : ℕ). Some k) same)
in_short_form false is_open first n more short none same = absurd cc

-- the long form
in_long_form : (is_short is_open : Bool) (first n : ℕ) (more : List ℕ) → is_short ≡ false → is_open ≡ false → first - 128 ≡ length more → length more < 127 → number more ≡ n → n < 4294967296 → (length_by is_short is_open first).Spells (Some n) more
in_long_form true is_open first n more long closed count few told low = absurd cc
in_long_form false true first n more long closed count few told low = absurd cc
in_long_form false false first n more long closed count few told low =
    let other : eqb (first - 128) 127 ≡ false = ne_eqb (first - 128) 127 (λ e. omega (arith, e, count, few)) in
    let counted : first_of ((39, eqb (first - 128) 127) ∷ []) ≡ None = rw other refl in
    let bounded : first_of ((39, leb 4294967296 (number more)) ∷ []) ≡ None = keeps_bound 39 (number more) (omega (arith, told, low)) in
    (counted, (more, more, [], record { parts = sym (append-nil more) }, (refl, sym count), (bounded, (refl, ap (λ (k : ℕ). Some k) told))))

-- a first octet below 128 announces none
none_more : (first : ℕ) (more : List ℕ) → first < 128 → announced first ≡ length more → more ≡ []
none_more first [] low counted = refl
none_more first (next ∷ others) low counted = absurd (let few : announced first ≡ 0 = grind (arith, nat_tests) in omega (arith, few, counted))

-- how many octets a first one announces
announced_is : (first k : ℕ) → announced first ≡ k → 0 < k → (first ≡ 128 + k) × (k < 5)
announced_is first k h p = grind (arith, nat_tests)

-- one of 128 and more announces some
some_more : (first : ℕ) (more : List ℕ) → 128 ≤ first → announced first ≡ length more → is_fewest first more ≡ true → (first ≡ 128 + length more) × (length more < 5) × (0 < length more)
some_more first [] high counted fewest = absurd (let low : first < 128 = ltb-true first 128 fewest in omega (arith, low, high))
some_more first (next ∷ others) high counted fewest =
    let some : 0 < length (next ∷ others) = omega arith in
    let said : (first ≡ 128 + length (next ∷ others)) × (length (next ∷ others) < 5) = announced_is first (length (next ∷ others)) counted some in
    (said.0, said.1, some)

-- octets that tell a length in the fewest are one of its forms
tells_length : (n first : ℕ) (more : List ℕ) → n < 4294967296 → Tells n first more → (length_from first).Spells (Some n) more
tells_length n first more low t =
    elim (cases_lt first 128) [
      | inl a ↦
          let told : told_length (first ∷ more) ≡ first = rw (lt-ltb first 128 a) refl in
          in_short_form (ltb first 128) (eqb first 128) first n more (lt-ltb first 128 a) (none_more first more a t.counted) (sym told ∙ t.told)
      | inr b ↦
          let said : (first ≡ 128 + length more) × (length more < 5) × (0 < length more) = some_more first more b t.counted t.fewest in
          let told : told_length (first ∷ more) ≡ number more = rw (le-ltb first 128 b) refl in
          in_long_form (ltb first 128) (eqb first 128) first n more (le-ltb first 128 b) (ne_eqb first 128 (λ e. omega (arith, e, said.0, said.2))) (omega (arith, said.0)) (omega (arith, said.1)) (sym told ∙ t.told) low
    ]

-- A length in DER is one in BER.
length_spelled : (n : ℕ) → n < 4294967296 → length_octets.Spells (Some n) (length_bytes n)
unfolding length_octets
length_spelled n low =
    let t : (first : ℕ) × (more : List ℕ) × Tells n first more = length_tells n (omega (arith, low)) in
    (t.0, t.0 ∷ [], t.1, record { parts = t.2.spelled }, refl, tells_length n t.0 t.1 low t.2)

-- ---- elements

-- tag and length
head_spelled : (form : Form) (tag n : ℕ) → KeepsRules (tag_rules form tag) → n < 4294967296 → (head form).Spells (tag, Some n) (tag ∷ length_bytes n)
unfolding head
head_spelled form tag n keeps low =
    (tag, tag ∷ [], length_bytes n, record { parts = refl }, refl, (keeps, (Some n, length_bytes n, [], record { parts = sym (append-nil (length_bytes n)) }, length_spelled n low, (refl, (refl, refl)))))

-- Octets that are an element in BER, which become themselves.
abbrev pub Kept : ℕ → Form → List ℕ → Type 0
Kept levels form bytes = (element levels form).Spells bytes bytes

-- Octets that are elements in BER one after the other, which become themselves.
abbrev pub AllKept : ℕ → Form → List ℕ → Type 0
AllKept levels form bytes = Members (element levels form) bytes bytes

-- the octets of the tag and the length
abbrev front_of : ℕ → List ℕ → List ℕ
front_of tag content = tag ∷ length_bytes (length content)

-- contents that stay as they are
taken_kept : (taken : Bool) (levels : ℕ) (form : Form) (content : List ℕ) → taken ≡ true → (contents taken (Some (length content)) (element levels form)).Spells content content
taken_kept true levels form content is = (refl, refl)
taken_kept false levels form content is = absurd cc

-- contents that are elements
filled_kept : (taken : Bool) (levels : ℕ) (form : Form) (content : List ℕ) → taken ≡ false → AllKept levels form content → (contents taken (Some (length content)) (element levels form)).Spells content content
filled_kept true levels form content is all = absurd cc
filled_kept false levels form content is all = (refl, all)

-- an element that is in DER
der_kept : (levels tag : ℕ) (content bytes : List ℕ) → KeepsRules (tag_rules Der tag) → Tlv tag content bytes → Kept (suc levels) Der bytes
unfolding element
der_kept levels tag content bytes keeps t = (
  (front_of tag content, (tag, Some (length content))),
  front_of tag content,
  content,
  record { parts = t.spelled },
  (refl, head_spelled Der tag (length content) keeps (omega (arith, t.short))),
  (content, content, [], record { parts = sym (append-nil content) }, (refl, refl), (refl, sym t.spelled)),
)

module _ (levels tag : ℕ) (content bytes : List ℕ) (keeps : KeepsRules (tag_rules Member tag)) (same : der_tag tag ≡ tag) (t : Tlv tag content bytes) where
  -- what is written for such an element
  written_kept : (inside : Form) (taken : Bool) → (contents taken (Some (length content)) (element levels inside)).Spells content content → is_primitive tag ≡ taken → inside ≡ form_inside (15 - levels) Member tag → Kept (suc levels) Member bytes
  unfolding element
  written_kept inside taken inner is form =
      let inner_is : (contents (is_primitive tag) (Some (length content)) (element levels (form_inside (15 - levels) Member tag))).Spells content content =
      subst (λ (f : Form). (contents (is_primitive tag) (Some (length content)) (element levels f)).Spells content content) form
      (subst (λ (b : Bool). (contents b (Some (length content)) (element levels inside)).Spells content content) (sym is) inner) in
      let written_is : tlv (der_tag tag) content ≡ bytes = ap (λ (k : ℕ). tlv k content) same ∙ sym t.spelled in (
        (front_of tag content, (tag, Some (length content))),
        front_of tag content,
        content,
        record { parts = t.spelled },
        (refl, head_spelled Member tag (length content) keeps (omega (arith, t.short))),
        (content, content, [], record { parts = sym (append-nil content) }, inner_is, (keeps_bound 42 (length content) (omega (arith, t.short)), (refl, written_is))),
      )

  -- a primitive element
  pub primitive_kept : is_primitive tag ≡ true → Kept (suc levels) Member bytes
  primitive_kept is = written_kept (form_inside (15 - levels) Member tag) true (taken_kept true levels (form_inside (15 - levels) Member tag) content refl) is refl

  -- an element that holds others, which are of this form
  pub holder_kept : (inside : Form) → is_primitive tag ≡ false → inside ≡ form_inside (15 - levels) Member tag → AllKept levels inside content → Kept (suc levels) Member bytes
  holder_kept inside is form all = written_kept inside false (filled_kept false levels inside content refl all) is form

-- ---- elements one after the other

module _ (levels : ℕ) (form : Form) where
  pub none_kept : (bytes : List ℕ) → bytes ≡ [] → AllKept levels form bytes
  none_kept bytes e = record { values = []; each = e; is = sym e }

  pub more_kept : (front rest bytes : List ℕ) → SplitsBytes bytes front rest → Kept levels form front → AllKept levels form rest → AllKept levels form bytes
  more_kept front rest bytes split first others =
      record { values = front ∷ others.values; each = (front, rest, split, first, others.each); is = ap (λ (l : List ℕ). front ++ l) others.is ∙ sym split.parts }

  pub last_kept : (bytes : List ℕ) → Kept levels form bytes → AllKept levels form bytes
  last_kept bytes first = more_kept bytes [] bytes (record { parts = sym (append-nil bytes) }) first (none_kept [] refl)

-- ---- algorithms

-- one of two tests holds
either_true : (x y : Bool) → (x || y) ≡ true → (x ≡ true) ⊎ (y ≡ true)
either_true true y h = inl refl
either_true false y h = inr h

-- a rule that is kept
holds_by_rule : (fault : ℕ) (b : Bool) → first_of ((fault, not b) ∷ []) ≡ None → b ≡ true
holds_by_rule fault true h = refl
holds_by_rule fault false h = absurd cc

module _ (levels : ℕ) (oid inner : List ℕ) (short : length oid < 4294967296) (told : tlv OBJECT_IDENTIFIER oid ≡ OBJECT_IDENTIFIER ∷ length oid ∷ oid) where
  -- the OBJECT IDENTIFIER
  oid_kept : Kept (suc levels) Member (OBJECT_IDENTIFIER ∷ length oid ∷ oid)
  oid_kept = primitive_kept levels OBJECT_IDENTIFIER oid (OBJECT_IDENTIFIER ∷ length oid ∷ oid) refl refl (record { short = omega (arith, short); spelled = sym told }) refl

  -- NULL
  null_kept : Kept (suc levels) Member (5 ∷ 0 ∷ [])
  unfolding length_bytes
  null_kept = primitive_kept levels 5 [] (5 ∷ 0 ∷ []) refl refl (record { short = omega arith; spelled = refl }) refl

  -- the content of an AlgorithmIdentifier
  algorithm_kept : is_algorithm oid inner ≡ true → AllKept (suc levels) Member inner
  algorithm_kept is =
      elim (either_true (pointwise eqb inner (OBJECT_IDENTIFIER ∷ length oid ∷ oid)) (pointwise eqb inner (OBJECT_IDENTIFIER ∷ length oid ∷ oid ++ 5 ∷ 0 ∷ [])) is) [
        | inl a ↦
            let same : inner ≡ OBJECT_IDENTIFIER ∷ length oid ∷ oid = (bytes_decides inner (OBJECT_IDENTIFIER ∷ length oid ∷ oid)).0 a in
            last_kept (suc levels) Member inner (subst (λ (bytes : List ℕ). Kept (suc levels) Member bytes) (sym same) oid_kept)
        | inr b ↦
            let same : inner ≡ OBJECT_IDENTIFIER ∷ length oid ∷ oid ++ 5 ∷ 0 ∷ [] = (bytes_decides inner (OBJECT_IDENTIFIER ∷ length oid ∷ oid ++ 5 ∷ 0 ∷ [])).0 b in
            more_kept (suc levels) Member (OBJECT_IDENTIFIER ∷ length oid ∷ oid) (5 ∷ 0 ∷ []) inner (record { parts = same }) oid_kept (last_kept (suc levels) Member (5 ∷ 0 ∷ []) null_kept)
      ]

-- the content is that of SHA-256
sha_256_kept : (levels : ℕ) (inner : List ℕ) → is_algorithm sha_256 inner ≡ true → AllKept (suc levels) Member inner
unfolding length_bytes
sha_256_kept levels inner is = algorithm_kept levels sha_256 inner (omega arith) refl is

-- the content is that of one of two names of RSA
rsa_kept : (levels : ℕ) (inner : List ℕ) → is_rsa inner ≡ true → AllKept (suc levels) Member inner
unfolding length_bytes
rsa_kept levels inner is =
    elim (either_true (is_algorithm (pkcs_1 1) inner) (is_algorithm (pkcs_1 11) inner) is) [
      | inl a ↦ algorithm_kept levels (pkcs_1 1) inner (omega arith) refl a
      | inr b ↦ algorithm_kept levels (pkcs_1 11) inner (omega arith) refl b
    ]

digest_algorithm_kept : (levels : ℕ) (v bytes : List ℕ) → digest_algorithm.Spells v bytes → Kept (suc (suc levels)) Member bytes
unfolding digest_algorithm
digest_algorithm_kept levels v bytes s =
    holder_kept (suc levels) SEQUENCE s.0 bytes refl refl s.1 Member refl refl (sha_256_kept levels s.0 (holds_by_rule 9 (is_algorithm sha_256 s.0) s.2.1))

signature_algorithm_kept : (levels : ℕ) (v bytes : List ℕ) → signature_algorithm.Spells v bytes → Kept (suc (suc levels)) Member bytes
unfolding signature_algorithm
signature_algorithm_kept levels v bytes s =
    holder_kept (suc levels) SEQUENCE s.0 bytes refl refl s.1 Member refl refl (rsa_kept levels s.0 (holds_by_rule 29 (is_rsa s.0) s.2.1))

-- ---- the signer

-- an attribute, which is copied
attribute_kept : (levels : ℕ) (before : List Attribute) (v : Attribute) (bytes : List ℕ) → (attribute before).Spells v bytes → Kept (suc levels) Der bytes
unfolding attribute
attribute_kept levels before v bytes s = der_kept levels SEQUENCE s.0 bytes refl s.1

attributes_kept : (levels : ℕ) (before others : List Attribute) (bytes : List ℕ) → EachSpells attribute before others bytes → AllKept (suc levels) Der bytes
attributes_kept levels before [] bytes s = none_kept (suc levels) Der bytes s
attributes_kept levels before (a ∷ others) bytes s =
    more_kept (suc levels) Der s.0 s.1 bytes s.2 (attribute_kept levels before a s.0 s.3) (attributes_kept levels (before ++ a ∷ []) others s.1 s.4)

-- signedAttrs, at depth 5
signed_attributes_kept : (v : List ℕ × Said) (bytes : List ℕ) → signed_attributes.Spells v bytes → Kept 11 Member bytes
unfolding signed_attributes
signed_attributes_kept v bytes s =
    holder_kept 10 EXPLICIT_0 s.0 bytes refl refl s.1 Der refl refl (attributes_kept 9 [] s.2.1.0 s.0 s.2.1.1.1)

signature_members_kept : (v bytes : List ℕ) → signature_members.Spells v bytes → AllKept 11 Member bytes
signature_members_kept v bytes s =
    let m = s.1 in
    let n = m.4 in
    more_kept 11 Member m.0 m.1 bytes m.2 (signature_algorithm_kept 9 s.0.0 m.0 m.3)
    (more_kept 11 Member n.0 n.1 m.1 n.2 (primitive_kept 10 OCTET_STRING n.3.0 n.0 refl refl n.3.1 refl) (none_kept 11 Member n.1 n.4))

signed_members_kept : (v : SignedParts) (bytes : List ℕ) → signed_members.Spells v bytes → AllKept 11 Member bytes
signed_members_kept v bytes s =
    let m = s.1 in
    let n = m.4 in
    more_kept 11 Member m.0 m.1 bytes m.2 (digest_algorithm_kept 9 s.0.0 m.0 m.3)
    (more_kept 11 Member n.0 n.1 m.1 n.2 (signed_attributes_kept s.0.1.0 n.0 n.3) (signature_members_kept s.0.1.1 n.1 n.4))

signer_members_kept : (v : Signer) (bytes : List ℕ) → signer_members.Spells v bytes → AllKept 11 Member bytes
unfolding signer_identifier
signer_members_kept v bytes s =
    let m = s.1 in
    let n = m.4 in
    more_kept 11 Member m.0 m.1 bytes m.2 (primitive_kept 10 INTEGER m.3.0 m.0 refl refl m.3.1 refl)
    (more_kept 11 Member n.0 n.1 m.1 n.2 (primitive_kept 10 IMPLICIT_0 n.3.0 n.0 refl refl n.3.1 refl) (signed_members_kept s.0.1.1 n.1 n.4))

signer_info_kept : (v : Signer) (bytes : List ℕ) → signer_info.Spells v bytes → Kept 12 Member bytes
unfolding signer_info
signer_info_kept v bytes s = holder_kept 11 SEQUENCE s.0 bytes refl refl s.1 Member refl refl (signer_members_kept v s.0 s.2.1)

-- ---- SignedData

-- one element, which is kept
one_kept : {V : Type 0} (number levels : ℕ) (form : Form) (e : Element V) (v : V) (bytes : List ℕ) → (holding_one number e).Spells v bytes → ((w : V) (front : List ℕ) → e.Spells w front → Kept levels form front) → AllKept levels form bytes
one_kept {V} number levels form e v bytes s first =
    let m = s.1.1 in
    more_kept levels form m.0 m.1 bytes m.2 (first s.1.0.0 m.0 m.3) (none_kept levels form m.1 m.4)

digest_algorithms_kept : (v bytes : List ℕ) → digest_algorithms.Spells v bytes → Kept 13 Member bytes
unfolding digest_algorithms
digest_algorithms_kept v bytes s =
    holder_kept 12 SET s.0 bytes refl refl s.1 Member refl refl (one_kept 8 12 Member digest_algorithm v s.0 s.2 (digest_algorithm_kept 10))

-- eContent
content_kept : (v bytes : List ℕ) → content.Spells v bytes → Kept 12 Member bytes
unfolding content
content_kept v bytes s =
    let inner = s.2.1 in
    holder_kept 11 EXPLICIT_0 s.0 bytes refl refl s.1 Member refl refl (last_kept 11 Member s.0 (primitive_kept 10 OCTET_STRING inner.0 s.0 refl refl inner.1 refl))

encapsulated_kept : (v : List ℕ × List ℕ) (bytes : List ℕ) → encapsulated.Spells v bytes → Kept 13 Member bytes
unfolding encapsulated object_identifier
encapsulated_kept v bytes s =
    let m = s.2.1 in
    holder_kept 12 SEQUENCE s.0 bytes refl refl s.1 Member refl refl
    (more_kept 12 Member m.0 m.1 s.0 m.2 (primitive_kept 11 OBJECT_IDENTIFIER m.3.0 m.0 refl refl m.3.1 refl) (last_kept 12 Member m.1 (content_kept v.1 m.1 m.4)))

-- a certificate, which is copied
certificate_kept : (v : List ℕ × Key) (bytes : List ℕ) → certificate.Spells v bytes → Kept 12 Der bytes
unfolding certificate
certificate_kept v bytes s = der_kept 11 SEQUENCE s.1.0 bytes refl s.1.1

-- certificates, at depth 3
certificates_kept : (v : List ℕ × Key) (bytes : List ℕ) → certificates.Spells v bytes → Kept 13 Member bytes
unfolding certificates
certificates_kept v bytes s =
    holder_kept 12 EXPLICIT_0 s.0 bytes refl refl s.1 Der refl refl (one_kept 11 12 Der certificate v s.0 s.2 certificate_kept)

signer_infos_kept : (v : Signer) (bytes : List ℕ) → signer_infos.Spells v bytes → Kept 13 Member bytes
unfolding signer_infos
signer_infos_kept v bytes s =
    holder_kept 12 SET s.0 bytes refl refl s.1 Member refl refl (one_kept 19 12 Member signer_info v s.0 s.2 signer_info_kept)

signed_by_kept : (v : SignedBy) (bytes : List ℕ) → signed_by.Spells v bytes → AllKept 13 Member bytes
signed_by_kept v bytes s = more_kept 13 Member s.0 s.1 bytes s.2 (certificates_kept v.0 s.0 s.3) (last_kept 13 Member s.1 (signer_infos_kept v.1 s.1 s.4))

signed_data_members_kept : (v : ObjectParts) (bytes : List ℕ) → signed_data_members.Spells v bytes → AllKept 13 Member bytes
signed_data_members_kept v bytes s =
    let m = s.1 in
    let n = m.4 in
    let o = n.4 in
    more_kept 13 Member m.0 m.1 bytes m.2 (primitive_kept 12 INTEGER m.3.0 m.0 refl refl m.3.1 refl)
    (more_kept 13 Member n.0 n.1 m.1 n.2 (digest_algorithms_kept s.0.1.0 n.0 n.3)
    (more_kept 13 Member o.0 o.1 n.1 o.2 (encapsulated_kept s.0.1.1.0 o.0 o.3) (signed_by_kept s.0.1.1.1 o.1 o.4)))

signed_data_kept : (v : ObjectParts) (bytes : List ℕ) → signed_data.Spells v bytes → Kept 14 Member bytes
unfolding signed_data
signed_data_kept v bytes s = holder_kept 13 SEQUENCE s.0 bytes refl refl s.1 Member refl refl (signed_data_members_kept v s.0 s.2.1)

-- ---- the object

wrapped_data_kept : (v : ObjectParts) (bytes : List ℕ) → wrapped_data.Spells v bytes → Kept 15 Member bytes
unfolding wrapped_data
wrapped_data_kept v bytes s = holder_kept 14 EXPLICIT_0 s.0 bytes refl refl s.1 Member refl refl (last_kept 14 Member s.0 (signed_data_kept v s.0 s.2.1))

content_info_kept : (v : ObjectParts) (bytes : List ℕ) → content_info.Spells v bytes → Kept 16 Member bytes
unfolding content_info
content_info_kept v bytes s =
    let told = s.2.1 in
    let m = told.1 in
    holder_kept 15 SEQUENCE s.0 bytes refl refl s.1 Member refl refl
    (more_kept 15 Member m.0 m.1 s.0 m.2 (primitive_kept 14 OBJECT_IDENTIFIER m.3.0 m.0 refl refl m.3.1 refl) (last_kept 15 Member m.1 (wrapped_data_kept told.0.1 m.1 m.4)))

pub kept_law : DerIsKept
unfolding object
kept_law der value o = content_info_kept o.parts der o.spelled

pub read_law : DerIsObject
read_law der value o = record { der = der; same = kept_law der value o; object = o }
