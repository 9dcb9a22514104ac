-- Reading a signed object in DER is exact.
use Rattle.std.proofs.Common.{◌≡◌, ℕ, zero, suc, Bool, true, false, not, bytes_eq, List, [], ◌∷◌, drop, Option, Some, None, Result, Ok, Err, refl, sym, ap, subst, ◌∙◌}
use Rattle.std.specs.Option.{is_none}
use Rattle.std.proofs.lemmas.Bool.{not-false, eqb-true}
use Rattle.std.proofs.lemmas.Slice.Eq.{bytes_eq-Decides}
use Rattle.der_lite.specs.Place.{Fault, place_of}
use Rattle.der_lite.specs.Der.{IsBytes, is_integer, head_rules}
use Rattle.der_lite.specs.Grammar.{Element, Members, element, primitive, constructed, plain, last, member, each}
use Rattle.der_lite.specs.DerReading.{integer_at, octets_at}
use Rattle.der_lite.specs.Decoding.{Read, ReadAll, read_primitive, read_constructed, read_member, read_each}
use Rattle.der_lite.specs.Fields.{last_at}
use Rattle.der_lite.proofs.Rules.{kept_first}
use Rattle.der_lite.proofs.Exact.{ExactElement, ExactMembers, ExactContent, exact_primitive, exact_constructed, exact_member, exact_each}
use Rattle.der_lite.proofs.ContentReads.{exact_plain}
use Rattle.der_lite.proofs.FieldLaws.{exact_field, exact_last_at}
use Rattle.signed_objects.specs.declared.attribute.AttributeType.{AttributeType}
use Rattle.signed_objects.specs.declared.attribute.AttributeType.TheVariants.{ContentType, MessageDigest, SigningTime, BinarySigningTime}
use Rattle.der_forms.specs.Combinators.{needed_octets, FixedSpells, fixed_rules, fixed, no_rules, needed, barred, nothing, told, told_content, first_part, holding_one, with_octets, spelling}
use Rattle.der_forms.specs.CombinatorReading.{octets_of, needed_octets_at, nothing_at, told_at, told_content_at, with_octets_at, one_of, read_value}
use Rattle.signed_objects.specs.Oids.{oid_rules, object_identifier}
use Rattle.signed_objects.specs.Attributes.{SET, UTC_TIME, GENERAL_TIME, Attribute, oid_of, type_in, is_among, type_rules, TypeSpells, attribute_type, signing_time, integer_rules, attribute_value, attribute_values, attribute_members, attribute, attribute_rules, said_by, attributes_content}
use Rattle.signed_objects.specs.Certificates as c
use Rattle.signed_objects.specs.Cms as cms
use Rattle.signed_objects.specs.Reading as r
use Rattle.signed_objects.specs.Reading.{Found, found_in, is_found, found_rules, found_type, type_of, attribute_type_at, signing_time_at, attribute_value_at, attribute_values_at, attribute_from, attribute_at, attributes_at}
use Rattle.der_forms.proofs.ExactCombinators.{exact_behind, exact_opened, exact_needed_octets, exact_fixed_content, exact_fixed, exact_nothing, exact_told, exact_told_content, exact_one, exact_anything, exact_octets, exact_standing, exact_either, exact_spelling, needed_follow, barred_follow}

-- ---- identifiers

exact_oid : ExactElement object_identifier r.object_identifier_at
unfolding object_identifier r.object_identifier_at
exact_oid = exact_plain 6 oid_rules

-- ---- attributes

-- what was found among attributes has a type exactly if one of them does
among_is : (before : List Attribute) (type : Option AttributeType) → is_found (found_in before) type ≡ is_among before type
among_is before None = refl
among_is before (Some ContentType) = refl
among_is before (Some MessageDigest) = refl
among_is before (Some SigningTime) = refl
among_is before (Some BinarySigningTime) = refl

-- the types are known by their identifiers
known : (type : AttributeType) → type_in (oid_of type) ≡ Some type
unfolding type_in
known ContentType = refl
known MessageDigest = refl
known SigningTime = refl
known BinarySigningTime = refl

-- an identifier that is known is that of its type
four : (a b c d : Bool) (content : List ℕ) → bytes_eq content (oid_of ContentType) ≡ a → bytes_eq content (oid_of MessageDigest) ≡ b → bytes_eq content (oid_of SigningTime) ≡ c → bytes_eq content (oid_of BinarySigningTime) ≡ d
    → is_none (type_in content) ≡ false → content ≡ oid_of (type_of content)
unfolding type_in
four true b c d content ha hb hc hd h = rw ha ((bytes_eq-Decides content (oid_of ContentType)).0 ha)
four false true c d content ha hb hc hd h = rw (ha, hb) ((bytes_eq-Decides content (oid_of MessageDigest)).0 hb)
four false false true d content ha hb hc hd h = rw (ha, hb, hc) ((bytes_eq-Decides content (oid_of SigningTime)).0 hc)
four false false false true content ha hb hc hd h = rw (ha, hb, hc, hd) ((bytes_eq-Decides content (oid_of BinarySigningTime)).0 hd)
four false false false false content ha hb hc hd h = absurd (let g : is_none (type_in content) ≡ true = rw (ha, hb, hc, hd) refl in cc)

type_is : (content : List ℕ) → is_none (type_in content) ≡ false → content ≡ oid_of (type_of content)
type_is content h = four (bytes_eq content (oid_of ContentType)) (bytes_eq content (oid_of MessageDigest)) (bytes_eq content (oid_of SigningTime)) (bytes_eq content (oid_of BinarySigningTime)) content refl refl refl refl h

-- the rules by what was found are those by the attributes
rules_are : (before : List Attribute) (content : List ℕ) → type_rules before content ≡ found_rules (found_in before) content
rules_are before content = ap (λ (b : Bool). (23, is_none (type_in content)) ∷ (24, b) ∷ []) (sym (among_is before (type_in content)))

-- by the values that were found
exact_found : (found : Found) → ExactElement (element 6 (head_rules 6) (primitive TypeSpells (found_rules found))) (attribute_type_at found)
unfolding attribute_type_at
exact_found found =
    exact_field 6 no_rules (found_rules found) type_of TypeSpells
    (exact_primitive TypeSpells (found_rules found) type_of
    (λ content bytes kept. type_is content (kept_first 23 (is_none (type_in content)) ((24, is_found found (type_in content)) ∷ []) kept).0)
    (λ content type kept s. ap (λ (l : List ℕ). type_of l) s ∙ ap found_type (known type)))

exact_type : (before : List Attribute) → ExactElement (attribute_type before) (attribute_type_at (found_in before))
unfolding attribute_type
exact_type before =
    subst (λ (rules : List ℕ → List (ℕ × Bool)). ExactElement (element 6 (head_rules 6) (primitive TypeSpells rules)) (attribute_type_at (found_in before)))
    (λ i content. sym (rules_are before content) i) (exact_found (found_in before))

exact_time : ExactElement signing_time signing_time_at
unfolding signing_time signing_time_at
exact_time = exact_either UTC_TIME (plain UTC_TIME no_rules) (needed_octets 26 GENERAL_TIME) (octets_of UTC_TIME) (needed_octets_at 26 GENERAL_TIME) (exact_plain UTC_TIME no_rules) (exact_needed_octets 26 GENERAL_TIME)

exact_value : (type : AttributeType) → ExactElement (attribute_value type) (attribute_value_at type)
unfolding attribute_value attribute_value_at
exact_value ContentType = exact_oid
exact_value MessageDigest = exact_plain 4 no_rules
exact_value SigningTime = exact_time
exact_value BinarySigningTime = exact_plain 2 integer_rules

exact_values : (type : AttributeType) → ExactElement (attribute_values type) (attribute_values_at type)
unfolding attribute_values attribute_values_at
exact_values type = exact_opened SET (holding_one 25 (attribute_value type)) (one_of 25 (attribute_value_at type)) (exact_one 25 (attribute_value type) (attribute_value_at type) (exact_value type))

exact_attribute : (before : List Attribute) → ExactElement (attribute before) (attribute_at before)
unfolding attribute attribute_from
exact_attribute before =
    let read = read_member (attribute_type_at (found_in before)) (λ type. last_at (attribute_values_at type)) in
    exact_opened 48 (constructed no_rules (attribute_members before) no_rules) (read_constructed no_rules read no_rules)
    (exact_constructed no_rules (attribute_members before) read no_rules
    (exact_member (attribute_type before) (attribute_type_at (found_in before)) (exact_type before) (λ type. last (attribute_values type)) (λ type. last_at (attribute_values_at type))
    (λ type. exact_last_at (attribute_values type) (attribute_values_at type) (exact_values type))))

exact_attributes : ExactContent attributes_content attributes_at
exact_attributes =
    exact_told_content said_by (constructed no_rules (each attribute) attribute_rules) (read_constructed no_rules (read_each attribute_at) attribute_rules)
    (exact_constructed no_rules (each attribute) (read_each attribute_at) attribute_rules (exact_each attribute attribute_at exact_attribute))

-- ---- the key

-- a content without a zero in front, and with it
after_zero : (content : List ℕ) → c.begins_with_zero content ≡ true → content ≡ 0 ∷ drop 1 content
after_zero [] h = absurd cc
after_zero (first ∷ more) h = ap (λ (n : ℕ). n ∷ more) (eqb-true first 0 h)

exact_modulus : ExactElement c.modulus r.modulus_at
unfolding c.modulus r.modulus_at
exact_modulus =
    exact_field 2 integer_rules c.zero_rules (drop 1) c.ModulusSpells
    (exact_primitive c.ModulusSpells c.modulus_rules (drop 1)
    (λ content bytes kept.
    let k = kept_first 4 (not (is_integer content)) (c.zero_rules content) kept in
    after_zero content (not-false (c.begins_with_zero content) (kept_first 14 (not (c.begins_with_zero content)) [] k.1).0))
    (λ content modulus kept s. ap (λ (l : List ℕ). drop 1 l) s))

exact_exponent : ExactElement c.exponent r.exponent_at
unfolding c.exponent r.exponent_at
exact_exponent = exact_fixed 14 2 (1 ∷ 0 ∷ 1 ∷ [])

pub exact_rsa_key : ExactElement c.rsa_public_key r.rsa_public_key_at
unfolding c.rsa_public_key r.rsa_public_key_at
exact_rsa_key =
    let members = member c.modulus (λ _. last c.exponent) in
    let read = read_member r.modulus_at (λ _. last_at r.exponent_at) in
    exact_opened 48 (constructed no_rules (told {A = List ℕ × Unit {0}} first_part members) no_rules) (read_constructed no_rules (told_at first_part read) no_rules)
    (exact_constructed no_rules (told {A = List ℕ × Unit {0}} first_part members) (told_at first_part read) no_rules
    (exact_told {A = List ℕ × Unit {0}} first_part members read
    (exact_member c.modulus r.modulus_at exact_modulus (λ _. last c.exponent) (λ _. last_at r.exponent_at) (λ _. exact_last_at c.exponent r.exponent_at exact_exponent))))

some_is : {A : Type 0} (a b : A) → Some a ≡ Some b → a ≡ b
some_is a b e = cc

-- a value that was read
value_read : {A : Type 0} (x : Result A Fault) (v : A) → read_value x ≡ Some v → x ≡ Ok v
value_read {A} (Ok w) v e = ap (λ (u : A). Ok u) (some_is w v e)
value_read (Err f) v e = absurd cc

-- the rest of bytes
bytes_behind : (first : ℕ) (more : List ℕ) → IsBytes (first ∷ more) → IsBytes more
bytes_behind first more h i = h (suc i)

key_found : (content key : List ℕ) → IsBytes content → r.key_of content ≡ Some key → c.KeySpells key content
unfolding r.key_of r.key_in
key_found [] key are e = absurd cc
key_found (zero ∷ bytes) key are e =
    record { bytes = bytes; whole = refl; spelled = (exact_last_at c.rsa_public_key r.rsa_public_key_at exact_rsa_key).takes (place_of 0 bytes) key (bytes_behind 0 bytes are) (value_read (r.rsa_public_key_all bytes) key e) }
key_found (suc n ∷ bytes) key are e = absurd cc

key_again : (content key : List ℕ) → c.KeySpells key content → r.key_of content ≡ Some key
unfolding r.key_of r.key_in
key_again content key s =
    ap r.key_of s.whole ∙ ap (λ (x : Result (List ℕ) Fault). read_value x) ((exact_last_at c.rsa_public_key r.rsa_public_key_at exact_rsa_key).again (place_of 0 s.bytes) key s.spelled)

exact_public_key : ExactElement c.public_key r.public_key_at
unfolding c.public_key r.public_key_at
exact_public_key = exact_opened 3 (spelling 14 c.KeySpells) _ (exact_spelling 14 c.KeySpells r.key_of key_found key_again)

exact_key_algorithm : ExactElement c.key_algorithm r.key_algorithm_at
unfolding c.key_algorithm r.key_algorithm_at
exact_key_algorithm = exact_fixed 13 48 c.rsa_key_algorithm

exact_key_info : ExactElement c.key_info r.key_info_at
unfolding c.key_info r.key_info_at
exact_key_info =
    let members = member c.key_algorithm (λ _. last c.public_key) in
    let read = read_member r.key_algorithm_at (λ _. last_at r.public_key_at) in
    exact_opened 48 (constructed no_rules (told {A = Unit {0} × List ℕ} c.second_part members) no_rules) (read_constructed no_rules (told_at c.second_part read) no_rules)
    (exact_constructed no_rules (told {A = Unit {0} × List ℕ} c.second_part members) (told_at c.second_part read) no_rules
    (exact_told {A = Unit {0} × List ℕ} c.second_part members read
    (exact_member c.key_algorithm r.key_algorithm_at exact_key_algorithm (λ _. last c.public_key) (λ _. last_at r.public_key_at) (λ _. exact_last_at c.public_key r.public_key_at exact_public_key))))

-- ---- extensions

exact_id : (came : Bool) → ExactElement (c.extension_id came) (r.extension_id_at came)
unfolding c.extension_id r.extension_id_at r.object_identifier_at
exact_id came =
    exact_field 6 oid_rules (c.id_rules came) (λ id. id) (λ v inner. v ≡ inner)
    (exact_primitive (λ v inner. v ≡ inner) (c.extension_rules came) (λ id. id) (λ inner bytes k. refl) (λ inner v k s. sym s))

exact_key_identifier : ExactElement c.key_identifier r.key_identifier_at
unfolding c.key_identifier r.key_identifier_at
exact_key_identifier =
    let octets = plain 4 no_rules in
    exact_opened 4 (constructed no_rules (last octets) no_rules) (read_constructed no_rules (last_at octets_at) no_rules)
    (exact_constructed no_rules (last octets) (last_at octets_at) no_rules (exact_last_at octets octets_at (exact_plain 4 no_rules)))

exact_extension_value : (names : Bool) → ExactMembers (c.extension_value names) (r.extension_value_at names)
exact_extension_value true = exact_last_at c.key_identifier r.key_identifier_at exact_key_identifier
exact_extension_value false = exact_anything

exact_extension : (before : List c.Extension) → ExactElement (c.extension before) (r.extension_at before)
unfolding c.extension r.extension_from
exact_extension before =
    let came = c.has_identifier before in
    let members = member (c.extension_id came) (λ id. c.extension_value (c.names_key id)) in
    let read = read_member (r.extension_id_at came) (λ id. r.extension_value_at (c.names_key id)) in
    exact_opened 48 (constructed no_rules members no_rules) (read_constructed no_rules read no_rules)
    (exact_constructed no_rules members read no_rules
    (exact_member (c.extension_id came) (r.extension_id_at came) (exact_id came) (λ id. c.extension_value (c.names_key id)) (λ id. r.extension_value_at (c.names_key id)) (λ id. exact_extension_value (c.names_key id))))

exact_extension_list : ExactElement c.extension_list r.extension_list_at
unfolding c.extension_list r.extension_list_at
exact_extension_list =
    let content = constructed no_rules (each c.extension) c.identifier_rules in
    let read = read_constructed no_rules (read_each r.extension_at) c.identifier_rules in
    exact_opened 48 (told_content c.identifier_told content) (told_content_at c.identifier_told read)
    (exact_told_content c.identifier_told content read
    (exact_constructed no_rules (each c.extension) (read_each r.extension_at) c.identifier_rules (exact_each c.extension r.extension_at exact_extension)))

exact_extensions : ExactElement c.extensions r.extensions_at
unfolding c.extensions r.extensions_at
exact_extensions =
    exact_behind (needed 15 163) 163 (constructed no_rules (last c.extension_list) no_rules) (read_constructed no_rules (last_at r.extension_list_at) no_rules) (needed_follow 15 163)
    (exact_constructed no_rules (last c.extension_list) (last_at r.extension_list_at) no_rules (exact_last_at c.extension_list r.extension_list_at exact_extension_list))

-- ---- the certificate

exact_certificate_version : ExactElement c.certificate_version r.certificate_version_at
unfolding c.certificate_version r.certificate_version_at
exact_certificate_version =
    exact_behind (needed 12 160) 160 (primitive (FixedSpells c.version_3) (fixed_rules 12 c.version_3)) (read_primitive (fixed_rules 12 c.version_3) (λ content. tt)) (needed_follow 12 160)
    (exact_fixed_content 12 c.version_3)

exact_passed : ExactElement c.passed r.passed_at
exact_passed = exact_plain 48 no_rules

exact_key_members : ExactMembers c.key_members r.key_members_at
unfolding r.key_members_at
exact_key_members =
    exact_told {A = List ℕ × List ℕ} c.key_of_parts (member c.key_info (λ _. last c.extensions)) (read_member r.key_info_at (λ _. last_at r.extensions_at))
    (exact_member c.key_info r.key_info_at exact_key_info (λ _. last c.extensions) (λ _. last_at r.extensions_at) (λ _. exact_last_at c.extensions r.extensions_at exact_extensions))

-- three members, and others
three : {A B C D : Type 0} → (a : Element A) (ra : Read A) → ExactElement a ra → (b : Element B) (rb : Read B) → ExactElement b rb → (d : Element C) (rd : Read C) → ExactElement d rd → (m : Members D) (rm : ReadAll D) → ExactMembers m rm
    → ExactMembers (told {A = A × (B × (C × D))} (λ v. v.1.1.1) (member a (λ _. member b (λ _. member d (λ _. m))))) (told_at (λ v. v.1.1.1) (read_member ra (λ _. read_member rb (λ _. read_member rd (λ _. rm)))))
three {A} {B} {C} {D} a ra xa b rb xb d rd xd m rm xm =
    exact_told {A = A × (B × (C × D))} (λ v. v.1.1.1) (member a (λ _. member b (λ _. member d (λ _. m)))) (read_member ra (λ _. read_member rb (λ _. read_member rd (λ _. rm))))
    (exact_member a ra xa (λ _. member b (λ _. member d (λ _. m))) (λ _. read_member rb (λ _. read_member rd (λ _. rm)))
    (λ _. exact_member b rb xb (λ _. member d (λ _. m)) (λ _. read_member rd (λ _. rm)) (λ _. exact_member d rd xd (λ _. m) (λ _. rm) (λ _. xm))))

exact_names_members : ExactMembers c.names_members r.names_members_at
unfolding r.names_members_at
exact_names_members = three c.passed r.passed_at exact_passed c.passed r.passed_at exact_passed c.passed r.passed_at exact_passed c.key_members r.key_members_at exact_key_members

exact_tbs_members : ExactMembers c.tbs_members r.tbs_members_at
unfolding r.tbs_members_at
exact_tbs_members =
    three c.certificate_version r.certificate_version_at exact_certificate_version (plain 2 integer_rules) integer_at (exact_plain 2 integer_rules) c.passed r.passed_at exact_passed c.names_members r.names_members_at exact_names_members

exact_tbs : ExactElement c.tbs_certificate r.tbs_certificate_at
unfolding c.tbs_certificate r.tbs_certificate_at
exact_tbs = exact_opened 48 (constructed no_rules c.tbs_members no_rules) (read_constructed no_rules r.tbs_members_at no_rules) (exact_constructed no_rules c.tbs_members r.tbs_members_at no_rules exact_tbs_members)

abbrev certificate_parts : Type 0
certificate_parts = c.Key × (List ℕ × List ℕ)

exact_certificate_content : ExactElement (element 48 (head_rules 48) (constructed no_rules c.certificate_members no_rules)) r.certificate_content_at
unfolding r.certificate_content_at
exact_certificate_content =
    let bits = plain 3 no_rules in
    let members = member c.tbs_certificate (λ _. member c.passed (λ _. last bits)) in
    let read = read_member r.tbs_certificate_at (λ _. read_member r.passed_at (λ _. last_at (octets_of 3))) in
    exact_opened 48 (constructed no_rules c.certificate_members no_rules) (read_constructed no_rules (told_at first_part read) no_rules)
    (exact_constructed no_rules c.certificate_members (told_at first_part read) no_rules
    (exact_told {A = certificate_parts} first_part members read
    (exact_member c.tbs_certificate r.tbs_certificate_at exact_tbs (λ _. member c.passed (λ _. last bits)) (λ _. read_member r.passed_at (λ _. last_at (octets_of 3)))
    (λ _. exact_member c.passed r.passed_at exact_passed (λ _. last bits) (λ _. last_at (octets_of 3)) (λ _. exact_last_at bits (octets_of 3) (exact_plain 3 no_rules))))))

exact_certificate : ExactElement c.certificate r.certificate_at
unfolding c.certificate r.certificate_at
exact_certificate = exact_standing (element 48 (head_rules 48) (constructed no_rules c.certificate_members no_rules)) r.certificate_content_at exact_certificate_content

-- ---- the signer

exact_digest_algorithm : ExactElement cms.digest_algorithm r.digest_algorithm_at
unfolding cms.digest_algorithm r.digest_algorithm_at
exact_digest_algorithm = exact_plain 48 cms.digest_rules

exact_signature_algorithm : ExactElement cms.signature_algorithm r.signature_algorithm_at
unfolding cms.signature_algorithm r.signature_algorithm_at
exact_signature_algorithm = exact_plain 48 cms.signature_rules

exact_signer_identifier : ExactElement cms.signer_identifier r.signer_identifier_at
unfolding cms.signer_identifier r.signer_identifier_at
exact_signer_identifier = exact_needed_octets 21 128

exact_signed_attributes : ExactElement cms.signed_attributes r.signed_attributes_at
unfolding cms.signed_attributes r.signed_attributes_at
exact_signed_attributes = exact_behind (needed 22 160) 160 (with_octets attributes_content) (with_octets_at attributes_at) (needed_follow 22 160) (exact_octets attributes_content attributes_at exact_attributes)

exact_signature_members : ExactMembers cms.signature_members r.signature_members_at
unfolding r.signature_members_at
exact_signature_members =
    let octets = plain 4 no_rules in
    exact_told {A = List ℕ × (List ℕ × Unit {0})} (λ v. v.1.0) (member cms.signature_algorithm (λ _. member octets (λ _. nothing cms.unsigned_number))) (read_member r.signature_algorithm_at (λ _. read_member octets_at (λ _. nothing_at cms.unsigned_number)))
    (exact_member cms.signature_algorithm r.signature_algorithm_at exact_signature_algorithm (λ _. member octets (λ _. nothing cms.unsigned_number)) (λ _. read_member octets_at (λ _. nothing_at cms.unsigned_number))
    (λ _. exact_member octets octets_at (exact_plain 4 no_rules) (λ _. nothing cms.unsigned_number) (λ _. nothing_at cms.unsigned_number) (λ _. exact_nothing cms.unsigned_number)))

exact_signed_members : ExactMembers cms.signed_members r.signed_members_at
unfolding r.signed_members_at
exact_signed_members =
    exact_told {A = List ℕ × cms.SignedParts} (λ v. v.1) (member cms.digest_algorithm (λ _. member cms.signed_attributes (λ _. cms.signature_members))) (read_member r.digest_algorithm_at (λ _. read_member r.signed_attributes_at (λ _. r.signature_members_at)))
    (exact_member cms.digest_algorithm r.digest_algorithm_at exact_digest_algorithm (λ _. member cms.signed_attributes (λ _. cms.signature_members)) (λ _. read_member r.signed_attributes_at (λ _. r.signature_members_at))
    (λ _. exact_member cms.signed_attributes r.signed_attributes_at exact_signed_attributes (λ _. cms.signature_members) (λ _. r.signature_members_at) (λ _. exact_signature_members)))

exact_version : (number : ℕ) → ExactElement (fixed number 2 (3 ∷ [])) (r.version_at number)
exact_version number = exact_fixed number 2 (3 ∷ [])

exact_signer : ExactElement cms.signer_info r.signer_info_at
unfolding cms.signer_info r.signer_info_at
exact_signer =
    let version = fixed 20 2 (3 ∷ []) in
    let members = member version (λ _. member cms.signer_identifier (λ _. cms.signed_members)) in
    let read = read_member (r.version_at 20) (λ _. read_member r.signer_identifier_at (λ _. r.signed_members_at)) in
    exact_opened 48 (constructed no_rules cms.signer_members no_rules) (read_constructed no_rules (told_at cms.signer_of read) no_rules)
    (exact_constructed no_rules cms.signer_members (told_at cms.signer_of read) no_rules
    (exact_told cms.signer_of members read
    (exact_member version (r.version_at 20) (exact_version 20) (λ _. member cms.signer_identifier (λ _. cms.signed_members)) (λ _. read_member r.signer_identifier_at (λ _. r.signed_members_at))
    (λ _. exact_member cms.signer_identifier r.signer_identifier_at exact_signer_identifier (λ _. cms.signed_members) (λ _. r.signed_members_at) (λ _. exact_signed_members)))))

-- ---- the object

exact_digest_algorithms : ExactElement cms.digest_algorithms r.digest_algorithms_at
unfolding cms.digest_algorithms r.digest_algorithms_at
exact_digest_algorithms = exact_opened 49 (holding_one 8 cms.digest_algorithm) (one_of 8 r.digest_algorithm_at) (exact_one 8 cms.digest_algorithm r.digest_algorithm_at exact_digest_algorithm)

exact_content : ExactElement cms.content r.content_here
unfolding cms.content r.content_here
exact_content =
    let octets = plain 4 no_rules in
    exact_behind (needed 10 160) 160 (constructed no_rules (last octets) no_rules) (read_constructed no_rules (last_at octets_at) no_rules) (needed_follow 10 160)
    (exact_constructed no_rules (last octets) (last_at octets_at) no_rules (exact_last_at octets octets_at (exact_plain 4 no_rules)))

exact_encapsulated : ExactElement cms.encapsulated r.encapsulated_at
unfolding cms.encapsulated r.encapsulated_at
exact_encapsulated =
    let oid = object_identifier in
    let read = r.object_identifier_at in
    exact_opened 48 (constructed no_rules (member oid (λ _. last cms.content)) no_rules) (read_constructed no_rules (read_member read (λ _. last_at r.content_here)) no_rules)
    (exact_constructed no_rules (member oid (λ _. last cms.content)) (read_member read (λ _. last_at r.content_here)) no_rules
    (exact_member oid read exact_oid (λ _. last cms.content) (λ _. last_at r.content_here) (λ _. exact_last_at cms.content r.content_here exact_content)))

exact_certificates : ExactElement cms.certificates r.certificates_at
unfolding cms.certificates r.certificates_at
exact_certificates = exact_behind (needed 11 160) 160 (holding_one 11 c.certificate) (one_of 11 r.certificate_at) (needed_follow 11 160) (exact_one 11 c.certificate r.certificate_at exact_certificate)

exact_signer_infos : ExactElement cms.signer_infos r.signer_infos_at
unfolding cms.signer_infos r.signer_infos_at
exact_signer_infos = exact_behind (barred 18 161) 49 (holding_one 19 cms.signer_info) (one_of 19 r.signer_info_at) (barred_follow 18 161 49 refl) (exact_one 19 cms.signer_info r.signer_info_at exact_signer)

exact_signed_by : ExactMembers cms.signed_by r.signed_by_at
unfolding r.signed_by_at
exact_signed_by = exact_member cms.certificates r.certificates_at exact_certificates (λ _. last cms.signer_infos) (λ _. last_at r.signer_infos_at) (λ _. exact_last_at cms.signer_infos r.signer_infos_at exact_signer_infos)

exact_signed_data : ExactElement cms.signed_data r.signed_data_at
unfolding cms.signed_data r.signed_data_at
exact_signed_data =
    let version = fixed 7 2 (3 ∷ []) in
    let members = member version (λ _. member cms.digest_algorithms (λ _. member cms.encapsulated (λ _. cms.signed_by))) in
    let read = read_member (r.version_at 7) (λ _. read_member r.digest_algorithms_at (λ _. read_member r.encapsulated_at (λ _. r.signed_by_at))) in
    exact_opened 48 (constructed no_rules cms.signed_data_members no_rules) (read_constructed no_rules (told_at cms.object_of read) no_rules)
    (exact_constructed no_rules cms.signed_data_members (told_at cms.object_of read) no_rules
    (exact_told cms.object_of members read
    (exact_member version (r.version_at 7) (exact_version 7) (λ _. member cms.digest_algorithms (λ _. member cms.encapsulated (λ _. cms.signed_by))) (λ _. read_member r.digest_algorithms_at (λ _. read_member r.encapsulated_at (λ _. r.signed_by_at)))
    (λ _. exact_member cms.digest_algorithms r.digest_algorithms_at exact_digest_algorithms (λ _. member cms.encapsulated (λ _. cms.signed_by)) (λ _. read_member r.encapsulated_at (λ _. r.signed_by_at))
    (λ _. exact_member cms.encapsulated r.encapsulated_at exact_encapsulated (λ _. cms.signed_by) (λ _. r.signed_by_at) (λ _. exact_signed_by))))))

exact_wrapped : ExactElement cms.wrapped_data r.wrapped_data_at
unfolding cms.wrapped_data r.wrapped_data_at
exact_wrapped =
    exact_opened 160 (constructed no_rules (last cms.signed_data) no_rules) (read_constructed no_rules (last_at r.signed_data_at) no_rules)
    (exact_constructed no_rules (last cms.signed_data) (last_at r.signed_data_at) no_rules (exact_last_at cms.signed_data r.signed_data_at exact_signed_data))

exact_content_type : ExactElement (fixed 6 6 cms.id_signed_data) r.content_type_at
unfolding r.content_type_at
exact_content_type = exact_fixed 6 6 cms.id_signed_data

exact_content_info : ExactElement cms.content_info r.content_info_at
unfolding cms.content_info r.content_info_at
exact_content_info =
    let type = fixed 6 6 cms.id_signed_data in
    let members = member type (λ _. last cms.wrapped_data) in
    let read = read_member r.content_type_at (λ _. last_at r.wrapped_data_at) in
    exact_opened 48 (constructed no_rules (told cms.second_of members) no_rules) (read_constructed no_rules (told_at cms.second_of read) no_rules)
    (exact_constructed no_rules (told cms.second_of members) (told_at cms.second_of read) no_rules
    (exact_told cms.second_of members read
    (exact_member type r.content_type_at exact_content_type (λ _. last cms.wrapped_data) (λ _. last_at r.wrapped_data_at) (λ _. exact_last_at cms.wrapped_data r.wrapped_data_at exact_wrapped))))

-- one object, and the end
pub exact_object : ExactMembers cms.object (last_at r.content_info_at)
unfolding cms.object
exact_object = exact_last_at cms.content_info r.content_info_at exact_content_info
