-- Reading a certificate is exact.
use Rattle.std.proofs.Common.{◌≡◌, ℕ, zero, suc, Bool, true, false, not, eqb, List, [], ◌∷◌, length, drop, Option, Some, None, Result, Ok, Err, refl, sym, ap, subst, ◌∙◌}
use Rattle.std.proofs.lemmas.Bool.{not-false, eqb-true}
use Rattle.der_lite.specs.Place.{Fault, place_of}
use Rattle.der_lite.specs.Der.{IsBytes, is_integer, head_rules}
use Rattle.der_lite.specs.Grammar.{Element, Members, KeepsRules, element, primitive, constructed, plain, last, member, optional, each}
use Rattle.der_lite.specs.DerReading.{content_at, octets_at}
use Rattle.der_lite.specs.Decoding.{Read, ReadAll, read_primitive, read_constructed, read_member, read_each}
use Rattle.der_lite.specs.Moments.{moment_of, is_time}
use Rattle.der_lite.specs.Times.{timed, timed_at}
use Rattle.der_lite.specs.Fields.{last_at, optional_at}
use Rattle.der_lite.proofs.Rules.{kept_first}
use Rattle.der_lite.proofs.Exact.{ExactElement, ExactMembers, exact_primitive, exact_constructed, exact_member, exact_each}
use Rattle.der_lite.proofs.ContentReads.{exact_plain}
use Rattle.der_lite.proofs.FieldLaws.{exact_field, exact_last_at, exact_optional_at}
use Rattle.der_lite.proofs.TimeLaws.{exact_timed}
use Rattle.der_lite.proofs.MomentLaws.{time_is, spelled_is}
use Rattle.der_forms.specs.Combinators.{no_rules, needed, barred, told, told_content, first_part, spelling, standing, fixed, FixedSpells, fixed_rules}
use Rattle.der_forms.specs.CombinatorReading.{told_at, told_content_at, read_value, all_octets}
use Rattle.der_forms.proofs.ExactCombinators.{exact_behind, exact_opened, exact_fixed_content, exact_fixed, exact_told, exact_told_content, exact_standing, exact_either, exact_spelling, exact_all, needed_follow, barred_follow}
use Rattle.resource_certificates.specs.declared.extension.ExtensionKind.{ExtensionKind}
use Rattle.resource_certificates.specs.declared.extension.ExtensionKind.TheVariants.{SubjectKey, AuthorityKey, KeyUsage, BasicConstraints, DistributionPoints, AuthorityInfo, SubjectInfo, Policies, IpBlocks, AsIds}
use Rattle.resource_certificates.specs.declared.fault.CertificateFault.{CertificateFault}
use Rattle.resource_certificates.specs.Faults.{fault_of}
use Rattle.resource_certificates.specs.Gives.{GivesAll, ReadsFile}
use Rattle.resource_certificates.specs.Times as t
use Rattle.resource_certificates.specs.Names as n
use Rattle.resource_certificates.specs.Keys as k
use Rattle.resource_certificates.specs.Extensions as x
use Rattle.resource_certificates.specs.Certificates as c
use Rattle.resource_certificates.specs.Reading as r

abbrev integer_rules : List ℕ → List (ℕ × Bool)
integer_rules content = (4, not (is_integer content)) ∷ []

-- ---- times

exact_utc_time : ExactElement t.utc_time r.utc_time_at
unfolding t.utc_time r.utc_time_at
exact_utc_time =
    exact_field 23 no_rules t.utc_rules (λ content. moment_of (t.widened content)) t.UtcSpells
    (exact_primitive t.UtcSpells t.utc_rules (λ content. moment_of (t.widened content))
    (λ content bytes kept.
    let later = kept_first 11 (t.is_before_1970 content) ((4, not (is_time (t.widened content))) ∷ []) kept in
    time_is (t.widened content) (not-false (is_time (t.widened content)) (kept_first 4 (not (is_time (t.widened content))) [] later.1).0))
    (λ content m kept s. (spelled_is (t.widened content) m s).1))

pub exact_time : ExactElement t.time r.certificate_time_at
unfolding t.time r.certificate_time_at
exact_time = exact_either 23 t.utc_time (timed no_rules) r.utc_time_at (timed_at no_rules) exact_utc_time (exact_timed no_rules)

-- ---- names

exact_part_id : ExactElement n.part_id r.part_id_at
unfolding n.part_id r.part_id_at
exact_part_id =
    exact_field 6 no_rules n.part_id_rules n.is_common n.PartIdSpells
    (exact_primitive n.PartIdSpells n.part_id_rules n.is_common (λ id bytes kept. refl) (λ id common kept s. sym s))

exact_characters : ExactElement n.characters r.characters_at
unfolding n.characters r.characters_at
exact_characters =
    exact_either 19 (plain 19 n.printable_rules) (plain 12 n.utf8_rules) (content_at 19 n.printable_rules) (content_at 12 n.utf8_rules) (exact_plain 19 n.printable_rules) (exact_plain 12 n.utf8_rules)

exact_name_part : ExactElement n.name_part r.name_part_at
unfolding n.name_part r.name_part_at
exact_name_part =
    let members = member n.part_id (λ _. last n.characters) in
    let read = read_member r.part_id_at (λ _. last_at r.characters_at) in
    exact_opened 48 (constructed no_rules members no_rules) (read_constructed no_rules read no_rules)
    (exact_constructed no_rules members read no_rules
    (exact_member n.part_id r.part_id_at exact_part_id (λ _. last n.characters) (λ _. last_at r.characters_at) (λ _. exact_last_at n.characters r.characters_at exact_characters)))

exact_rdn : ExactElement n.rdn r.rdn_at
unfolding n.rdn r.rdn_at
exact_rdn =
    let members = member n.name_part (λ _. optional n.name_part) in
    let read = read_member r.name_part_at (λ _. optional_at r.name_part_at) in
    exact_opened 49 (constructed no_rules members no_rules) (read_constructed no_rules read no_rules)
    (exact_constructed no_rules members read no_rules
    (exact_member n.name_part r.name_part_at exact_name_part (λ _. optional n.name_part) (λ _. optional_at r.name_part_at) (λ _. exact_optional_at n.name_part r.name_part_at exact_name_part)))

pub exact_name : ExactElement n.name r.name_at
unfolding n.name r.name_at
exact_name =
    let members = member n.rdn (λ _. optional n.rdn) in
    let read = read_member r.rdn_at (λ _. optional_at r.rdn_at) in
    exact_opened 48 (told_content n.name_of (constructed no_rules members n.name_rules)) (told_content_at n.name_of (read_constructed no_rules read n.name_rules))
    (exact_told_content n.name_of (constructed no_rules members n.name_rules) (read_constructed no_rules read n.name_rules)
    (exact_constructed no_rules members read n.name_rules
    (exact_member n.rdn r.rdn_at exact_rdn (λ _. optional n.rdn) (λ _. optional_at r.rdn_at) (λ _. exact_optional_at n.rdn r.rdn_at exact_rdn))))

-- ---- the key

-- a content with a zero in front
after_zero : (content : List ℕ) → k.begins_with_zero content ≡ true → content ≡ 0 ∷ drop 1 content
after_zero [] h = absurd cc
after_zero (first ∷ more) h = ap (λ (m : ℕ). m ∷ more) (eqb-true first 0 h)

-- one that keeps the rule
zero_kept : (number : ℕ) (content : List ℕ) → KeepsRules (k.zero_rules number content) → content ≡ 0 ∷ drop 1 content
zero_kept number content kept = after_zero content (not-false (k.begins_with_zero content) (kept_first number (not (k.begins_with_zero content)) [] kept).0)

-- one that keeps the rules of a modulus
size_kept : (content : List ℕ) → KeepsRules (k.size_rules content) → content ≡ 0 ∷ drop 1 content
size_kept content kept = after_zero content (not-false (k.begins_with_zero content) (kept_first 14 (not (k.begins_with_zero content)) ((14, not (eqb (length content) 257)) ∷ []) kept).0)

exact_modulus : ExactElement k.modulus r.modulus_at
unfolding k.modulus r.modulus_at
exact_modulus =
    exact_field 2 integer_rules k.size_rules (drop 1) k.ModulusSpells
    (exact_primitive k.ModulusSpells k.modulus_rules (drop 1)
    (λ content bytes kept. size_kept content (kept_first 4 (not (is_integer content)) (k.size_rules content) kept).1)
    (λ content modulus kept s. ap (λ (l : List ℕ). drop 1 l) s))

exact_exponent : ExactElement k.exponent r.exponent_at
unfolding k.exponent r.exponent_at
exact_exponent = exact_fixed 14 2 (1 ∷ 0 ∷ 1 ∷ [])

exact_rsa_key : ExactElement k.rsa_public_key r.rsa_public_key_at
unfolding k.rsa_public_key r.rsa_public_key_at
exact_rsa_key =
    let members = member k.modulus (λ _. last k.exponent) in
    let read = read_member r.modulus_at (λ _. last_at r.exponent_at) in
    exact_opened 48 (constructed no_rules (told {A = List ℕ × Unit {0}} first_part members) no_rules) (read_constructed no_rules (told_at first_part read) no_rules)
    (exact_constructed no_rules (told {A = List ℕ × Unit {0}} first_part members) (told_at first_part read) no_rules
    (exact_told {A = List ℕ × Unit {0}} first_part members read
    (exact_member k.modulus r.modulus_at exact_modulus (λ _. last k.exponent) (λ _. last_at r.exponent_at) (λ _. exact_last_at k.exponent r.exponent_at exact_exponent))))

some_is : {A : Type 0} (a b : A) → Some a ≡ Some b → a ≡ b
some_is a b e = cc

-- a value that was read
value_read : {A : Type 0} (y : Result A Fault) (v : A) → read_value y ≡ Some v → y ≡ Ok v
value_read {A} (Ok w) v e = ap (λ (u : A). Ok u) (some_is w v e)
value_read (Err f) v e = absurd cc

-- the rest of bytes
bytes_behind : (first : ℕ) (more : List ℕ) → IsBytes (first ∷ more) → IsBytes more
bytes_behind first more h i = h (suc i)

-- the modulus of a key that was found
with_found : (bits : List ℕ) (found : Option (List ℕ)) (key : k.Key) → r.key_with bits found ≡ Some key → (found ≡ Some key.modulus) × (bits ≡ key.bits)
with_found bits (Some modulus) key e =
    let same = some_is (record { modulus = modulus; bits = bits }) key e in
    (ap (λ (l : k.Key). Some l.modulus) same, ap (λ (l : k.Key). l.bits) same)
with_found bits None key e = absurd cc

key_found : (content : List ℕ) (key : k.Key) → IsBytes content → r.key_of content ≡ Some key → k.KeySpells key content
unfolding r.key_of r.modulus_in
key_found [] key are e = absurd cc
key_found (zero ∷ bits) key are e =
    let f = with_found bits (r.modulus_in bits) key e in
    record {
      whole = ap (λ (l : List ℕ). 0 ∷ l) f.1;
      spelled = subst (λ (l : List ℕ). k.rsa_public_key.Spells key.modulus l) f.1
          ((exact_last_at k.rsa_public_key r.rsa_public_key_at exact_rsa_key).takes (place_of 0 bits) key.modulus (bytes_behind 0 bits are) (value_read (r.rsa_public_key_all bits) key.modulus f.0));
    }
key_found (suc m ∷ bits) key are e = absurd cc

key_again : (content : List ℕ) (key : k.Key) → k.KeySpells key content → r.key_of content ≡ Some key
unfolding r.key_of r.modulus_in
key_again content key s =
    ap r.key_of s.whole
    ∙ ap (λ (y : Result (List ℕ) Fault). r.key_with key.bits (read_value y)) ((exact_last_at k.rsa_public_key r.rsa_public_key_at exact_rsa_key).again (place_of 0 key.bits) key.modulus s.spelled)

exact_public_key : ExactElement k.public_key r.public_key_at
unfolding k.public_key r.public_key_at
exact_public_key = exact_opened 3 (spelling 14 k.KeySpells) _ (exact_spelling 14 k.KeySpells r.key_of key_found key_again)

exact_key_algorithm : ExactElement k.key_algorithm r.key_algorithm_at
unfolding k.key_algorithm r.key_algorithm_at
exact_key_algorithm = exact_fixed 13 48 k.rsa_key_algorithm

exact_key_info : ExactElement k.key_info r.key_info_at
unfolding k.key_info r.key_info_at
exact_key_info =
    let members = member k.key_algorithm (λ _. last k.public_key) in
    let read = read_member r.key_algorithm_at (λ _. last_at r.public_key_at) in
    exact_opened 48 (constructed no_rules (told {A = Unit {0} × k.Key} k.second_part members) no_rules) (read_constructed no_rules (told_at k.second_part read) no_rules)
    (exact_constructed no_rules (told {A = Unit {0} × k.Key} k.second_part members) (told_at k.second_part read) no_rules
    (exact_told {A = Unit {0} × k.Key} k.second_part members read
    (exact_member k.key_algorithm r.key_algorithm_at exact_key_algorithm (λ _. last k.public_key) (λ _. last_at r.public_key_at) (λ _. exact_last_at k.public_key r.public_key_at exact_public_key))))

pub exact_signature_algorithm : ExactElement k.signature_algorithm r.signature_algorithm_at
unfolding k.signature_algorithm r.signature_algorithm_at
exact_signature_algorithm = exact_plain 48 k.algorithm_rules

pub exact_signature_value : ExactElement k.signature_value r.signature_value_at
unfolding k.signature_value r.signature_value_at
exact_signature_value =
    exact_field 3 no_rules (k.zero_rules 19) (drop 1) k.ModulusSpells
    (exact_primitive k.ModulusSpells (k.zero_rules 19) (drop 1) (λ content bytes kept. zero_kept 19 content kept) (λ content value kept s. ap (λ (l : List ℕ). drop 1 l) s))

-- ---- extensions

-- what was found among extensions has a kind exactly if one of them does
among_is : (before : List x.Extension) (kind : Option ExtensionKind) → r.is_found (x.found_in before) kind ≡ x.is_among before kind
among_is before None = refl
among_is before (Some SubjectKey) = refl
among_is before (Some AuthorityKey) = refl
among_is before (Some KeyUsage) = refl
among_is before (Some BasicConstraints) = refl
among_is before (Some DistributionPoints) = refl
among_is before (Some AuthorityInfo) = refl
among_is before (Some SubjectInfo) = refl
among_is before (Some Policies) = refl
among_is before (Some IpBlocks) = refl
among_is before (Some AsIds) = refl

-- the rules by what was found are those by the extensions
rules_are : (before : List x.Extension) (id : List ℕ) → x.id_rules before id ≡ r.found_rules (x.found_in before) id
rules_are before id = ap (λ (b : Bool). (16, x.is_extended_usage id) ∷ (17, b) ∷ []) (sym (among_is before (x.kind_in id)))

-- by the values that were found
exact_found : (found : x.Found) → ExactElement (element 6 (head_rules 6) (primitive x.KindSpells (r.found_rules found))) (r.extension_id_at found)
unfolding r.extension_id_at
exact_found found =
    exact_field 6 no_rules (r.found_rules found) x.kind_in x.KindSpells
    (exact_primitive x.KindSpells (r.found_rules found) x.kind_in (λ id bytes kept. refl) (λ id kind kept s. s))

exact_id : (before : List x.Extension) → ExactElement (x.extension_id before) (r.extension_id_at (x.found_in before))
unfolding x.extension_id
exact_id before =
    subst (λ (rules : List ℕ → List (ℕ × Bool)). ExactElement (element 6 (head_rules 6) (primitive x.KindSpells rules)) (r.extension_id_at (x.found_in before)))
    (λ i id. sym (rules_are before id) i) (exact_found (x.found_in before))

exact_critical : ExactElement x.critical r.critical_at
unfolding x.critical r.critical_at
exact_critical =
    exact_behind (needed 18 1) 1 (primitive (FixedSpells (255 ∷ [])) (fixed_rules 18 (255 ∷ []))) (read_primitive (fixed_rules 18 (255 ∷ [])) (λ content. tt)) (needed_follow 18 1) (exact_fixed_content 18 (255 ∷ []))

pub exact_value_alone : ExactElement x.value_alone r.value_alone_at
unfolding x.value_alone r.value_alone_at
exact_value_alone = exact_behind (barred 18 1) 4 (primitive (λ v inner. inner ≡ v) no_rules) all_octets (barred_follow 18 1 4 refl) exact_all

exact_value : (critical : Bool) → ExactMembers (x.value_members critical) (r.value_members_at critical)
exact_value true =
    let octets = plain 4 no_rules in
    exact_told {A = Unit {0} × List ℕ} k.second_part (member x.critical (λ _. last octets)) (read_member r.critical_at (λ _. last_at octets_at))
    (exact_member x.critical r.critical_at exact_critical (λ _. last octets) (λ _. last_at octets_at) (λ _. exact_last_at octets octets_at (exact_plain 4 no_rules)))
exact_value false = exact_last_at x.value_alone r.value_alone_at exact_value_alone

exact_extension : (before : List x.Extension) → ExactElement (x.extension before) (r.extension_at before)
unfolding x.extension r.extension_from
exact_extension before =
    let others : Option ExtensionKind → Members (List ℕ) = λ kind. x.value_members (x.must_be_critical kind) in
    let rest : Option ExtensionKind → ReadAll (List ℕ) = λ kind. r.value_members_at (x.must_be_critical kind) in
    let members = member (x.extension_id before) others in
    let read = read_member (r.extension_id_at (x.found_in before)) rest in
    exact_opened 48 (constructed no_rules members no_rules) (read_constructed no_rules read no_rules)
    (exact_constructed no_rules members read no_rules
    (exact_member (x.extension_id before) (r.extension_id_at (x.found_in before)) (exact_id before) others rest (λ kind. exact_value (x.must_be_critical kind))))

exact_extension_list : ExactElement x.extension_list r.extension_list_at
unfolding x.extension_list r.extension_list_at
exact_extension_list =
    let content = constructed no_rules (each x.extension) no_rules in
    let read = read_constructed no_rules (read_each r.extension_at) no_rules in
    exact_opened 48 (told_content x.found_in content) (told_content_at x.found_in read)
    (exact_told_content x.found_in content read
    (exact_constructed no_rules (each x.extension) (read_each r.extension_at) no_rules (exact_each x.extension r.extension_at exact_extension)))

exact_extensions : ExactElement x.extensions r.extensions_at
unfolding x.extensions r.extensions_at
exact_extensions =
    exact_behind (needed 15 163) 163 (constructed no_rules (last x.extension_list) no_rules) (read_constructed no_rules (last_at r.extension_list_at) no_rules) (needed_follow 15 163)
    (exact_constructed no_rules (last x.extension_list) (last_at r.extension_list_at) no_rules (exact_last_at x.extension_list r.extension_list_at exact_extension_list))

-- ---- the certificate

exact_version : ExactElement c.version r.version_at
unfolding c.version r.version_at
exact_version =
    exact_behind (needed 6 160) 160 (primitive (FixedSpells c.version_3) (fixed_rules 6 c.version_3)) (read_primitive (fixed_rules 6 c.version_3) (λ content. tt)) (needed_follow 6 160)
    (exact_fixed_content 6 c.version_3)

pub exact_serial : ExactElement c.serial r.serial_at
unfolding c.serial r.serial_at
exact_serial = exact_plain 2 c.serial_rules

exact_validity : ExactElement c.validity r.validity_at
unfolding c.validity r.validity_at
exact_validity =
    let members = member t.time (λ _. last t.time) in
    let read = read_member r.certificate_time_at (λ _. last_at r.certificate_time_at) in
    exact_opened 48 (constructed no_rules members c.validity_rules) (read_constructed no_rules read c.validity_rules)
    (exact_constructed no_rules members read c.validity_rules
    (exact_member t.time r.certificate_time_at exact_time (λ _. last t.time) (λ _. last_at r.certificate_time_at) (λ _. exact_last_at t.time r.certificate_time_at exact_time)))

-- three members, of which the third is the others
pub three : {A B C : Type 0} → (a : Element A) (ra : Read A) → ExactElement a ra → (b : Element B) (rb : Read B) → ExactElement b rb → (m : Members C) (rm : ReadAll C) → ExactMembers m rm
    → ExactMembers (member a (λ _. member b (λ _. m))) (read_member ra (λ _. read_member rb (λ _. rm)))
three a ra xa b rb xb m rm xm = exact_member a ra xa (λ _. member b (λ _. m)) (λ _. read_member rb (λ _. rm)) (λ _. exact_member b rb xb (λ _. m) (λ _. rm) (λ _. xm))

exact_holder : ExactMembers c.holder_members r.holder_members_at
unfolding r.holder_members_at
exact_holder = three n.name r.name_at exact_name k.key_info r.key_info_at exact_key_info (last x.extensions) (last_at r.extensions_at) (exact_last_at x.extensions r.extensions_at exact_extensions)

exact_issue : ExactMembers c.issue_members r.issue_members_at
unfolding r.issue_members_at
exact_issue = three n.name r.name_at exact_name c.validity r.validity_at exact_validity c.holder_members r.holder_members_at exact_holder

exact_tbs_members : ExactMembers c.tbs_members r.tbs_members_at
unfolding r.tbs_members_at
exact_tbs_members =
    let inner : Members (List ℕ × c.Issue) = member k.signature_algorithm (λ _. c.issue_members) in
    let read : ReadAll (List ℕ × c.Issue) = read_member r.signature_algorithm_at (λ _. r.issue_members_at) in
    exact_told {A = c.TbsParts} c.tbs_of (member c.version (λ _. member c.serial (λ _. inner))) (read_member r.version_at (λ _. read_member r.serial_at (λ _. read)))
    (three c.version r.version_at exact_version c.serial r.serial_at exact_serial inner read
    (exact_member k.signature_algorithm r.signature_algorithm_at exact_signature_algorithm (λ _. c.issue_members) (λ _. r.issue_members_at) (λ _. exact_issue)))

exact_tbs : ExactElement c.tbs_certificate r.tbs_certificate_at
unfolding c.tbs_certificate r.tbs_certificate_at
exact_tbs = exact_opened 48 (constructed no_rules c.tbs_members no_rules) (read_constructed no_rules r.tbs_members_at no_rules) (exact_constructed no_rules c.tbs_members r.tbs_members_at no_rules exact_tbs_members)

exact_signed_tbs : ExactElement (standing c.tbs_certificate) r.signed_tbs_at
unfolding r.signed_tbs_at
exact_signed_tbs = exact_standing c.tbs_certificate r.tbs_certificate_at exact_tbs

pub exact_same_algorithm : (algorithm : List ℕ) → ExactElement (fixed 8 48 algorithm) (r.same_algorithm_at algorithm)
unfolding r.same_algorithm_at
exact_same_algorithm algorithm = exact_fixed 8 48 algorithm

exact_certificate_members : ExactMembers c.certificate_members r.certificate_members_at
unfolding r.certificate_members_at
exact_certificate_members =
    let others : List ℕ × c.Tbs → Members (Unit {0} × List ℕ) = λ t. member (fixed 8 48 t.1.algorithm) (λ _. last k.signature_value) in
    let rest : List ℕ × c.Tbs → ReadAll (Unit {0} × List ℕ) = λ t. read_member (r.same_algorithm_at t.1.algorithm) (λ _. last_at r.signature_value_at) in
    exact_told {A = c.CertificateParts} c.certificate_of (member (standing c.tbs_certificate) others) (read_member r.signed_tbs_at rest)
    (exact_member (standing c.tbs_certificate) r.signed_tbs_at exact_signed_tbs others rest
    (λ t. exact_member (fixed 8 48 t.1.algorithm) (r.same_algorithm_at t.1.algorithm) (exact_same_algorithm t.1.algorithm) (λ _. last k.signature_value) (λ _. last_at r.signature_value_at)
    (λ _. exact_last_at k.signature_value r.signature_value_at exact_signature_value)))

exact_certificate : ExactElement c.certificate r.certificate_at
unfolding c.certificate r.certificate_at
exact_certificate = exact_opened 48 (constructed no_rules c.certificate_members no_rules) (read_constructed no_rules r.certificate_members_at no_rules) (exact_constructed no_rules c.certificate_members r.certificate_members_at no_rules exact_certificate_members)

pub exact_file : ExactMembers c.file (last_at r.certificate_at)
exact_file = exact_last_at c.certificate r.certificate_at exact_certificate

-- ---- the file

pub file_read : (bytes : List ℕ) (v : c.Certificate) → IsBytes bytes → r.file_all bytes ≡ Ok v → c.file.Spells v bytes
unfolding r.file_all
file_read bytes v are e = exact_file.takes (place_of 0 bytes) v are e

pub file_fault : (bytes : List ℕ) (f : Fault) → IsBytes bytes → r.file_all bytes ≡ Err f → c.file.FaultAt (place_of 0 bytes) f
unfolding r.file_all
file_fault bytes f are e = exact_file.faults (place_of 0 bytes) f are e

-- reading the elements gives the file, or its first fault
pub reads : {X : Type 0} (view : X → c.Certificate) (result : Result X CertificateFault) (bytes : List ℕ) → IsBytes bytes → GivesAll view result (r.file_all bytes) → ReadsFile view result bytes
reads view (Ok y) bytes are e = file_read bytes (view y) are e
reads view (Err e) bytes are h = file_fault bytes (fault_of e) are h
