-- Reading a CRL is exact.
use Rattle.std.proofs.Common.{◌≡◌, ℕ, List, [], ◌∷◌, Option, Ok, Err, refl, sym}
use Rattle.der_lite.specs.Place.{Fault, place_of}
use Rattle.der_lite.specs.Der.{IsBytes}
use Rattle.der_lite.specs.Grammar.{Members, constructed, last, member, optional, each}
use Rattle.der_lite.specs.Moments.{CivilMoment}
use Rattle.der_lite.specs.Decoding.{ReadAll, read_constructed, read_member, read_each}
use Rattle.der_lite.specs.Fields.{last_at, optional_at}
use Rattle.der_lite.proofs.Exact.{ExactElement, ExactMembers, exact_primitive, exact_constructed, exact_member, exact_each}
use Rattle.der_lite.proofs.FieldLaws.{exact_field, exact_last_at, exact_optional_at}
use Rattle.der_forms.specs.Combinators.{no_rules, needed, not_empty, told, told_content, first_part, standing, fixed, maybe}
use Rattle.der_forms.specs.CombinatorReading.{told_at, told_content_at, maybe_at}
use Rattle.der_forms.proofs.ExactCombinators.{exact_behind, exact_opened, exact_fixed, exact_told, exact_told_content, exact_standing, exact_maybe, needed_follow}
use Rattle.resource_certificates.specs.Times as t
use Rattle.resource_certificates.specs.Names as n
use Rattle.resource_certificates.specs.Keys as k
use Rattle.resource_certificates.specs.Extensions as x
use Rattle.resource_certificates.specs.Certificates as c
use Rattle.resource_certificates.specs.Crls as l
use Rattle.resource_certificates.specs.Reading as r
use Rattle.resource_certificates.specs.CrlReading as s
use Rattle.resource_certificates.proofs.Exact.{exact_time, exact_name, exact_serial, exact_value_alone, exact_signature_algorithm, exact_signature_value, exact_same_algorithm, three}

exact_crl_version : ExactElement l.crl_version s.crl_version_at
unfolding l.crl_version s.crl_version_at
exact_crl_version = exact_fixed 30 2 (1 ∷ [])

exact_revoked : ExactElement l.revoked s.revoked_at
unfolding l.revoked s.revoked_at
exact_revoked =
    let members = member c.serial (λ _. last t.time) in
    let read = read_member r.serial_at (λ _. last_at r.certificate_time_at) in
    exact_opened 48 (constructed no_rules (told {A = List ℕ × CivilMoment} first_part members) no_rules) (read_constructed no_rules (told_at first_part read) no_rules)
    (exact_constructed no_rules (told {A = List ℕ × CivilMoment} first_part members) (told_at first_part read) no_rules
    (exact_told {A = List ℕ × CivilMoment} first_part members read
    (exact_member c.serial r.serial_at exact_serial (λ _. last t.time) (λ _. last_at r.certificate_time_at) (λ _. exact_last_at t.time r.certificate_time_at exact_time))))

exact_revoked_list : ExactElement l.revoked_list s.revoked_list_at
unfolding l.revoked_list s.revoked_list_at
exact_revoked_list =
    exact_opened 48 (constructed no_rules (each (λ _. l.revoked)) no_rules) (read_constructed no_rules (read_each (λ _. s.revoked_at)) no_rules)
    (exact_constructed no_rules (each (λ _. l.revoked)) (read_each (λ _. s.revoked_at)) no_rules (exact_each (λ _. l.revoked) (λ _. s.revoked_at) (λ _. exact_revoked)))

exact_crl_id : ExactElement l.crl_id s.crl_id_at
unfolding l.crl_id s.crl_id_at
exact_crl_id =
    exact_field 6 no_rules l.crl_id_rules l.is_number_id l.CrlIdSpells
    (exact_primitive l.CrlIdSpells l.crl_id_rules l.is_number_id (λ id bytes kept. refl) (λ id number kept e. sym e))

exact_crl_extension : ExactElement l.crl_extension s.crl_extension_at
unfolding l.crl_extension s.crl_extension_at
exact_crl_extension =
    let members = member l.crl_id (λ _. last x.value_alone) in
    let read = read_member s.crl_id_at (λ _. last_at r.value_alone_at) in
    exact_opened 48 (constructed no_rules members no_rules) (read_constructed no_rules read no_rules)
    (exact_constructed no_rules members read no_rules
    (exact_member l.crl_id s.crl_id_at exact_crl_id (λ _. last x.value_alone) (λ _. last_at r.value_alone_at) (λ _. exact_last_at x.value_alone r.value_alone_at exact_value_alone)))

exact_crl_extension_list : ExactElement l.crl_extension_list s.crl_extension_list_at
unfolding l.crl_extension_list s.crl_extension_list_at
exact_crl_extension_list =
    let members = member l.crl_extension (λ _. optional l.crl_extension) in
    let read = read_member s.crl_extension_at (λ _. optional_at s.crl_extension_at) in
    let content = constructed (not_empty 32) members l.crl_pair_rules in
    let read_content = read_constructed (not_empty 32) read l.crl_pair_rules in
    exact_opened 48 (told_content l.crl_found_of content) (told_content_at l.crl_found_of read_content)
    (exact_told_content l.crl_found_of content read_content
    (exact_constructed (not_empty 32) members read l.crl_pair_rules
    (exact_member l.crl_extension s.crl_extension_at exact_crl_extension (λ _. optional l.crl_extension) (λ _. optional_at s.crl_extension_at)
    (λ _. exact_optional_at l.crl_extension s.crl_extension_at exact_crl_extension))))

exact_crl_extensions : ExactElement l.crl_extensions s.crl_extensions_at
unfolding l.crl_extensions s.crl_extensions_at
exact_crl_extensions =
    exact_behind (needed 31 160) 160 (constructed no_rules (last l.crl_extension_list) no_rules) (read_constructed no_rules (last_at s.crl_extension_list_at) no_rules) (needed_follow 31 160)
    (exact_constructed no_rules (last l.crl_extension_list) (last_at s.crl_extension_list_at) no_rules (exact_last_at l.crl_extension_list s.crl_extension_list_at exact_crl_extension_list))

exact_crl_rest : ExactMembers l.crl_rest s.crl_rest_at
unfolding s.crl_rest_at
exact_crl_rest =
    exact_told {A = Option (List (List ℕ)) × l.CrlFound} l.crl_rest_of (maybe 48 l.revoked_list (λ _. last l.crl_extensions)) (maybe_at 48 s.revoked_list_at (λ _. last_at s.crl_extensions_at))
    (exact_maybe 48 l.revoked_list s.revoked_list_at exact_revoked_list (λ _. last l.crl_extensions) (λ _. last_at s.crl_extensions_at)
    (λ _. exact_last_at l.crl_extensions s.crl_extensions_at exact_crl_extensions))

exact_crl_updates : ExactMembers l.crl_updates s.crl_updates_at
unfolding s.crl_updates_at
exact_crl_updates = three t.time r.certificate_time_at exact_time t.time r.certificate_time_at exact_time l.crl_rest s.crl_rest_at exact_crl_rest

exact_tbs_crl_members : ExactMembers l.tbs_crl_members s.tbs_crl_members_at
unfolding s.tbs_crl_members_at
exact_tbs_crl_members =
    let inner : Members (n.Name × l.CrlUpdates) = member n.name (λ _. l.crl_updates) in
    let read : ReadAll (n.Name × l.CrlUpdates) = read_member r.name_at (λ _. s.crl_updates_at) in
    let all : Members l.TbsCrlParts = member l.crl_version (λ _. member k.signature_algorithm (λ _. inner)) in
    let read_all : ReadAll l.TbsCrlParts = read_member s.crl_version_at (λ _. read_member r.signature_algorithm_at (λ _. read)) in
    exact_told {A = l.TbsCrlParts} l.tbs_crl_of all read_all
    (three l.crl_version s.crl_version_at exact_crl_version k.signature_algorithm r.signature_algorithm_at exact_signature_algorithm inner read
    (exact_member n.name r.name_at exact_name (λ _. l.crl_updates) (λ _. s.crl_updates_at) (λ _. exact_crl_updates)))

exact_tbs_crl : ExactElement l.tbs_crl s.tbs_crl_at
unfolding l.tbs_crl s.tbs_crl_at
exact_tbs_crl = exact_opened 48 (constructed no_rules l.tbs_crl_members no_rules) (read_constructed no_rules s.tbs_crl_members_at no_rules) (exact_constructed no_rules l.tbs_crl_members s.tbs_crl_members_at no_rules exact_tbs_crl_members)

exact_signed_crl : ExactElement (standing l.tbs_crl) s.signed_crl_at
unfolding s.signed_crl_at
exact_signed_crl = exact_standing l.tbs_crl s.tbs_crl_at exact_tbs_crl

exact_crl_members : ExactMembers l.crl_members s.crl_members_at
unfolding s.crl_members_at
exact_crl_members =
    let others : List ℕ × l.TbsCrl → Members (Unit {0} × List ℕ) = λ t. member (fixed 8 48 t.1.algorithm) (λ _. last k.signature_value) in
    let rest : List ℕ × l.TbsCrl → ReadAll (Unit {0} × List ℕ) = λ t. read_member (r.same_algorithm_at t.1.algorithm) (λ _. last_at r.signature_value_at) in
    exact_told {A = l.CrlParts} l.crl_of (member (standing l.tbs_crl) others) (read_member s.signed_crl_at rest)
    (exact_member (standing l.tbs_crl) s.signed_crl_at exact_signed_crl others rest
    (λ t. exact_member (fixed 8 48 t.1.algorithm) (r.same_algorithm_at t.1.algorithm) (exact_same_algorithm t.1.algorithm) (λ _. last k.signature_value) (λ _. last_at r.signature_value_at)
    (λ _. exact_last_at k.signature_value r.signature_value_at exact_signature_value)))

exact_crl : ExactElement l.crl s.crl_at
unfolding l.crl s.crl_at
exact_crl = exact_opened 48 (constructed no_rules l.crl_members no_rules) (read_constructed no_rules s.crl_members_at no_rules) (exact_constructed no_rules l.crl_members s.crl_members_at no_rules exact_crl_members)

pub crl_read : (bytes : List ℕ) (v : l.Crl) → IsBytes bytes → s.crl_all bytes ≡ Ok v → l.crl_file.Spells v bytes
unfolding s.crl_all
crl_read bytes v are e = (exact_last_at l.crl s.crl_at exact_crl).takes (place_of 0 bytes) v are e

pub crl_fault : (bytes : List ℕ) (f : Fault) → IsBytes bytes → s.crl_all bytes ≡ Err f → l.crl_file.FaultAt (place_of 0 bytes) f
unfolding s.crl_all
crl_fault bytes f are e = (exact_last_at l.crl s.crl_at exact_crl).faults (place_of 0 bytes) f are e

pub exact_crl_file : ExactMembers l.crl_file (last_at s.crl_at)
exact_crl_file = exact_last_at l.crl s.crl_at exact_crl
