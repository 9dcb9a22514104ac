-- Reading the payload of a manifest is exact.
use Rattle.std.proofs.Common.{◌≡◌, ℕ, ◌^◌, ◌%◌, ◌||◌, true, not, eqb, ltb, bytes_eq, List, [], ◌∷◌, length, get_or, drop, refl, ap, arith}
use Rattle.std.proofs.lemmas.Bool.{not-false, and_parts, or_parts, eqb-true, ltb-true}
use Rattle.std.proofs.lemmas.Slice.Eq.{bytes_eq-Decides}
use Rattle.der_lite.specs.Der.{is_integer, is_bit_string, bit_count, is_ia5}
use Rattle.der_lite.specs.Moments.{CivilMoment}
use Rattle.der_lite.specs.Grammar.{member, last, each}
use Rattle.der_lite.specs.DerReading.{time_at}
use Rattle.der_lite.specs.Decoding.{read_member, read_each}
use Rattle.der_lite.specs.Fields.{last_at, valued_at}
use Rattle.der_lite.specs.Values.{is_negative}
use Rattle.der_lite.proofs.Exact.{ExactElement, ExactMembers, exact_primitive, exact_member, exact_each}
use Rattle.der_lite.proofs.FieldLaws.{exact_field, exact_sequence, exact_last_at, exact_valued}
use Rattle.der_lite.proofs.Integers.{value_is}
use Rattle.der_lite.proofs.Rules.{kept_first}
use Rattle.der_lite.proofs.TimeLaws.{exact_timed, exact_time}
use Rattle.payloads.specs.Roa.{no_rules}
use Rattle.payloads.specs.Manifest.{NumberSpells, number_range, number_rules, manifest_number, this_update, next_rules, next_update, sha_256, AlgorithmSpells, algorithm_rules, hash_algorithm, ListedFile, listed_rules, name_rules, NameSpells, file_name, HashSpells, hash_length, hash_rules, file_hash, too_many_files, file_parts, file_members, file_and_hash, file_list, manifest_parts, behind_next, behind_this, manifest_members, manifest, manifest_payload}
use Rattle.payloads.specs.ManifestReading.{manifest_number_at, next_at, algorithm_at, name_at, hash_at, file_of, file_at, files_at, manifest_of, behind_next_at, behind_this_at, manifest_at}
use Rattle.payloads.proofs.RoaFields.{exact_first}

pub exact_number : ExactElement manifest_number manifest_number_at
unfolding manifest_number manifest_number_at
exact_number =
    exact_first number_range (λ content. content) NumberSpells
    (exact_primitive NumberSpells number_rules (λ content. content)
    (λ content bytes kept.
    let k = kept_first 4 (not (is_integer content)) (number_range content) kept in
    let r = kept_first 13 (is_negative content || ltb 20 (length content)) [] k.1 in
    record { bytes = refl; spelled = record { value = value_is content (or_parts (is_negative content) (ltb 20 (length content)) r.0).0; fewest = not-false (is_integer content) k.0 } })
    (λ content n kept s. s.bytes))

exact_this : ExactElement this_update time_at
unfolding this_update
exact_this = exact_time

exact_next : (this : CivilMoment) → ExactElement (next_update this) (next_at this)
unfolding next_update next_at
exact_next this = exact_timed (next_rules this)

exact_algorithm : ExactElement hash_algorithm algorithm_at
unfolding hash_algorithm algorithm_at
exact_algorithm =
    exact_field 6 (λ content. []) algorithm_rules (λ content. tt) AlgorithmSpells
    (exact_primitive AlgorithmSpells algorithm_rules (λ content. tt)
    (λ content bytes kept. (bytes_eq-Decides content sha_256).0 (not-false (bytes_eq content sha_256) (kept_first 15 (not (bytes_eq content sha_256)) [] kept).0))
    (λ content u kept s. refl))

exact_name : (before : List ListedFile) → ExactElement (file_name before) (name_at before)
unfolding file_name name_at
exact_name before =
    exact_field 22 (λ content. (4, not (is_ia5 content)) ∷ []) (listed_rules before) (λ content. content) NameSpells
    (exact_primitive NameSpells (name_rules before) (λ content. content) (λ content bytes kept. refl) (λ content name kept s. s))

-- of 256 bits none is unused
no_unused : (content : List ℕ) → is_bit_string content ≡ true → bit_count content ≡ 256 → content ≡ 0 ∷ drop 1 content
no_unused [] h e = absurd cc
no_unused (unused ∷ []) h e = absurd (omega (arith, e))
no_unused (unused ∷ first ∷ more) h e =
    let a = and_parts (ltb unused 8) (eqb (get_or (first ∷ more) (length more) 0 % 2 ^ unused) 0) h in
    let none : unused ≡ 0 = omega (arith, ltb-true unused 8 a.0, e) in
    ap (λ (n : ℕ). n ∷ first ∷ more) none

exact_hash : ExactElement file_hash hash_at
unfolding file_hash hash_at
exact_hash =
    exact_field 3 (λ content. (4, not (is_bit_string content)) ∷ []) hash_length (λ content. drop 1 content) HashSpells
    (exact_primitive HashSpells hash_rules (λ content. drop 1 content)
    (λ content bytes kept.
    let k = kept_first 4 (not (is_bit_string content)) (hash_length content) kept in
    let r = kept_first 17 (not (eqb (bit_count content) 256)) [] k.1 in
    no_unused content (not-false (is_bit_string content) k.0) (eqb-true (bit_count content) 256 (not-false (eqb (bit_count content) 256) r.0)))
    (λ content hash kept s. ap (λ (l : List ℕ). drop 1 l) s))

pub exact_file : (before : List ListedFile) → ExactElement (file_and_hash before) (file_at before)
unfolding file_and_hash file_at
exact_file before =
    exact_sequence (too_many_files before) (file_members before) (valued_at file_of (read_member (name_at before) (λ name. last_at hash_at))) no_rules
    (exact_valued file_of file_parts (λ _. refl) (λ _. refl) (member (file_name before) (λ name. last file_hash)) (read_member (name_at before) (λ name. last_at hash_at))
    (exact_member (file_name before) (name_at before) (exact_name before) (λ name. last file_hash) (λ name. last_at hash_at) (λ name. exact_last_at file_hash hash_at exact_hash)))

exact_files : ExactElement file_list files_at
unfolding file_list files_at
exact_files = exact_sequence no_rules (each file_and_hash) (read_each file_at) no_rules (exact_each file_and_hash file_at exact_file)

exact_behind_next : ExactMembers behind_next behind_next_at
exact_behind_next = exact_member hash_algorithm algorithm_at exact_algorithm (λ _. last file_list) (λ _. last_at files_at) (λ _. exact_last_at file_list files_at exact_files)

exact_behind_this : (this : CivilMoment) → ExactMembers (behind_this this) (behind_this_at this)
exact_behind_this this = exact_member (next_update this) (next_at this) (exact_next this) (λ next. behind_next) (λ next. behind_next_at) (λ next. exact_behind_next)

pub exact_manifest : ExactElement manifest manifest_at
unfolding manifest manifest_at
exact_manifest =
    exact_sequence no_rules manifest_members (valued_at manifest_of (read_member manifest_number_at (λ n. read_member time_at behind_this_at))) no_rules
    (exact_valued manifest_of manifest_parts (λ _. refl) (λ _. refl) (member manifest_number (λ n. member this_update behind_this)) (read_member manifest_number_at (λ n. read_member time_at behind_this_at))
    (exact_member manifest_number manifest_number_at exact_number (λ n. member this_update behind_this) (λ n. read_member time_at behind_this_at)
    (λ n. exact_member this_update time_at exact_this behind_this behind_this_at exact_behind_this)))

-- the whole payload
pub exact_payload : ExactMembers manifest_payload (last_at manifest_at)
unfolding manifest_payload
exact_payload = exact_last_at manifest manifest_at exact_manifest
