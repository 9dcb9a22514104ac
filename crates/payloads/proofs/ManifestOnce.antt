-- No manifest has two spellings.
use Rattle.std.proofs.Common.{List, [], sym, ◌∙◌}
use Rattle.der_lite.specs.Der.{head_rules}
use Rattle.der_lite.specs.Moments.{CivilMoment}
use Rattle.der_lite.specs.Grammar.{primitive, constructed, member, last, each}
use Rattle.der_lite.proofs.Once.{Once, once_element, once_primitive, once_constructed, once_last, once_member, once_each}
use Rattle.der_lite.proofs.FieldLaws.{once_valued}
use Rattle.der_lite.proofs.TimeLaws.{once_timed}
use Rattle.payloads.specs.Roa.{no_rules, first_head}
use Rattle.payloads.specs.Manifest.{NumberSpells, number_rules, manifest_number, this_update, next_rules, next_update, AlgorithmSpells, algorithm_rules, hash_algorithm, ListedFile, name_rules, NameSpells, file_name, HashSpells, hash_rules, file_hash, too_many_files, file_parts, file_members, file_and_hash, file_list, manifest_parts, behind_next, behind_this, manifest_members, manifest, manifest_payload, ManifestSpells}

once_number : Once manifest_number.Spells
unfolding manifest_number
once_number = once_element 2 first_head (primitive NumberSpells number_rules) (once_primitive NumberSpells number_rules (λ v a b ba bb ka kb s t. s.bytes ∙ sym t.bytes))

once_this : Once this_update.Spells
unfolding this_update
once_this = once_timed (λ this. [])

once_next : (this : CivilMoment) → Once (next_update this).Spells
unfolding next_update
once_next this = once_timed (next_rules this)

once_algorithm : Once hash_algorithm.Spells
unfolding hash_algorithm
once_algorithm = once_element 6 (head_rules 6) (primitive AlgorithmSpells algorithm_rules) (once_primitive AlgorithmSpells algorithm_rules (λ v a b ba bb ka kb s t. s ∙ sym t))

once_name : (before : List ListedFile) → Once (file_name before).Spells
unfolding file_name
once_name before = once_element 22 (head_rules 22) (primitive NameSpells (name_rules before)) (once_primitive NameSpells (name_rules before) (λ v a b ba bb ka kb s t. s ∙ sym t))

once_hash : Once file_hash.Spells
unfolding file_hash
once_hash = once_element 3 (head_rules 3) (primitive HashSpells hash_rules) (once_primitive HashSpells hash_rules (λ v a b ba bb ka kb s t. s ∙ sym t))

once_file : (before : List ListedFile) → Once (file_and_hash before).Spells
unfolding file_and_hash
once_file before = once_element 48 (head_rules 48) (constructed (too_many_files before) (file_members before) no_rules)
    (once_constructed (too_many_files before) (file_members before) no_rules
    (once_valued file_parts (member (file_name before) (λ name. last file_hash))
    (once_member (file_name before) (λ name. last file_hash) (once_name before) (λ name. once_last file_hash once_hash))))

once_files : Once file_list.Spells
unfolding file_list
once_files = once_element 48 (head_rules 48) (constructed no_rules (each file_and_hash) no_rules) (once_constructed no_rules (each file_and_hash) no_rules (once_each file_and_hash once_file))

once_behind_next : Once behind_next.Spells
once_behind_next = once_member hash_algorithm (λ _. last file_list) once_algorithm (λ _. once_last file_list once_files)

once_behind_this : (this : CivilMoment) → Once (behind_this this).Spells
once_behind_this this = once_member (next_update this) (λ next. behind_next) (once_next this) (λ next. once_behind_next)

once_element_of : Once manifest.Spells
unfolding manifest
once_element_of = once_element 48 (head_rules 48) (constructed no_rules manifest_members no_rules)
    (once_constructed no_rules manifest_members no_rules
    (once_valued manifest_parts (member manifest_number (λ n. member this_update behind_this))
    (once_member manifest_number (λ n. member this_update behind_this) once_number (λ n. once_member this_update behind_this once_this once_behind_this))))

pub once_manifest : Once ManifestSpells
unfolding ManifestSpells manifest_payload
once_manifest = once_last manifest once_element_of
