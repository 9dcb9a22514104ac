-- Nothing is wrong with a manifest that is spelled.
use Rattle.std.proofs.Common.{◌≡◌, ℕ, ◌||◌, Bool, true, false, not, ltb, leb, List, [], ◌∷◌, ◌++◌, length, Option, Some, None, Ok, Err, refl, sym, ap, subst, ◌∙◌}
use Rattle.der_lite.specs.Place.{Fault, place_of, first_of}
use Rattle.der_lite.specs.Der.{IsBytes, is_integer, is_ia5}
use Rattle.der_lite.specs.Moments.{CivilMoment, moment_before, moment_of, is_time}
use Rattle.der_lite.specs.Grammar.{EachSpells}
use Rattle.der_lite.specs.Values.{is_negative}
use Rattle.der_lite.proofs.MomentLaws.{spelled_is}
use Rattle.payloads.specs.Manifest.{number_range, manifest_number, next_rules, next_update, ListedFile, listed_rules, file_name, file_and_hash, file_list, ManifestValue, manifest, manifest_payload, ManifestSpells, ManifestFaultAt}
use Rattle.payloads.specs.ManifestReading.{manifest_all}
use Rattle.payloads.specs.ManifestRefusal.{value_rules, file_rules, files_refusal, manifest_refusal}
use Rattle.payloads.specs.declared.fault.PayloadFault.{PayloadFault}
use Rattle.payloads.specs.declared.fault.PayloadFault.TheVariants.{At, Memory}
use Rattle.payloads.specs.declared.fault.ValueFault.{ValueFault}
use Rattle.payloads.specs.Faults.{grammar_fault_of}
use Rattle.payloads.specs.RoaRefusal.{Finds}
use Rattle.payloads.specs.Gives.{GivesAllOrMemory, DecodesManifest}
use Rattle.der_lite.proofs.Rules.{kept_first, kept_on}
use Rattle.payloads.proofs.Manifests.{exact_payload}

-- one of three
or_three : (a b c : Bool) → a ≡ false → (b || c) ≡ false → (a || b || c) ≡ false
or_three true b c h k = absurd cc
or_three false b c h k = k

-- no rule of the number is broken
number_right : (n bytes : List ℕ) → manifest_number.Spells n bytes → (not (is_integer n) || is_negative n || ltb 20 (length n)) ≡ false
unfolding manifest_number
number_right n bytes s =
    let inner = s.0 in
    let k = kept_first 4 (not (is_integer inner)) (number_range inner) s.2.1 in
    let r = kept_first 13 (is_negative inner || ltb 20 (length inner)) [] k.1 in
    subst (λ (l : List ℕ). (not (is_integer l) || is_negative l || ltb 20 (length l)) ≡ false) s.2.0.bytes
    (or_three (not (is_integer inner)) (is_negative inner) (ltb 20 (length inner)) k.0 r.0)

-- the times are in order
times_right : (this next : CivilMoment) (bytes : List ℕ) → (next_update this).Spells next bytes → not (moment_before this next) ≡ false
unfolding next_update
times_right this next bytes s =
    let inner = s.0 in
    let k = kept_first 4 (not (is_time inner)) (next_rules this (moment_of inner)) s.2.1 in
    let r = kept_first 14 (not (moment_before this (moment_of inner))) [] k.1 in
    ap (λ (m : CivilMoment). not (moment_before this m)) (sym (spelled_is inner next s.2.0).1) ∙ r.0

-- a file behind those before it
file_right : (before : List ListedFile) (file : ListedFile) (bytes : List ℕ) → (file_and_hash before).Spells file bytes → first_of (file_rules before file) ≡ None
unfolding file_and_hash file_name
file_right before file bytes s =
    let few = kept_first 19 (leb 65536 (length before)) [] s.2.0 in
    let name = s.2.1.3 in
    let k = kept_first 4 (not (is_ia5 name.0)) (listed_rules before name.0) name.2.1 in
    let listed = ap (λ (l : List ℕ). first_of (listed_rules before l)) (sym name.2.0) ∙ k.1 in
    kept_on 19 (leb 65536 (length before)) (listed_rules before file.name) few.0 listed

-- nothing is wrong with the first, nor later
pub later_files : (before : List ListedFile) (file : ListedFile) (files : List ListedFile) → first_of (file_rules before file) ≡ None → files_refusal (before ++ file ∷ []) files ≡ None → files_refusal before (file ∷ files) ≡ None
later_files before file files h later = rw h later

-- files that are spelled
files_right : (before files : List ListedFile) (bytes : List ℕ) → EachSpells file_and_hash before files bytes → files_refusal before files ≡ None
files_right before [] bytes s = refl
files_right before (file ∷ files) bytes s = later_files before file files (file_right before file s.0 s.3) (files_right (before ++ file ∷ []) files s.1 s.4)

-- the list of files
list_right : (files : List ListedFile) (bytes : List ℕ) → file_list.Spells files bytes → files_refusal [] files ≡ None
unfolding file_list
list_right files bytes s = files_right [] files s.0 s.2.1

-- nothing is wrong with the value, nor with the files
pub refusal_none : (m : ManifestValue) → first_of (value_rules m) ≡ None → files_refusal [] m.files ≡ None → manifest_refusal m ≡ None
unfolding manifest_refusal
refusal_none m h k = rw h k

-- Nothing is wrong with a manifest that bytes spell.
pub manifest_right : (m : ManifestValue) (bytes : List ℕ) → ManifestSpells m bytes → manifest_refusal m ≡ None
unfolding ManifestSpells manifest_payload manifest
manifest_right m bytes s =
    let number = s.2.1 in
    let next = number.4.4 in
    refusal_none m
    (kept_on 13 (not (is_integer m.number) || is_negative m.number || ltb 20 (length m.number)) ((14, not (moment_before m.this_update m.next_update)) ∷ [])
    (number_right m.number number.0 number.3)
    (kept_on 14 (not (moment_before m.this_update m.next_update)) [] (times_right m.this_update m.next_update next.0 next.3) refl))
    (list_right m.files next.4.1 next.4.4)

-- a manifest that was read is one
pub read_right : (m : ManifestValue) (bytes : List ℕ) → IsBytes bytes → manifest_all bytes ≡ Ok m → ManifestSpells m bytes
unfolding manifest_all ManifestSpells
read_right m bytes are e = exact_payload.takes (place_of 0 bytes) m are e

-- a fault that was read is the one there
pub fault_read : (bytes : List ℕ) (f : Fault) → IsBytes bytes → manifest_all bytes ≡ Err f → ManifestFaultAt bytes f.offset f.number
unfolding manifest_all ManifestFaultAt
fault_read bytes f are e = exact_payload.faults (place_of 0 bytes) f are e

-- why nothing was read
pub why_not : (fault : PayloadFault) (bytes : List ℕ) → IsBytes bytes → GivesAllOrMemory {X = ManifestValue} (λ m. m) (Err fault) (manifest_all bytes) → DecodesManifest (Err fault) bytes
why_not (At fault) bytes are e = fault_read bytes (grammar_fault_of fault) are e
why_not Memory bytes are e = tt

-- the first fault is one of the number or the times, otherwise the first of the files
pub first_of_value : (m : ManifestValue) (number : ℕ) → Some number ≡ first_of (value_rules m) → manifest_refusal m ≡ Some (number, 0)
unfolding manifest_refusal
first_of_value m number h = rw (sym h) refl

pub first_of_files : (m : ManifestValue) (found : Option ValueFault) → None ≡ first_of (value_rules m) → Finds found (files_refusal [] m.files) → Finds found (manifest_refusal m)
unfolding manifest_refusal
first_of_files m found h f = rw (sym h) f
