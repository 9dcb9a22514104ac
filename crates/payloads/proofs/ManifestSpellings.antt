-- A manifest with which nothing is wrong is spelled by its bytes.
use Rattle.std.proofs.Common.{◌≡◌, ℕ, zero, suc, ◌+◌, ◌*◌, ◌/◌, ◌%◌, ◌^◌, ◌<◌, ◌≤◌, Bool, true, false, not, ◌||◌, eqb, ltb, leb, List, [], ◌∷◌, ◌++◌, length, take, get_or, None, refl, sym, ap, subst, ◌∙◌, arith, length-append, append_assoc}
use Rattle.std.specs.Prelude.{Result, Ok, Err, OnOk}
use Rattle.std.specs.declared.alloc.AllocError.{AllocError}
use Rattle.std.specs.List.{All}
use Rattle.std.proofs.lemmas.Bool.{or_parts, or_from, not-false, not_from_true, leb-false, ltb-false, lt-leb, le-ltb, eq-eqb}
use Rattle.std.proofs.lemmas.List.{append-nil}
use Rattle.std.proofs.Math.Seq.{take-suc}
use Rattle.std.proofs.lemmas.List.Elements.{All-cons, All-append, All-head, All-tail}
use Rattle.der_lite.specs.Place.{first_of}
use Rattle.der_lite.specs.Der.{IsBytes, tlv, is_integer, is_bit_string, bit_count, is_ia5}
use Rattle.der_lite.specs.Moments.{CivilMoment, is_moment, decimals, moment_digits, moment_text, moment_before, moment_of, is_time, TimeSpells}
use Rattle.der_lite.specs.Grammar.{EachSpells}
use Rattle.der_lite.specs.Times.{timed}
use Rattle.der_lite.specs.Values.{is_negative}
use Rattle.der_lite.specs.Writing.{Adds}
use Rattle.der_lite.proofs.Integers.{value_is}
use Rattle.der_lite.proofs.MomentLaws.{spelled_is}
use Rattle.der_lite.proofs.NumberBytes.{bytes_append, bytes_cons, no_bytes, tlv_length, tlv_bytes}
use Rattle.payloads.specs.Manifest.{manifest_number, this_update, next_rules, next_update, sha_256, hash_algorithm, ListedFile, is_name, is_listed, listed_rules, file_name, file_hash, file_and_hash, file_list, ManifestValue, manifest, manifest_payload, ManifestSpells}
use Rattle.payloads.specs.ManifestBytes.{file_bytes, files_bytes, front_bytes, manifest_bytes}
use Rattle.payloads.specs.ManifestRefusal.{value_rules, file_rules, files_refusal, manifest_refusal, HasHash, HasShortName}
use Rattle.payloads.proofs.ManifestFileNames.{name_facts, ascii_are}
use Rattle.der_lite.proofs.Rules.{kept_first, kept_on}
use Rattle.payloads.proofs.ManifestRefusals.{manifest_right}
use Rattle.payloads.proofs.DecodingLaws.{are_bytes}
use Rattle.payloads.specs.PayloadLaws.{IsHash, ManifestRefusesExactly}
use Rattle.payloads.proofs.RoaRefusals.{none_at}

-- ---- how many bytes there are

-- the members of a file
abbrev pub file_members_bytes : List ℕ → List ℕ → List ℕ
file_members_bytes name hash = tlv 22 name ++ tlv 3 (0 ∷ hash)

pub members_few : (name hash : List ℕ) → length name ≤ 255 → length hash ≡ 32 → length (file_members_bytes name hash) ≤ 300
members_few name hash short long = omega (arith, length-append (tlv 22 name) (tlv 3 (0 ∷ hash)), tlv_length 22 name, tlv_length 3 (0 ∷ hash), short, long)

-- the bytes of files in two parts
files_append : (files others : List ListedFile) → files_bytes (files ++ others) ≡ files_bytes files ++ files_bytes others
files_append [] others = refl
files_append (file ∷ files) others = ap (λ (l : List ℕ). file_bytes file ++ l) (files_append files others) ∙ sym (append_assoc (file_bytes file) (files_bytes files) (files_bytes others))

-- the files so far with one more
one_more : (files : List ListedFile) (index : ℕ) (file : ListedFile) → index < length files → file ≡ get_or files index file → take (index + 1) files ≡ take index files ++ file ∷ []
one_more files index file less item =
    let next : index + 1 ≡ suc index = omega arith in
    ap (λ (n : ℕ). take n files) next ∙ take-suc files index file less ∙ ap (λ (f : ListedFile). take index files ++ f ∷ []) (sym item)

-- one file more
pub files_step : (files : List ListedFile) (index : ℕ) (file : ListedFile) (old new : List ℕ) → index < length files → file ≡ get_or files index file → old ≡ files_bytes (take index files) → new ≡ old ++ file_bytes file
    → new ≡ files_bytes (take (index + 1) files)
files_step files index file old new less item old_is new_is =
    new_is ∙ ap (λ (l : List ℕ). l ++ file_bytes file) old_is ∙ ap (λ (l : List ℕ). files_bytes (take index files) ++ l) (sym (append-nil (file_bytes file)))
    ∙ sym (files_append (take index files) (file ∷ [])) ∙ sym (ap files_bytes (one_more files index file less item))

-- each so far has its hash, and so has the next
pub hashes_step : (files : List ListedFile) (index : ℕ) (file : ListedFile) → index < length files → file ≡ get_or files index file → All HasHash (take index files) → HasHash file → All HasHash (take (index + 1) files)
hashes_step files index file less item before long =
    subst (All HasHash) (sym (one_more files index file less item))
    (All-append HasHash (take index files) (file ∷ []) before (All-cons HasHash file [] long (λ k d none. absurd (omega (arith, none)))))

-- a file that was added
pub file_added : (r : Result (Unit {0}) AllocError) (old new members : List ℕ) (file : ListedFile) → length file.hash ≡ 32 → members ≡ file_members_bytes file.name file.hash → Adds r 48 members old new
    → OnOk r ((new ≡ old ++ file_bytes file) × HasHash file)
unfolding file_bytes
file_added (Ok _) old new members file long same added = (added ∙ ap (λ (l : List ℕ). old ++ tlv 48 l) same, long)
file_added (Err _) old new members file long same added = tt

file_few : (file : ListedFile) → HasShortName file → HasHash file → length (file_bytes file) ≤ 310
unfolding file_bytes
file_few file short long = omega (arith, tlv_length 48 (file_members_bytes file.name file.hash), members_few file.name file.hash short long)

pub files_few : (files : List ListedFile) → All HasShortName files → All HasHash files → length (files_bytes files) ≤ 310 * length files
files_few [] short long = omega arith
files_few (file ∷ files) short long =
    omega (
      arith,
      length-append (file_bytes file) (files_bytes files),
      file_few file (All-head HasShortName file files short) (All-head HasHash file files long),
      files_few files (All-tail HasShortName file files short) (All-tail HasHash file files long),
    )

text_length : (m : CivilMoment) → length (moment_text m) ≡ 15
unfolding moment_text moment_digits
text_length m = refl

pub front_few : (m : ManifestValue) → length m.number ≤ 20 → length (front_bytes m) ≤ 100
unfolding front_bytes
front_few m short = four (tlv 2 m.number) (tlv 24 (moment_text m.this_update)) (tlv 24 (moment_text m.next_update)) (tlv 6 sha_256)
    (omega (arith, short, tlv_length 2 m.number)) (omega (arith, text_length m.this_update, tlv_length 24 (moment_text m.this_update))) (omega (arith, text_length m.next_update, tlv_length 24 (moment_text m.next_update))) (omega (arith, tlv_length 6 sha_256))
  where
    four : (a b c d : List ℕ) → length a ≤ 26 → length b ≤ 21 → length c ≤ 21 → length d ≤ 21 → length (a ++ b ++ c ++ d) ≤ 100
    four a b c d ha hb hc hd = omega (arith, ha, hb, hc, hd, length-append (a ++ b ++ c) d, length-append (a ++ b) c, length-append a b)

-- ---- what nothing is wrong with

-- the first file is right, and so are the later ones
pub record FirstRight (before : List ListedFile) (file : ListedFile) (files : List ListedFile) : Type 0 where
  pub few : length before < 65536
  pub name : is_name file.name ≡ true
  pub new : is_listed file.name before ≡ false
  pub later : files_refusal (before ++ file ∷ []) files ≡ None

first_file : (before : List ListedFile) (file : ListedFile) (files : List ListedFile) → files_refusal before (file ∷ files) ≡ None → FirstRight before file files
first_file before file files h =
    let n = none_at (length before) (first_of (file_rules before file)) (files_refusal (before ++ file ∷ []) files) h in
    let many = kept_first 19 (leb 65536 (length before)) (listed_rules before file.name) n.0 in
    let name = kept_first 16 (not (is_name file.name)) ((18, is_listed file.name before) ∷ []) many.1 in
    record {
      few = leb-false 65536 (length before) many.0;
      name = not-false (is_name file.name) name.0;
      new = (kept_first 18 (is_listed file.name before) [] name.1).0;
      later = n.1;
    }

pub few_files : (before files : List ListedFile) → length before ≤ 65536 → files_refusal before files ≡ None → length before + length files ≤ 65536
few_files before [] few h = omega (arith, few)
few_files before (file ∷ files) few h =
    let f = first_file before file files h in
    omega (arith, f.few, length-append before (file ∷ []), few_files (before ++ file ∷ []) files (omega (arith, f.few, length-append before (file ∷ []))) f.later)

pub short_names : (before files : List ListedFile) → files_refusal before files ≡ None → All HasShortName files
short_names before [] h = λ k d less. absurd (omega (arith, less))
short_names before (file ∷ files) h =
    let f = first_file before file files h in
    All-cons HasShortName file files (name_facts file.name f.name).short (short_names (before ++ file ∷ []) files f.later)

-- what is known of a manifest
pub record Right (m : ManifestValue) : Type 0 where
  pub fewest : is_integer m.number ≡ true
  pub natural : is_negative m.number ≡ false
  pub short : length m.number ≤ 20
  pub order : moment_before m.this_update m.next_update ≡ true
  pub files : files_refusal [] m.files ≡ None

pub is_right : (m : ManifestValue) → manifest_refusal m ≡ None → Right m
unfolding manifest_refusal
is_right m h =
    let n = none_at 0 (first_of (value_rules m)) (files_refusal [] m.files) h in
    let v = kept_first 13 (not (is_integer m.number) || is_negative m.number || ltb 20 (length m.number)) ((14, not (moment_before m.this_update m.next_update)) ∷ []) n.0 in
    let o = or_parts (not (is_integer m.number) || is_negative m.number) (ltb 20 (length m.number)) v.0 in
    let i = or_parts (not (is_integer m.number)) (is_negative m.number) o.0 in
    record {
      fewest = not-false (is_integer m.number) i.0;
      natural = i.1;
      short = ltb-false 20 (length m.number) o.1;
      order = not-false (moment_before m.this_update m.next_update) (kept_first 14 (not (moment_before m.this_update m.next_update)) [] v.1).0;
      files = n.1;
    }

-- ---- the elements of a file

name_spells : (before : List ListedFile) (name : List ℕ) → is_name name ≡ true → is_listed name before ≡ false → (file_name before).Spells name (tlv 22 name)
unfolding file_name
name_spells before name is new =
    let f = name_facts name is in (
      name,
      record { short = omega (arith, f.short); spelled = refl },
      (
        refl,
        kept_on 4 (not (is_ia5 name)) (listed_rules before name) (not_from_true (is_ia5 name) f.ascii)
            (kept_on 16 (not (is_name name)) ((18, is_listed name before) ∷ []) (not_from_true (is_name name) is) (kept_on 18 (is_listed name before) [] new refl)),
      ),
    )

-- a content without unused bits
no_unused : (hash : List ℕ) → length hash ≡ 32 → (is_bit_string (0 ∷ hash) ≡ true) × (bit_count (0 ∷ hash) ≡ 256)
no_unused [] long = absurd (omega (arith, long))
no_unused (first ∷ more) long =
    let none : get_or (first ∷ more) (length more) 0 % 1 ≡ 0 = omega arith in
    (eq-eqb (get_or (first ∷ more) (length more) 0 % 1) 0 none, omega (arith, long))

hash_spells : (hash : List ℕ) → length hash ≡ 32 → file_hash.Spells hash (tlv 3 (0 ∷ hash))
unfolding file_hash
hash_spells hash long =
    let b = no_unused hash long in (
      0 ∷ hash,
      record { short = omega (arith, long); spelled = refl },
      (
        refl,
        kept_on 4 (not (is_bit_string (0 ∷ hash))) ((17, not (eqb (bit_count (0 ∷ hash)) 256)) ∷ []) (not_from_true (is_bit_string (0 ∷ hash)) b.0)
            (kept_on 17 (not (eqb (bit_count (0 ∷ hash)) 256)) [] (not_from_true (eqb (bit_count (0 ∷ hash)) 256) (eq-eqb (bit_count (0 ∷ hash)) 256 b.1)) refl),
      ),
    )

file_spells : (before : List ListedFile) (file : ListedFile) → length before < 65536 → is_name file.name ≡ true → is_listed file.name before ≡ false → HasHash file → (file_and_hash before).Spells file (file_bytes file)
unfolding file_and_hash file_bytes
file_spells before file few is new long =
    let short = (name_facts file.name is).short in (
      file_members_bytes file.name file.hash,
      record { short = omega (arith, members_few file.name file.hash short long); spelled = refl },
      (
        kept_on 19 (leb 65536 (length before)) [] (lt-leb 65536 (length before) few) refl,
        (tlv 22 file.name, tlv 3 (0 ∷ file.hash), record { parts = refl }, name_spells before file.name is new, hash_spells file.hash long),
        refl,
      ),
    )

each_spells : (before files : List ListedFile) → files_refusal before files ≡ None → All HasHash files → EachSpells file_and_hash before files (files_bytes files)
each_spells before [] right long = refl
each_spells before (file ∷ files) right long =
    let f = first_file before file files right in
    (file_bytes file, files_bytes files, record { parts = refl }, file_spells before file f.few f.name f.new (All-head HasHash file files long), each_spells (before ++ file ∷ []) files f.later (All-tail HasHash file files long))

-- ---- the elements of the manifest

number_spells : (n : List ℕ) → is_integer n ≡ true → is_negative n ≡ false → length n ≤ 20 → manifest_number.Spells n (tlv 2 n)
unfolding manifest_number
number_spells n fewest natural short =
    let over : (is_negative n || ltb 20 (length n)) ≡ false = or_from (is_negative n) (ltb 20 (length n)) natural (le-ltb 20 (length n) short) in (
      n,
      record { short = omega (arith, short); spelled = refl },
      (
        record { bytes = refl; spelled = record { value = value_is n natural; fewest = fewest } },
        kept_on 4 (not (is_integer n)) ((13, is_negative n || ltb 20 (length n)) ∷ []) (not_from_true (is_integer n) fewest) (kept_on 13 (is_negative n || ltb 20 (length n)) [] over refl),
      ),
    )

-- a real moment that keeps the rules
time_spells : (rules : CivilMoment → List (ℕ × Bool)) (m : CivilMoment) → is_moment m ≡ true → first_of (rules m) ≡ None → (timed rules).Spells m (tlv 24 (moment_text m))
time_spells rules m real kept =
    let text : TimeSpells m (moment_text m) = record { text = refl; real = real } in
    let s = spelled_is (moment_text m) m text in
    let ruled : first_of (rules (moment_of (moment_text m))) ≡ None = ap (λ (n : CivilMoment). first_of (rules n)) s.1 ∙ kept in (
      moment_text m,
      record { short = omega (arith, text_length m); spelled = refl },
      (text, kept_on 4 (not (is_time (moment_text m))) (rules (moment_of (moment_text m))) (not_from_true (is_time (moment_text m)) s.0) ruled),
    )

this_spells : (m : CivilMoment) → is_moment m ≡ true → this_update.Spells m (tlv 24 (moment_text m))
unfolding this_update
this_spells m real = time_spells (λ this. []) m real refl

next_spells : (this next : CivilMoment) → is_moment next ≡ true → moment_before this next ≡ true → (next_update this).Spells next (tlv 24 (moment_text next))
unfolding next_update
next_spells this next real later = time_spells (next_rules this) next real (kept_on 14 (not (moment_before this next)) [] (not_from_true (moment_before this next) later) refl)

algorithm_spells : hash_algorithm.Spells tt (tlv 6 sha_256)
unfolding hash_algorithm
algorithm_spells = (sha_256, record { short = omega arith; spelled = refl }, (refl, refl))

pub list_short : (files : List ListedFile) → files_refusal [] files ≡ None → All HasHash files → length (files_bytes files) ≤ 20316160
list_short files right long = omega (arith, few_files [] files (omega arith) right, files_few files (short_names [] files right) long)

list_spells : (files : List ListedFile) → files_refusal [] files ≡ None → All HasHash files → file_list.Spells files (tlv 48 (files_bytes files))
unfolding file_list
list_spells files right long = (files_bytes files, record { short = omega (arith, list_short files right long); spelled = refl }, (refl, each_spells [] files right long, refl))

-- the members of the whole
abbrev pub whole_members : ManifestValue → List ℕ
whole_members m = front_bytes m ++ tlv 48 (files_bytes m.files)

pub members_short : (m : ManifestValue) → Right m → All HasHash m.files → length (whole_members m) < 2 ^ 32
members_short m r long =
    omega (arith, length-append (front_bytes m) (tlv 48 (files_bytes m.files)), front_few m r.short, tlv_length 48 (files_bytes m.files), list_short m.files r.files long)

-- five parts, from the first on
regrouped : (a b c d e : List ℕ) → a ++ b ++ c ++ d ++ e ≡ a ++ (b ++ (c ++ (d ++ e)))
regrouped a b c d e = append_assoc (a ++ b ++ c) d e ∙ append_assoc (a ++ b) c (d ++ e) ∙ append_assoc a b (c ++ (d ++ e))

-- Nothing is wrong with a value: its bytes spell it.
pub value_spells : (m : ManifestValue) → is_moment m.this_update ≡ true → is_moment m.next_update ≡ true → All HasHash m.files → manifest_refusal m ≡ None → ManifestSpells m (manifest_bytes m)
unfolding ManifestSpells manifest_payload manifest manifest_bytes front_bytes
value_spells m this_real next_real long right =
    let r = is_right m right in
    let list = tlv 48 (files_bytes m.files) in
    let number = tlv 2 m.number in
    let this = tlv 24 (moment_text m.this_update) in
    let next = tlv 24 (moment_text m.next_update) in
    let algorithm = tlv 6 sha_256 in (
      whole_members m,
      record { short = members_short m r long; spelled = refl },
      (
        refl,
        (
          number,
          this ++ (next ++ (algorithm ++ list)),
          record { parts = regrouped number this next algorithm list },
          number_spells m.number r.fewest r.natural r.short,
          (
            this,
            next ++ (algorithm ++ list),
            record { parts = refl },
            this_spells m.this_update this_real,
            (
              next,
              algorithm ++ list,
              record { parts = refl },
              next_spells m.this_update m.next_update next_real r.order,
              (algorithm, list, record { parts = refl }, algorithm_spells, list_spells m.files r.files long),
            ),
          ),
        ),
        refl,
      ),
    )

-- ---- bytes of a manifest are bytes

decimals_are : (count n : ℕ) → IsBytes (decimals count n)
decimals_are zero n = no_bytes
decimals_are (suc count) n = bytes_append (decimals count (n / 10)) ((48 + n % 10) ∷ []) (decimals_are count (n / 10)) (bytes_cons (48 + n % 10) [] (omega arith) no_bytes)

text_are : (m : CivilMoment) → IsBytes (moment_text m)
unfolding moment_text moment_digits
text_are m =
    let year = decimals 4 m.year in
    let month = decimals 2 m.month in
    let day = decimals 2 m.day in
    let hour = decimals 2 m.hour in
    let minute = decimals 2 m.minute in
    let second = decimals 2 m.second in
    bytes_append (year ++ month ++ day ++ hour ++ minute ++ second) (90 ∷ [])
    (bytes_append (year ++ month ++ day ++ hour ++ minute) second
    (bytes_append (year ++ month ++ day ++ hour) minute
    (bytes_append (year ++ month ++ day) hour
    (bytes_append (year ++ month) day
    (bytes_append year month (decimals_are 4 m.year) (decimals_are 2 m.month))
    (decimals_are 2 m.day))
    (decimals_are 2 m.hour))
    (decimals_are 2 m.minute))
    (decimals_are 2 m.second))
    (bytes_cons 90 [] (omega arith) no_bytes)

file_are : (file : ListedFile) → is_name file.name ≡ true → IsHash file.hash → IsBytes (file_bytes file)
unfolding file_bytes
file_are file is h =
    tlv_bytes 48 (file_members_bytes file.name file.hash) (omega arith)
    (bytes_append (tlv 22 file.name) (tlv 3 (0 ∷ file.hash)) (tlv_bytes 22 file.name (omega arith) (ascii_are file.name (name_facts file.name is).ascii)) (tlv_bytes 3 (0 ∷ file.hash) (omega arith) (bytes_cons 0 file.hash (omega arith) h.bytes)))

-- each hash is one
abbrev AreHashes : List ListedFile → Type 0
AreHashes files = All (λ file. IsHash file.hash) files

files_are : (before files : List ListedFile) → files_refusal before files ≡ None → AreHashes files → IsBytes (files_bytes files)
files_are before [] right hashes = no_bytes
files_are before (file ∷ files) right hashes =
    let f = first_file before file files right in
    bytes_append (file_bytes file) (files_bytes files) (file_are file f.name (All-head (λ file. IsHash file.hash) file files hashes)) (files_are (before ++ file ∷ []) files f.later (All-tail (λ file. IsHash file.hash) file files hashes))

manifest_are : (m : ManifestValue) → IsBytes m.number → AreHashes m.files → files_refusal [] m.files ≡ None → IsBytes (manifest_bytes m)
unfolding manifest_bytes front_bytes
manifest_are m number hashes right =
    let this = tlv 24 (moment_text m.this_update) in
    let next = tlv 24 (moment_text m.next_update) in
    let algorithm = tlv 6 sha_256 in
    tlv_bytes 48 (whole_members m) (omega arith)
    (bytes_append (tlv 2 m.number ++ this ++ next ++ algorithm) (tlv 48 (files_bytes m.files))
    (bytes_append (tlv 2 m.number ++ this ++ next) algorithm
    (bytes_append (tlv 2 m.number ++ this) next
    (bytes_append (tlv 2 m.number) this (tlv_bytes 2 m.number (omega arith) number) (tlv_bytes 24 (moment_text m.this_update) (omega arith) (text_are m.this_update)))
    (tlv_bytes 24 (moment_text m.next_update) (omega arith) (text_are m.next_update)))
    (tlv_bytes 6 sha_256 (omega arith) (are_bytes sha_256 refl)))
    (tlv_bytes 48 (files_bytes m.files) (omega arith) (files_are [] m.files right hashes)))

-- their hashes are long enough
long_hashes : (files : List ListedFile) → AreHashes files → All HasHash files
long_hashes files hashes k d less = (hashes k d less).long

-- Nothing is wrong with a value exactly if some bytes spell it.
pub manifest_law : ManifestRefusesExactly
manifest_law m number this next hashes = (
  (λ right. (manifest_bytes m, manifest_are m number hashes (is_right m right).files, value_spells m this next (long_hashes m.files hashes) right)),
  (λ s. manifest_right m s.0 s.2),
)
