-- The payload of a manifest (RFC 9286 section 4), and the first fault of bytes that spell none.
use Rattle.std.specs.Prelude.{◌≡◌, ℕ, ◌-◌, ◌&&◌, ◌||◌, Bool, not, nat_lt, nat_le, ◌==◌, bytes_eq, List, [], ◌∷◌, length, slice_index, take, drop, pos}
use Rattle.std.specs.List.{list_all, list_any}
use Rattle.der_lite.specs.Place.{place_of}
use Rattle.der_lite.specs.Der.{BIT_STRING, IA5_STRING, INTEGER, OBJECT_IDENTIFIER, SEQUENCE, number, is_integer, IntSpells, is_bit_string, bit_count, is_ia5, head_rules}
use Rattle.der_lite.specs.Moments.{CivilMoment, is_between, moment_before}
use Rattle.der_lite.specs.Times.{timed}
use Rattle.der_lite.specs.Grammar.{Element, Members, element, primitive, constructed, last, member, each}
use Rattle.der_lite.specs.Values.{is_negative}
use Rattle.der_lite.specs.Fields.{valued}
use Rattle.payloads.specs.Roa.{no_rules, first_head}

-- ---- RFC 9286 section 4.2.1: the fields before the list

-- a whole number in the fewest bytes, not negative
pub record NumberSpells (n content : List ℕ) : Type 0 where
  pub bytes : content ≡ n
  pub spelled : IntSpells (pos (number n)) n

-- not negative, and at most 20 bytes
abbrev pub number_range : List ℕ → List (ℕ × Bool)
number_range content = (13, is_negative content || nat_lt 20 (length content)) ∷ []

abbrev pub number_rules : List ℕ → List (ℕ × Bool)
number_rules content = (4, not (is_integer content)) ∷ number_range content

-- manifestNumber INTEGER (0..MAX): its content
unfoldable pub manifest_number : Element (List ℕ)
manifest_number = element INTEGER first_head (primitive NumberSpells number_rules)

-- thisUpdate GeneralizedTime
unfoldable pub this_update : Element CivilMoment
this_update = timed (λ this. [])

-- nextUpdate is later than thisUpdate
abbrev pub next_rules : CivilMoment → CivilMoment → List (ℕ × Bool)
next_rules this next = (14, not (moment_before this next)) ∷ []

-- nextUpdate GeneralizedTime
unfoldable pub next_update : CivilMoment → Element CivilMoment
next_update this = timed (next_rules this)

-- 2.16.840.1.101.3.4.2.1, SHA-256 (RFC 7935 section 2)
abbrev pub sha_256 : List ℕ
sha_256 = 96 ∷ 134 ∷ 72 ∷ 1 ∷ 101 ∷ 3 ∷ 4 ∷ 2 ∷ 1 ∷ []

abbrev pub AlgorithmSpells : Unit {0} → List ℕ → Type 0
AlgorithmSpells _ content = content ≡ sha_256

abbrev pub algorithm_rules : List ℕ → List (ℕ × Bool)
algorithm_rules content = (15, not (bytes_eq content sha_256)) ∷ []

-- fileHashAlg OBJECT IDENTIFIER
unfoldable pub hash_algorithm : Element (Unit {0})
hash_algorithm = element OBJECT_IDENTIFIER (head_rules OBJECT_IDENTIFIER) (primitive AlgorithmSpells algorithm_rules)

-- ---- RFC 9286 section 4.2.2: names and hashes

-- a listed file: its name and its hash
pub record ListedFile : Type 0 where
  pub name : List ℕ
  pub hash : List ℕ

-- a-z, A-Z, 0-9, - and _
abbrev pub is_name_byte : ℕ → Bool
is_name_byte byte = is_between 97 122 byte || is_between 65 90 byte || is_between 48 57 byte || byte == 45 || byte == 95

-- a-z
abbrev pub is_small_letter : ℕ → Bool
is_small_letter byte = is_between 97 122 byte

-- one or more of these, then one dot, then three small letters, in all at most 255 bytes
unfoldable pub is_name : List ℕ → Bool
is_name name =
    nat_le 5 (length name) && nat_le (length name) 255
    && list_all is_name_byte (take (length name - 4) name) && slice_index name (length name - 4) == 46
    && list_all is_small_letter (drop (length name - 3) name)

-- one of these files has the name
abbrev pub is_listed : List ℕ → List ListedFile → Bool
is_listed name files = list_any (λ file. bytes_eq file.name name) files

-- the name is one, and was not listed before
abbrev pub listed_rules : List ListedFile → List ℕ → List (ℕ × Bool)
listed_rules before content = (16, not (is_name content)) ∷ (18, is_listed content before) ∷ []

abbrev pub name_rules : List ListedFile → List ℕ → List (ℕ × Bool)
name_rules before content = (4, not (is_ia5 content)) ∷ listed_rules before content

abbrev pub NameSpells : List ℕ → List ℕ → Type 0
NameSpells name content = content ≡ name

-- file IA5String, behind the files before it
unfoldable pub file_name : List ListedFile → Element (List ℕ)
file_name before = element IA5_STRING (head_rules IA5_STRING) (primitive NameSpells (name_rules before))

-- a bit string of 256 bits has no unused one
abbrev pub HashSpells : List ℕ → List ℕ → Type 0
HashSpells hash content = content ≡ 0 ∷ hash

abbrev pub hash_length : List ℕ → List (ℕ × Bool)
hash_length content = (17, not (bit_count content == 256)) ∷ []

abbrev pub hash_rules : List ℕ → List (ℕ × Bool)
hash_rules content = (4, not (is_bit_string content)) ∷ hash_length content

-- hash BIT STRING, of SHA-256
unfoldable pub file_hash : Element (List ℕ)
file_hash = element BIT_STRING (head_rules BIT_STRING) (primitive HashSpells hash_rules)

-- a payload has at most 65,536 files
abbrev pub too_many_files : List ListedFile → List ℕ → List (ℕ × Bool)
too_many_files before content = (19, nat_le 65536 (length before)) ∷ []

-- the parts of a listed file
abbrev pub file_parts : ListedFile → List ℕ × List ℕ
file_parts file = (file.name, file.hash)

abbrev pub file_members : List ListedFile → Members ListedFile
file_members before = valued file_parts (member (file_name before) (λ name. last file_hash))

-- FileAndHash, behind the files before it
unfoldable pub file_and_hash : List ListedFile → Element ListedFile
file_and_hash before = element SEQUENCE (head_rules SEQUENCE) (constructed (too_many_files before) (file_members before) no_rules)

-- fileList SEQUENCE SIZE (0..MAX) OF FileAndHash
unfoldable pub file_list : Element (List ListedFile)
file_list = element SEQUENCE (head_rules SEQUENCE) (constructed no_rules (each file_and_hash) no_rules)

-- ---- RFC 9286 section 4.2: Manifest

-- the number, thisUpdate, nextUpdate, the list
pub record ManifestValue : Type 0 where
  pub number : List ℕ
  pub this_update : CivilMoment
  pub next_update : CivilMoment
  pub files : List ListedFile

-- its fields in their order
abbrev pub Fields : Type 0
Fields = List ℕ × (CivilMoment × (CivilMoment × (Unit {0} × List ListedFile)))

abbrev pub manifest_parts : ManifestValue → Fields
manifest_parts m = (m.number, (m.this_update, (m.next_update, (tt, m.files))))

abbrev pub behind_next : Members (Unit {0} × List ListedFile)
behind_next = member hash_algorithm (λ _. last file_list)

abbrev pub behind_this : CivilMoment → Members (CivilMoment × (Unit {0} × List ListedFile))
behind_this this = member (next_update this) (λ next. behind_next)

-- RFC 9286 section 4.2.1: version [0] is left out
abbrev pub manifest_members : Members ManifestValue
manifest_members = valued manifest_parts (member manifest_number (λ n. member this_update behind_this))

unfoldable pub manifest : Element ManifestValue
manifest = element SEQUENCE (head_rules SEQUENCE) (constructed no_rules manifest_members no_rules)

-- the bytes are one manifest and nothing else
unfoldable pub manifest_payload : Members ManifestValue
manifest_payload = last manifest

-- The bytes spell the manifest.
unfoldable pub ManifestSpells : ManifestValue → List ℕ → Type 0
ManifestSpells = manifest_payload.Spells

-- What is at the offset fails with this number, and all that is judged before it holds.
unfoldable pub ManifestFaultAt : List ℕ → ℕ → ℕ → Type 0
ManifestFaultAt bytes offset number = manifest_payload.FaultAt (place_of 0 bytes) (record { number = number; offset = offset })
