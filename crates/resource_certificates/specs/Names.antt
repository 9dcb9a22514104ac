-- Names (RFC 6487 sections 4.4 and 4.5): one commonName and at most one serialNumber, in one RDN or in two.
use Rattle.std.specs.Str.{is_utf8}
use Rattle.std.specs.Prelude.{◌≡◌, ℕ, ◌+◌, Bool, true, false, not, ◌||◌, nat_lt, nat_le, ◌==◌, if◌then◌else◌, bytes_eq, List}
use Rattle.std.specs.Prelude.{[], ◌∷◌, length, Option, Some, None, is_none}
use Rattle.der_lite.specs.Der.{OBJECT_IDENTIFIER, SEQUENCE, head_rules, is_ia5}
use Rattle.der_lite.specs.Grammar.{Element, element, primitive, constructed, plain, last, member, optional}
use Rattle.der_forms.specs.Combinators.{no_rules, either, told_content}

abbrev pub SET : ℕ
SET = 49

abbrev pub UTF8_STRING : ℕ
UTF8_STRING = 12

abbrev pub PRINTABLE_STRING : ℕ
PRINTABLE_STRING = 19

-- id-at-commonName and id-at-serialNumber (RFC 5280 appendix A.1)
abbrev pub common_name : List ℕ
common_name = 0x55 ∷ 0x04 ∷ 0x03 ∷ []

abbrev pub serial_number : List ℕ
serial_number = 0x55 ∷ 0x04 ∷ 0x05 ∷ []

-- An attribute: whether it is a commonName (otherwise it is a serialNumber), and its characters.
abbrev pub NamePart : Type 0
NamePart = Bool × List ℕ

abbrev pub is_common : List ℕ → Bool
is_common id = bytes_eq id common_name

abbrev pub PartIdSpells : Bool → List ℕ → Type 0
PartIdSpells common id = common ≡ is_common id

abbrev pub part_id_rules : List ℕ → List (ℕ × Bool)
part_id_rules id = (9, not (is_common id || bytes_eq id serial_number)) ∷ []

unfoldable pub part_id : Element Bool
part_id = element OBJECT_IDENTIFIER (head_rules OBJECT_IDENTIFIER) (primitive PartIdSpells part_id_rules)

-- RFC 5280 appendix A.1: names have 1 to 64 characters.
abbrev pub is_bad_count : ℕ → Bool
is_bad_count count = count == 0 || nat_lt 64 count

-- PrintableString: each character is one octet of ASCII
abbrev pub printable_rules : List ℕ → List (ℕ × Bool)
printable_rules content = (10, is_bad_count (length content) || not (is_ia5 content)) ∷ []

-- RFC 3629 section 3: octets from 0x80 to 0xbf continue a character, and any other begins one.
abbrev pub begins_character : ℕ → Bool
begins_character octet = nat_lt octet 128 || nat_le 192 octet

-- how many characters the octets of a UTF8String are
abbrev pub character_count : List ℕ → ℕ
character_count [] = 0
character_count (octet ∷ octets) = (if begins_character octet then 1 else 0) + character_count octets

-- UTF8String: valid UTF-8 (RFC 3629)
abbrev pub utf8_rules : List ℕ → List (ℕ × Bool)
utf8_rules content = (10, is_bad_count (character_count content) || not (is_utf8 content)) ∷ []

-- The characters of an attribute, as octets of UTF-8, of which ASCII is a part.
unfoldable pub characters : Element (List ℕ)
characters = either PRINTABLE_STRING (plain PRINTABLE_STRING printable_rules) (plain UTF8_STRING utf8_rules)

unfoldable pub name_part : Element NamePart
name_part = element SEQUENCE (head_rules SEQUENCE) (constructed no_rules (member part_id (λ _. last characters)) no_rules)

-- RelativeDistinguishedName: one attribute or two
abbrev pub Rdn : Type 0
Rdn = NamePart × Option NamePart

unfoldable pub rdn : Element Rdn
rdn = element SET (head_rules SET) (constructed no_rules (member name_part (λ _. optional name_part)) no_rules)

pub record Name : Type 0 where
  pub common : List ℕ
  pub serial : Option (List ℕ)

-- one attribute: a commonName
abbrev pub one_part : NamePart → Option Name
one_part (common, characters) = if common then Some (record { common = characters; serial = None }) else None

-- two attributes: a commonName and a serialNumber, in either order
abbrev pub two_parts : NamePart → NamePart → Option Name
two_parts (true, common) (false, serial) = Some (record { common = common; serial = Some serial })
two_parts (false, serial) (true, common) = Some (record { common = common; serial = Some serial })
two_parts _ _ = None

-- in one RDN or in two
abbrev pub name_in : Rdn × Option Rdn → Option Name
name_in ((a, None), None) = one_part a
name_in ((a, Some b), None) = two_parts a b
name_in ((a, None), Some (b, None)) = two_parts a b
name_in _ = None

abbrev pub no_name : Name
no_name = record { common = []; serial = None }

abbrev pub name_or : Option Name → Name
name_or (Some name) = name
name_or None = no_name

abbrev pub name_of : Rdn × Option Rdn → Name
name_of v = name_or (name_in v)

abbrev pub name_rules : Rdn × Option Rdn → List (ℕ × Bool)
name_rules v = (9, is_none (name_in v)) ∷ []

-- Name
unfoldable pub name : Element Name
name = element SEQUENCE (head_rules SEQUENCE) (told_content name_of (constructed no_rules (member rdn (λ _. optional rdn)) name_rules))
