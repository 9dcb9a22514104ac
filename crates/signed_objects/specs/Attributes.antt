-- The signed attributes of a signed object (RFC 6488 section 2.1.6.4). RFC 9589 asks for signing-time of those who sign: it may be absent here.
use Rattle.std.specs.Prelude.{◌≡◌, ℕ, Bool, true, false, not, bytes_eq, List, [], ◌∷◌, Option, Some, None, if◌then◌else◌, is_none, is_some}
use Rattle.std.specs.Option.{option_or}
use Rattle.der_lite.specs.Der.{INTEGER, OBJECT_IDENTIFIER, OCTET_STRING, SEQUENCE, head_rules, is_integer}
use Rattle.der_lite.specs.Grammar.{Element, Members, Content, element, primitive, constructed, plain, last, member, each}
use Rattle.signed_objects.specs.declared.attribute.AttributeType.{AttributeType}
use Rattle.signed_objects.specs.declared.attribute.AttributeType.TheVariants.{ContentType, MessageDigest, SigningTime, BinarySigningTime}
use Rattle.der_forms.specs.Combinators.{no_rules, told_content, or_empty, holding_one, either, needed_octets}
use Rattle.signed_objects.specs.Oids.{object_identifier}

-- X.690 section 8.1.2: the tags of SET and UTCTime, and of a GeneralizedTime
abbrev pub SET : ℕ
SET = 49

abbrev pub UTC_TIME : ℕ
UTC_TIME = 23

abbrev pub GENERAL_TIME : ℕ
GENERAL_TIME = 24

-- pkcs-9, 1.2.840.113549.1.9, and below it
abbrev pub pkcs_9 : List ℕ → List ℕ
pkcs_9 below = 0x2a ∷ 0x86 ∷ 0x48 ∷ 0x86 ∷ 0xf7 ∷ 0x0d ∷ 0x01 ∷ 0x09 ∷ below

-- the types of attributes: RFC 5652 sections 11.1 to 11.3, and RFC 6019 section 4 for binary-signing-time
abbrev pub oid_of : AttributeType → List ℕ
oid_of ContentType = pkcs_9 (3 ∷ [])
oid_of MessageDigest = pkcs_9 (4 ∷ [])
oid_of SigningTime = pkcs_9 (5 ∷ [])
oid_of BinarySigningTime = pkcs_9 (16 ∷ 2 ∷ 46 ∷ [])

-- an attribute: its type, and the content of its one value
abbrev pub Attribute : Type 0
Attribute = AttributeType × List ℕ

-- the type is this one
abbrev pub is_type : AttributeType → AttributeType → Bool
is_type ContentType ContentType = true
is_type MessageDigest MessageDigest = true
is_type SigningTime SigningTime = true
is_type BinarySigningTime BinarySigningTime = true
is_type _ _ = false

-- the value of an attribute, if it is of this type
abbrev pub own_value : AttributeType → Attribute → Option (List ℕ)
own_value type (own, value) = if is_type type own then Some value else None

-- the value of the attribute of a type: the last, if there are more
abbrev pub value_of : AttributeType → List Attribute → Option (List ℕ)
value_of type [] = None
value_of type (first ∷ more) = option_or (value_of type more) (own_value type first)

-- the type whose object identifier this is
unfoldable pub type_in : List ℕ → Option AttributeType
type_in content =
    if bytes_eq content (oid_of ContentType) then Some ContentType
    else if bytes_eq content (oid_of MessageDigest) then Some MessageDigest
    else if bytes_eq content (oid_of SigningTime) then Some SigningTime
    else if bytes_eq content (oid_of BinarySigningTime) then Some BinarySigningTime
    else None

-- an attribute of the type came before
abbrev pub is_among : List Attribute → Option AttributeType → Bool
is_among before None = false
is_among before (Some type) = is_some (value_of type before)

-- the type is one of the four, and no attribute of it came before
abbrev pub type_rules : List Attribute → List ℕ → List (ℕ × Bool)
type_rules before content = (23, is_none (type_in content)) ∷ (24, is_among before (type_in content)) ∷ []

abbrev pub TypeSpells : AttributeType → List ℕ → Type 0
TypeSpells type content = content ≡ oid_of type

-- attrType, after the attributes before it
unfoldable pub attribute_type : List Attribute → Element AttributeType
attribute_type before = element OBJECT_IDENTIFIER (head_rules OBJECT_IDENTIFIER) (primitive TypeSpells (type_rules before))

-- Time: a UTCTime or a GeneralizedTime. It is not judged which moment it is.
unfoldable pub signing_time : Element (List ℕ)
signing_time = either UTC_TIME (plain UTC_TIME no_rules) (needed_octets 26 GENERAL_TIME)

-- an INTEGER, in the fewest bytes
abbrev pub integer_rules : List ℕ → List (ℕ × Bool)
integer_rules content = (4, not (is_integer content)) ∷ []

-- the value of an attribute
unfoldable pub attribute_value : AttributeType → Element (List ℕ)
attribute_value ContentType = object_identifier
attribute_value MessageDigest = plain OCTET_STRING no_rules
attribute_value SigningTime = signing_time
attribute_value BinarySigningTime = plain INTEGER integer_rules

-- attrValues SET OF AttributeValue: exactly one
unfoldable pub attribute_values : AttributeType → Element (List ℕ)
attribute_values type = element SET (head_rules SET) (holding_one 25 (attribute_value type))

abbrev pub attribute_members : List Attribute → Members Attribute
attribute_members before = member (attribute_type before) (λ type. last (attribute_values type))

-- Attribute, after those before it
unfoldable pub attribute : List Attribute → Element Attribute
attribute before = element SEQUENCE (head_rules SEQUENCE) (constructed no_rules (attribute_members before) no_rules)

-- content-type and message-digest are there
abbrev pub attribute_rules : List Attribute → List (ℕ × Bool)
attribute_rules attributes = (27, is_none (value_of ContentType attributes)) ∷ (28, is_none (value_of MessageDigest attributes)) ∷ []

-- what attributes say: the type of the content, and its digest
pub record Said : Type 0 where
  pub content_type : List ℕ
  pub message_digest : List ℕ

abbrev pub said_by : List Attribute → Said
said_by attributes = record { content_type = or_empty (value_of ContentType attributes); message_digest = or_empty (value_of MessageDigest attributes) }

-- SignedAttributes, in any order
abbrev pub attributes_content : Content Said
attributes_content = told_content said_by (constructed no_rules (each attribute) attribute_rules)
