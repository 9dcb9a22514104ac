-- Extensions of a resource certificate (RFC 6487 section 4.8): each at most once, in any order. An unknown one may come if it is not critical.
use Rattle.std.specs.Prelude.{◌≡◌, ℕ, Bool, true, false, bytes_eq, if◌then◌else◌, List, [], ◌∷◌, Option, Some, None, is_some}
use Rattle.std.specs.Option.{option_or}
use Rattle.der_lite.specs.Der.{OBJECT_IDENTIFIER, OCTET_STRING, SEQUENCE, head_rules}
use Rattle.der_lite.specs.Grammar.{Element, Members, element, primitive, constructed, plain, last, member, each}
use Rattle.der_forms.specs.Combinators.{no_rules, needed, barred, element_behind, told, told_content, FixedSpells, fixed_rules}
use Rattle.resource_certificates.specs.declared.extension.ExtensionKind.{ExtensionKind}
use Rattle.resource_certificates.specs.declared.extension.ExtensionKind.TheVariants.{SubjectKey, AuthorityKey, KeyUsage, BasicConstraints, DistributionPoints}
use Rattle.resource_certificates.specs.declared.extension.ExtensionKind.TheVariants.{AuthorityInfo, SubjectInfo, Policies, IpBlocks, AsIds}
use Rattle.resource_certificates.specs.Keys.{second_part}

abbrev pub BOOLEAN : ℕ
BOOLEAN = 1

abbrev pub EXPLICIT_3 : ℕ
EXPLICIT_3 = 163

-- id-ce (2.5.29) and id-pe (1.3.6.1.5.5.7.1)
abbrev pub id_ce : ℕ → List ℕ
id_ce arc = 0x55 ∷ 0x1d ∷ arc ∷ []

abbrev pub id_pe : ℕ → List ℕ
id_pe arc = 0x2b ∷ 6 ∷ 1 ∷ 5 ∷ 5 ∷ 7 ∷ 1 ∷ arc ∷ []

-- RFC 6487 sections 4.8.1 to 4.8.11
abbrev pub oid_of : ExtensionKind → List ℕ
oid_of SubjectKey = id_ce 14
oid_of AuthorityKey = id_ce 35
oid_of KeyUsage = id_ce 15
oid_of BasicConstraints = id_ce 19
oid_of DistributionPoints = id_ce 31
oid_of AuthorityInfo = id_pe 1
oid_of SubjectInfo = id_pe 11
oid_of Policies = id_ce 32
oid_of IpBlocks = id_pe 7
oid_of AsIds = id_pe 8

-- which are critical, in the same sections
abbrev pub is_critical : ExtensionKind → Bool
is_critical SubjectKey = false
is_critical AuthorityKey = false
is_critical KeyUsage = true
is_critical BasicConstraints = true
is_critical DistributionPoints = false
is_critical AuthorityInfo = false
is_critical SubjectInfo = false
is_critical Policies = true
is_critical IpBlocks = true
is_critical AsIds = true

-- extKeyUsage, which is in no certificate of an authority or of a signed object (RFC 6487 section 4.8.5)
abbrev pub is_extended_usage : List ℕ → Bool
is_extended_usage id = bytes_eq id (id_ce 37)

unfoldable pub kind_in : List ℕ → Option ExtensionKind
kind_in id =
    if bytes_eq id (oid_of SubjectKey) then Some SubjectKey
    else if bytes_eq id (oid_of AuthorityKey) then Some AuthorityKey
    else if bytes_eq id (oid_of KeyUsage) then Some KeyUsage
    else if bytes_eq id (oid_of BasicConstraints) then Some BasicConstraints
    else if bytes_eq id (oid_of DistributionPoints) then Some DistributionPoints
    else if bytes_eq id (oid_of AuthorityInfo) then Some AuthorityInfo
    else if bytes_eq id (oid_of SubjectInfo) then Some SubjectInfo
    else if bytes_eq id (oid_of Policies) then Some Policies
    else if bytes_eq id (oid_of IpBlocks) then Some IpBlocks
    else if bytes_eq id (oid_of AsIds) then Some AsIds
    else None

-- an extension: which it is, if it is known, and the octets of its value
abbrev pub Extension : Type 0
Extension = Option ExtensionKind × List ℕ

-- the kinds are one
abbrev pub is_kind : ExtensionKind → ExtensionKind → Bool
is_kind SubjectKey SubjectKey = true
is_kind AuthorityKey AuthorityKey = true
is_kind KeyUsage KeyUsage = true
is_kind BasicConstraints BasicConstraints = true
is_kind DistributionPoints DistributionPoints = true
is_kind AuthorityInfo AuthorityInfo = true
is_kind SubjectInfo SubjectInfo = true
is_kind Policies Policies = true
is_kind IpBlocks IpBlocks = true
is_kind AsIds AsIds = true
is_kind _ _ = false

abbrev pub own_value : ExtensionKind → Extension → Option (List ℕ)
own_value kind (None, value) = None
own_value kind (Some own, value) = if is_kind kind own then Some value else None

-- the value of the extension of a kind: the last, if there are more
abbrev pub value_of : ExtensionKind → List Extension → Option (List ℕ)
value_of kind [] = None
value_of kind (first ∷ more) = option_or (value_of kind more) (own_value kind first)

-- one of the kind came before
abbrev pub is_among : List Extension → Option ExtensionKind → Bool
is_among before None = false
is_among before (Some kind) = is_some (value_of kind before)

abbrev pub KindSpells : Option ExtensionKind → List ℕ → Type 0
KindSpells kind id = kind_in id ≡ kind

abbrev pub id_rules : List Extension → List ℕ → List (ℕ × Bool)
id_rules before id = (16, is_extended_usage id) ∷ (17, is_among before (kind_in id)) ∷ []

-- extnID, after the extensions before it
unfoldable pub extension_id : List Extension → Element (Option ExtensionKind)
extension_id before = element OBJECT_IDENTIFIER (head_rules OBJECT_IDENTIFIER) (primitive KindSpells (id_rules before))

-- critical BOOLEAN TRUE
unfoldable pub critical : Element (Unit {0})
critical = element_behind (needed 18 BOOLEAN) BOOLEAN (primitive (FixedSpells (255 ∷ [])) (fixed_rules 18 (255 ∷ [])))

-- extnValue, and no BOOLEAN in front of it: FALSE is left out (X.690 section 11.5)
unfoldable pub value_alone : Element (List ℕ)
value_alone = element_behind (barred 18 BOOLEAN) OCTET_STRING (primitive (λ v inner. inner ≡ v) no_rules)

abbrev pub value_members : Bool → Members (List ℕ)
value_members true = told second_part (member critical (λ _. last (plain OCTET_STRING no_rules)))
value_members false = last value_alone

-- what has to be critical; an unknown extension may not be
abbrev pub must_be_critical : Option ExtensionKind → Bool
must_be_critical None = false
must_be_critical (Some kind) = is_critical kind

-- Extension, after those before it
unfoldable pub extension : List Extension → Element Extension
extension before = element SEQUENCE (head_rules SEQUENCE) (constructed no_rules (member (extension_id before) (λ kind. value_members (must_be_critical kind))) no_rules)

-- the octets of each extension's value
pub record Found : Type 0 where
  pub subject_key : Option (List ℕ)
  pub authority_key : Option (List ℕ)
  pub key_usage : Option (List ℕ)
  pub basic_constraints : Option (List ℕ)
  pub distribution_points : Option (List ℕ)
  pub authority_info : Option (List ℕ)
  pub subject_info : Option (List ℕ)
  pub policies : Option (List ℕ)
  pub ip_blocks : Option (List ℕ)
  pub as_ids : Option (List ℕ)

abbrev pub found_in : List Extension → Found
found_in extensions = record {
  subject_key = value_of SubjectKey extensions;
  authority_key = value_of AuthorityKey extensions;
  key_usage = value_of KeyUsage extensions;
  basic_constraints = value_of BasicConstraints extensions;
  distribution_points = value_of DistributionPoints extensions;
  authority_info = value_of AuthorityInfo extensions;
  subject_info = value_of SubjectInfo extensions;
  policies = value_of Policies extensions;
  ip_blocks = value_of IpBlocks extensions;
  as_ids = value_of AsIds extensions;
}

unfoldable pub extension_list : Element Found
extension_list = element SEQUENCE (head_rules SEQUENCE) (told_content found_in (constructed no_rules (each extension) no_rules))

-- extensions [3] EXPLICIT: unique identifiers have other tags (RFC 6487 section 4)
unfoldable pub extensions : Element Found
extensions = element_behind (needed 15 EXPLICIT_3) EXPLICIT_3 (constructed no_rules (last extension_list) no_rules)
