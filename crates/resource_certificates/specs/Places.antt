-- URIs in extensions (RFC 6487 sections 4.8.6 to 4.8.8, RFC 5280 sections 4.2.1.13, 4.2.2.1 and 4.2.2.2).
use Rattle.std.specs.Prelude.{ℕ, ◌&&◌, ◌||◌, ◌==◌, not, Bool, false, bytes_eq, if◌then◌else◌, List, [], ◌∷◌, take, Option, Some, None, Result, Ok, Err}
use Rattle.std.specs.Option.{option_or}
use Rattle.der_lite.specs.Place.{Fault, place_of}
use Rattle.der_lite.specs.Der.{OBJECT_IDENTIFIER, SEQUENCE, EXPLICIT_0, Tlv, tag_of, head_rules, is_ia5}
use Rattle.der_lite.specs.Grammar.{Element, element, constructed, plain, last, member, each}
use Rattle.der_lite.specs.DerReading.{◌>>=◌, content_at, element_at, oid_at}
use Rattle.der_lite.specs.Decoding.{Read, read_constructed, read_member, read_each}
use Rattle.der_lite.specs.Fields.{last_at}
use Rattle.der_forms.specs.Combinators.{no_rules, told_content}
use Rattle.der_forms.specs.CombinatorReading.{opened_at, told_content_at}

-- GeneralName: its tag, and the octets of its content
abbrev pub GeneralName : Type 0
GeneralName = ℕ × List ℕ

-- an element of whatever tag
abbrev pub any_element : Element GeneralName
any_element = record {
  Spells = λ v bytes. Tlv v.0 v.1 bytes;
  FaultAt = λ p fault. (plain (tag_of p.rest) no_rules).FaultAt p fault;
}

-- rsync:// (RFC 5781) and https:// (RFC 8182)
abbrev pub rsync : List ℕ
rsync = 0x72 ∷ 0x73 ∷ 0x79 ∷ 0x6e ∷ 0x63 ∷ 0x3a ∷ 0x2f ∷ 0x2f ∷ []

abbrev pub https : List ℕ
https = 0x68 ∷ 0x74 ∷ 0x74 ∷ 0x70 ∷ 0x73 ∷ 0x3a ∷ 0x2f ∷ 0x2f ∷ []

-- uniformResourceIdentifier [6] IA5String, that begins so
unfoldable pub is_uri : List ℕ → GeneralName → Bool
is_uri scheme name = name.0 == 0x86 && is_ia5 name.1 && bytes_eq (take 8 name.1) scheme

abbrev pub rsync_uri : GeneralName → Option (List ℕ)
rsync_uri name = if is_uri rsync name then Some name.1 else None

-- the first rsync URI among names
abbrev pub first_uri : List GeneralName → Option (List ℕ)
first_uri [] = None
first_uri (name ∷ names) = option_or (rsync_uri name) (first_uri names)

-- ---- cRLDistributionPoints

-- fullName [0]
unfoldable pub full_name : Element (Option (List ℕ))
full_name = element EXPLICIT_0 (head_rules EXPLICIT_0) (told_content first_uri (constructed no_rules (each (λ _. any_element)) no_rules))

-- distributionPoint [0]
unfoldable pub distribution_name : Element (Option (List ℕ))
distribution_name = element EXPLICIT_0 (head_rules EXPLICIT_0) (constructed no_rules (last full_name) no_rules)

-- DistributionPoint: no reasons, and no cRLIssuer
unfoldable pub distribution_point : Element (Option (List ℕ))
distribution_point = element SEQUENCE (head_rules SEQUENCE) (constructed no_rules (last distribution_name) no_rules)

-- one DistributionPoint (RFC 6487 section 4.8.6)
unfoldable pub distribution_points : Element (Option (List ℕ))
distribution_points = element SEQUENCE (head_rules SEQUENCE) (constructed no_rules (last distribution_point) no_rules)

-- ---- authorityInfoAccess and subjectInfoAccess

-- AccessDescription: the method and the location
abbrev pub Access : Type 0
Access = List ℕ × GeneralName

unfoldable pub access : Element Access
access = element SEQUENCE (head_rules SEQUENCE) (constructed no_rules (member (plain OBJECT_IDENTIFIER no_rules) (λ _. last any_element)) no_rules)

-- id-ad (RFC 5280 section 4.2.2): caIssuers is its 2, caRepository 5, rpkiManifest 10, signedObject 11 and rpkiNotify 13
abbrev pub id_ad : ℕ → List ℕ
id_ad arc = 0x2b ∷ 6 ∷ 1 ∷ 5 ∷ 5 ∷ 7 ∷ 48 ∷ arc ∷ []

abbrev pub is_method : ℕ → Access → Bool
is_method arc a = bytes_eq a.0 (id_ad arc)

abbrev pub own_place : ℕ → Access → Option (List ℕ)
own_place arc a = if is_method arc a then rsync_uri a.1 else None

-- the first rsync URI of a method
abbrev pub place_by : ℕ → List Access → Option (List ℕ)
place_by arc [] = None
place_by arc (a ∷ more) = option_or (own_place arc a) (place_by arc more)

-- one of the methods is neither signedObject nor rpkiNotify
abbrev pub has_other : List Access → Bool
has_other [] = false
has_other (a ∷ more) = not (is_method 11 a || is_method 13 a) || has_other more

abbrev pub has_notify : List Access → Bool
has_notify [] = false
has_notify (a ∷ more) = is_method 13 a || has_notify more

-- RFC 8182 section 3.2: rpkiNotify comes twice, or is no https URI
abbrev pub has_bad_notify : List Access → Bool
has_bad_notify [] = false
has_bad_notify (a ∷ more) = (is_method 13 a && (not (is_uri https a.1) || has_notify more)) || has_bad_notify more

-- what descriptions say
pub record Accesses : Type 0 where
  pub issuer : Option (List ℕ)
  pub repository : Option (List ℕ)
  pub manifest : Option (List ℕ)
  pub object : Option (List ℕ)
  pub other : Bool
  pub notify : Bool
  pub bad_notify : Bool

abbrev pub accesses_in : List Access → Accesses
accesses_in accesses = record {
  issuer = place_by 2 accesses;
  repository = place_by 5 accesses;
  manifest = place_by 10 accesses;
  object = place_by 11 accesses;
  other = has_other accesses;
  notify = has_notify accesses;
  bad_notify = has_bad_notify accesses;
}

unfoldable pub access_list : Element Accesses
access_list = element SEQUENCE (head_rules SEQUENCE) (told_content accesses_in (constructed no_rules (each (λ _. access)) no_rules))

-- ---- reading

unfoldable pub any_at : Read GeneralName
any_at p = content_at (tag_of p.rest) no_rules p >>= λ x. Ok ((tag_of p.rest, x.0), x.1)

unfoldable pub full_name_at : Read (Option (List ℕ))
full_name_at p = opened_at (element_at EXPLICIT_0 p) p.at (told_content_at first_uri (read_constructed no_rules (read_each (λ _. any_at)) no_rules))

unfoldable pub distribution_name_at : Read (Option (List ℕ))
distribution_name_at p = opened_at (element_at EXPLICIT_0 p) p.at (read_constructed no_rules (last_at full_name_at) no_rules)

unfoldable pub distribution_point_at : Read (Option (List ℕ))
distribution_point_at p = opened_at (element_at SEQUENCE p) p.at (read_constructed no_rules (last_at distribution_name_at) no_rules)

unfoldable pub distribution_points_at : Read (Option (List ℕ))
distribution_points_at p = opened_at (element_at SEQUENCE p) p.at (read_constructed no_rules (last_at distribution_point_at) no_rules)

unfoldable pub points_all : List ℕ → Result (Option (List ℕ)) Fault
points_all value = last_at distribution_points_at (place_of 0 value)

unfoldable pub access_at : Read Access
access_at p = opened_at (element_at SEQUENCE p) p.at (read_constructed no_rules (read_member oid_at (λ _. last_at any_at)) no_rules)

unfoldable pub access_list_at : Read Accesses
access_list_at p = opened_at (element_at SEQUENCE p) p.at (told_content_at accesses_in (read_constructed no_rules (read_each (λ _. access_at)) no_rules))

unfoldable pub accesses_all : List ℕ → Result Accesses Fault
accesses_all value = last_at access_list_at (place_of 0 value)

-- ---- what a certificate says

-- the value that was read, if it was
abbrev pub uri_or : Result (Option (List ℕ)) Fault → Option (List ℕ)
uri_or (Ok uri) = uri
uri_or (Err fault) = None

-- the first rsync URI of the one DistributionPoint
abbrev pub crl_uri_of : Option (List ℕ) → Option (List ℕ)
crl_uri_of None = None
crl_uri_of (Some value) = uri_or (points_all value)

abbrev pub accesses_or : Result Accesses Fault → Accesses
accesses_or (Ok accesses) = accesses
accesses_or (Err fault) = accesses_in []

-- what the descriptions say: nothing, if there are none
abbrev pub accesses_of : Option (List ℕ) → Accesses
accesses_of None = accesses_in []
accesses_of (Some value) = accesses_or (accesses_all value)
