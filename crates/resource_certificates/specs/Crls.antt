-- Certificate revocation lists (RFC 5280 section 5.1, RFC 6487 section 5).
use Rattle.std.specs.Prelude.{◌≡◌, ℕ, ◌||◌, not, Bool, true, false, bytes_eq, List, [], ◌∷◌, Option, Some, None, is_none, Result, Ok, Err}
use Rattle.std.specs.Result.{is_ok}
use Rattle.der_lite.specs.Place.{Fault, place_of, first_of}
use Rattle.der_lite.specs.Der.{INTEGER, OBJECT_IDENTIFIER, SEQUENCE, EXPLICIT_0, head_rules}
use Rattle.der_lite.specs.DerReading.{content_at}
use Rattle.der_lite.specs.Fields.{last_at}
use Rattle.der_lite.specs.Grammar.{Element, Members, KeepsRules, element, primitive, constructed, plain, last, member, optional, each}
use Rattle.der_lite.specs.Moments.{CivilMoment}
use Rattle.der_forms.specs.Combinators.{no_rules, needed, element_behind, not_empty, told, told_content, standing, fixed, maybe, first_part}
use Rattle.resource_certificates.specs.declared.fault.CertificateFault.{CertificateFault}
use Rattle.resource_certificates.specs.declared.fault.CertificateFaultKind.{CertificateFaultKind}
use Rattle.resource_certificates.specs.declared.fault.CrlFault.{CrlFault}
use Rattle.resource_certificates.specs.declared.fault.CrlFault.TheVariants.{At, Memory}
use Rattle.resource_certificates.specs.Faults.{fault_of, kind_number}
use Rattle.resource_certificates.specs.Times.{time}
use Rattle.resource_certificates.specs.Names.{Name, name}
use Rattle.resource_certificates.specs.Keys.{signature_algorithm, signature_value}
use Rattle.resource_certificates.specs.Extensions.{id_ce, value_alone}
use Rattle.resource_certificates.specs.Certificates.{serial, short_rules}
use Rattle.resource_certificates.specs.Profile.{is_key_value}

-- version 2, which is INTEGER 1 (RFC 6487 section 5)
unfoldable pub crl_version : Element (Unit {0})
crl_version = fixed 30 INTEGER (1 ∷ [])

-- an entry: the serial, and a date that is not used; no entry extensions
unfoldable pub revoked : Element (List ℕ)
revoked = element SEQUENCE (head_rules SEQUENCE) (constructed no_rules (told {A = List ℕ × CivilMoment} first_part (member serial (λ _. last time))) no_rules)

-- revokedCertificates: of any length, doubles too
unfoldable pub revoked_list : Element (List (List ℕ))
revoked_list = element SEQUENCE (head_rules SEQUENCE) (constructed no_rules (each (λ _. revoked)) no_rules)

-- ---- extensions

-- An extension: whether it is cRLNumber (otherwise it is authorityKeyIdentifier), and the octets of its value.
abbrev pub CrlExtension : Type 0
CrlExtension = Bool × List ℕ

-- RFC 5280 sections 5.2.3 and 5.2.1
abbrev pub is_number_id : List ℕ → Bool
is_number_id id = bytes_eq id (id_ce 20)

abbrev pub CrlIdSpells : Bool → List ℕ → Type 0
CrlIdSpells number id = number ≡ is_number_id id

abbrev pub crl_id_rules : List ℕ → List (ℕ × Bool)
crl_id_rules id = (32, not (is_number_id id || bytes_eq id (id_ce 35))) ∷ []

unfoldable pub crl_id : Element Bool
crl_id = element OBJECT_IDENTIFIER (head_rules OBJECT_IDENTIFIER) (primitive CrlIdSpells crl_id_rules)

-- none is critical
unfoldable pub crl_extension : Element CrlExtension
crl_extension = element SEQUENCE (head_rules SEQUENCE) (constructed no_rules (member crl_id (λ _. last value_alone)) no_rules)

-- the octets of the values of authorityKeyIdentifier and cRLNumber
pub record CrlFound : Type 0 where
  pub authority_key : List ℕ
  pub number : List ℕ

-- both, in either order
abbrev pub crl_pair : CrlExtension × Option CrlExtension → Option CrlFound
crl_pair ((true, number), Some (false, key)) = Some (record { authority_key = key; number = number })
crl_pair ((false, key), Some (true, number)) = Some (record { authority_key = key; number = number })
crl_pair _ = None

abbrev pub no_crl_found : CrlFound
no_crl_found = record { authority_key = []; number = [] }

abbrev pub found_or : Option CrlFound → CrlFound
found_or (Some found) = found
found_or None = no_crl_found

abbrev pub crl_found_of : CrlExtension × Option CrlExtension → CrlFound
crl_found_of v = found_or (crl_pair v)

abbrev pub crl_pair_rules : CrlExtension × Option CrlExtension → List (ℕ × Bool)
crl_pair_rules v = (32, is_none (crl_pair v)) ∷ []

-- these two, each once, and no other
unfoldable pub crl_extension_list : Element CrlFound
crl_extension_list = element SEQUENCE (head_rules SEQUENCE) (told_content crl_found_of (constructed (not_empty 32) (member crl_extension (λ _. optional crl_extension)) crl_pair_rules))

-- crlExtensions [0] EXPLICIT
unfoldable pub crl_extensions : Element CrlFound
crl_extensions = element_behind (needed 31 EXPLICIT_0) EXPLICIT_0 (constructed no_rules (last crl_extension_list) no_rules)

-- ---- the list

-- no list is an empty one
abbrev pub or_none : Option (List (List ℕ)) → List (List ℕ)
or_none (Some serials) = serials
or_none None = []

-- the serials in the file's order, and the extensions
abbrev pub CrlRest : Type 0
CrlRest = List (List ℕ) × CrlFound

abbrev pub crl_rest_of : Option (List (List ℕ)) × CrlFound → CrlRest
crl_rest_of v = (or_none v.0, v.1)

-- revokedCertificates may be left out.
abbrev pub crl_rest : Members CrlRest
crl_rest = told crl_rest_of (maybe SEQUENCE revoked_list (λ _. last crl_extensions))

-- thisUpdate and nextUpdate, and what follows them
abbrev pub CrlUpdates : Type 0
CrlUpdates = CivilMoment × (CivilMoment × CrlRest)

abbrev pub crl_updates : Members CrlUpdates
crl_updates = member time (λ _. member time (λ _. crl_rest))

pub record TbsCrl : Type 0 where
  pub algorithm : List ℕ
  pub issuer : Name
  pub this_update : CivilMoment
  pub next_update : CivilMoment
  pub revoked : List (List ℕ)
  pub found : CrlFound

abbrev pub TbsCrlParts : Type 0
TbsCrlParts = Unit {0} × (List ℕ × (Name × CrlUpdates))

abbrev pub tbs_crl_of : TbsCrlParts → TbsCrl
tbs_crl_of v = record {
  algorithm = v.1.0;
  issuer = v.1.1.0;
  this_update = v.1.1.1.0;
  next_update = v.1.1.1.1.0;
  revoked = v.1.1.1.1.1.0;
  found = v.1.1.1.1.1.1;
}

abbrev pub tbs_crl_members : Members TbsCrl
tbs_crl_members = told tbs_crl_of (member crl_version (λ _. member signature_algorithm (λ _. member name (λ _. crl_updates))))

unfoldable pub tbs_crl : Element TbsCrl
tbs_crl = element SEQUENCE (head_rules SEQUENCE) (constructed no_rules tbs_crl_members no_rules)

-- a CRL: the octets that are signed, what they say, and the signature
pub record Crl : Type 0 where
  pub signed : List ℕ
  pub tbs : TbsCrl
  pub signature : List ℕ

abbrev pub CrlParts : Type 0
CrlParts = (List ℕ × TbsCrl) × (Unit {0} × List ℕ)

abbrev pub crl_of : CrlParts → Crl
crl_of v = record { signed = v.0.0; tbs = v.0.1; signature = v.1.1 }

abbrev pub crl_members : Members Crl
crl_members = told crl_of (member (standing tbs_crl) (λ t. member (fixed 8 SEQUENCE t.1.algorithm) (λ _. last signature_value)))

unfoldable pub crl : Element Crl
crl = element SEQUENCE (head_rules SEQUENCE) (constructed no_rules crl_members no_rules)

-- a CRL, and nothing after it
abbrev pub crl_file : Members Crl
crl_file = last crl

-- ---- what the extensions say

-- RFC 5280 section 5.2.3: an INTEGER from 0 to 2^159 - 1
unfoldable pub crl_number : Element (List ℕ)
crl_number = plain INTEGER (short_rules 33)

unfoldable pub crl_number_all : List ℕ → Result (List ℕ) Fault
crl_number_all value = last_at (content_at INTEGER (short_rules 33)) (place_of 0 value)

-- RFC 6487 section 5: authorityKeyIdentifier is a keyIdentifier alone, as in a certificate
abbrev pub crl_rules : TbsCrl → List (ℕ × Bool)
crl_rules tbs = (22, not (is_key_value tbs.found.authority_key)) ∷ (33, not (is_ok (crl_number_all tbs.found.number))) ∷ []

-- The bytes are this CRL.
pub record IsCrl (bytes : List ℕ) (c : Crl) : Type 0 where
  pub spelled : crl_file.Spells c bytes
  pub profile : KeepsRules (crl_rules c.tbs)

-- An element is faulty; or all are spelled, and this is the first rule over the extensions that is broken, at 0.
pub data CrlFaultOf (bytes : List ℕ) (fault : CertificateFault) : Type 0 where
  crl_element : crl_file.FaultAt (place_of 0 bytes) (fault_of fault) → CrlFaultOf bytes fault
  crl_profile : (c : Crl) → crl_file.Spells c bytes → first_of (crl_rules c.tbs) ≡ Some (kind_number fault.kind) → fault.offset ≡ 0 → CrlFaultOf bytes fault

-- The extensions say what they have to, or this is the first rule that is broken.
abbrev pub CrlProfiled : Option CertificateFaultKind → TbsCrl → Type 0
CrlProfiled None tbs = first_of (crl_rules tbs) ≡ None
CrlProfiled (Some kind) tbs = first_of (crl_rules tbs) ≡ Some (kind_number kind)

-- The bytes are this CRL; or this is their first fault; or memory ran out.
abbrev pub ReadsCrl : {X : Type 0} → (X → Crl) → Result X CrlFault → List ℕ → Type 0
ReadsCrl view (Ok x) bytes = IsCrl bytes (view x)
ReadsCrl view (Err (At e)) bytes = CrlFaultOf bytes e
ReadsCrl view (Err Memory) bytes = Unit {0}
