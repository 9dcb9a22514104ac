-- Certificate (RFC 5280 section 4.1, RFC 6487 section 4): its elements, without what each extension says.
use Rattle.std.specs.Prelude.{ℕ, Bool, not, ◌||◌, nat_lt, List, [], ◌∷◌, length}
use Rattle.der_lite.specs.Der.{INTEGER, SEQUENCE, EXPLICIT_0, head_rules, is_integer}
use Rattle.der_lite.specs.Grammar.{Element, Members, element, primitive, constructed, plain, last, member}
use Rattle.der_lite.specs.Moments.{CivilMoment, moment_before}
use Rattle.der_lite.specs.Values.{is_negative}
use Rattle.der_forms.specs.Combinators.{no_rules, needed, element_behind, told, standing, fixed, FixedSpells, fixed_rules}
use Rattle.resource_certificates.specs.Times.{time}
use Rattle.resource_certificates.specs.Names.{Name, name}
use Rattle.resource_certificates.specs.Keys.{Key, key_info, signature_algorithm, signature_value}
use Rattle.resource_certificates.specs.Extensions.{Found, extensions}

-- version 3, which is INTEGER 2 (RFC 6487 section 4.1)
abbrev pub version_3 : List ℕ
version_3 = 2 ∷ 1 ∷ 2 ∷ []

unfoldable pub version : Element (Unit {0})
version = element_behind (needed 6 EXPLICIT_0) EXPLICIT_0 (primitive (FixedSpells version_3) (fixed_rules 6 version_3))

-- An integer from 0 to 2^159 - 1: it is not negative, and not longer than 20 octets (RFC 5280 section 4.1.2.2). Any other is this fault.
abbrev pub short_rules : ℕ → List ℕ → List (ℕ × Bool)
short_rules fault content = (4, not (is_integer content)) ∷ (fault, is_negative content || nat_lt 20 (length content)) ∷ []

-- RFC 6487 section 4.2
abbrev pub serial_rules : List ℕ → List (ℕ × Bool)
serial_rules = short_rules 7

unfoldable pub serial : Element (List ℕ)
serial = plain INTEGER serial_rules

abbrev pub Validity : Type 0
Validity = CivilMoment × CivilMoment

-- notBefore is not after notAfter (RFC 6487 section 4.6)
abbrev pub validity_rules : Validity → List (ℕ × Bool)
validity_rules v = (12, moment_before v.1 v.0) ∷ []

unfoldable pub validity : Element Validity
validity = element SEQUENCE (head_rules SEQUENCE) (constructed no_rules (member time (λ _. last time)) validity_rules)

pub record Tbs : Type 0 where
  pub serial : List ℕ
  pub algorithm : List ℕ
  pub issuer : Name
  pub validity : Validity
  pub subject : Name
  pub key : Key
  pub found : Found

-- subject, subjectPublicKeyInfo, extensions
abbrev pub Holder : Type 0
Holder = Name × (Key × Found)

abbrev pub holder_members : Members Holder
holder_members = member name (λ _. member key_info (λ _. last extensions))

-- issuer, validity, and these
abbrev pub Issue : Type 0
Issue = Name × (Validity × Holder)

abbrev pub issue_members : Members Issue
issue_members = member name (λ _. member validity (λ _. holder_members))

abbrev pub TbsParts : Type 0
TbsParts = Unit {0} × (List ℕ × (List ℕ × Issue))

abbrev pub tbs_of : TbsParts → Tbs
tbs_of v = record {
  serial = v.1.0;
  algorithm = v.1.1.0;
  issuer = v.1.1.1.0;
  validity = v.1.1.1.1.0;
  subject = v.1.1.1.1.1.0;
  key = v.1.1.1.1.1.1.0;
  found = v.1.1.1.1.1.1.1;
}

abbrev pub tbs_members : Members Tbs
tbs_members = told tbs_of (member version (λ _. member serial (λ _. member signature_algorithm (λ _. issue_members))))

unfoldable pub tbs_certificate : Element Tbs
tbs_certificate = element SEQUENCE (head_rules SEQUENCE) (constructed no_rules tbs_members no_rules)

-- a certificate: the octets that are signed, what they say, and the signature
pub record Certificate : Type 0 where
  pub signed : List ℕ
  pub tbs : Tbs
  pub signature : List ℕ

abbrev pub CertificateParts : Type 0
CertificateParts = (List ℕ × Tbs) × (Unit {0} × List ℕ)

abbrev pub certificate_of : CertificateParts → Certificate
certificate_of v = record { signed = v.0.0; tbs = v.0.1; signature = v.1.1 }

-- signatureAlgorithm has the octets of the signature inside (RFC 5280 section 4.1.1.2).
abbrev pub certificate_members : Members Certificate
certificate_members = told certificate_of (member (standing tbs_certificate) (λ t. member (fixed 8 SEQUENCE t.1.algorithm) (λ _. last signature_value)))

unfoldable pub certificate : Element Certificate
certificate = element SEQUENCE (head_rules SEQUENCE) (constructed no_rules certificate_members no_rules)

-- a certificate, and nothing after it
abbrev pub file : Members Certificate
file = last certificate
