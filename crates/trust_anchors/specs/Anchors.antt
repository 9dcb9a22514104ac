-- Whether a certificate is a trust anchor for the key of a locator at a moment (RFC 8630 section 3). What its extensions say was judged when it was
-- read as that of a trust anchor (`IsCertificate Anchor`); the law `profile_of_anchors` says what that is.
use Rattle.std.specs.Prelude.{◌≡◌, ◌≢◌, ◌⊎◌, ◌↔◌, ℕ, Bool, true, false, ◌||◌, List, Option, Some, None, Result, Ok, Err}
use Rattle.der_lite.specs.Moments.{CivilMoment, moment_before}
use Rattle.resources.specs.declared.choice.ResourceChoice.{ResourceChoice}
use Rattle.resources.specs.declared.choice.ResourceChoice.TheVariants.{Inherit, Listed}
use Rattle.resources.specs.declared.ip_resources.IpResources.{IpResources}
use Rattle.resource_certificates.specs.declared.role.Role.TheVariants.{Anchor}
use Rattle.resource_certificates.specs.Keys.{Key, key_info}
use Rattle.resource_certificates.specs.Certificates.{Tbs, Certificate}
use Rattle.resource_certificates.specs.Profile.{authority_value, is_authority, IsCertificate}
use Rattle.issuing.specs.Issued.{IsBetween, IsSignedBy}
use Rattle.trust_anchors.specs.declared.anchor_fault.AnchorFault.{AnchorFault}
use Rattle.trust_anchors.specs.declared.anchor_fault.AnchorFault.TheVariants.{Key as KeyFault, Issuer, NotYet, Expired, Inherits, Signature}
use Rattle.trust_anchors.specs.Keys.{IsKeyInfo}
use Rattle.trust_anchors.specs.Locators.{Tal}

-- what a certificate says of its resources: of IP addresses, and of AS numbers (RFC 6487 sections 4.8.10 and 4.8.11)
abbrev pub Resources : Type 0
Resources = Option IpResources × Option ResourceChoice

-- inherit (RFC 3779 sections 2.2.3.5 and 3.2.3.3)
abbrev pub is_inherit : Option ResourceChoice → Bool
is_inherit None = false
is_inherit (Some (Listed ranges)) = false
is_inherit (Some Inherit) = true

abbrev pub inherits_ip : Option IpResources → Bool
inherits_ip None = false
inherits_ip (Some ip) = is_inherit ip.v4 || is_inherit ip.v6

-- Addresses of one family or AS numbers are inherited.
abbrev pub inherits : Resources → Bool
inherits (ip, as_ids) = inherits_ip ip || is_inherit as_ids

-- The certificate has the key of the locator (RFC 8630 section 2.3). It is self-issued: the issuer has the characters of its own subject (RFC 5280
-- section 3.2).
pub record IsSelfIssued (tal : Tal) (c : Certificate) : Type 0 where
  pub key : c.tbs.key.modulus ≡ tal.modulus
  pub name : c.tbs.issuer ≡ c.tbs.subject

-- RFC 8630 section 3: a current, self-signed certificate, whose key is that of the locator. It lists its resources, and does not inherit them
-- (section 2.3). The caller has read them.
pub record IsAnchor (tal : Tal) (now : CivilMoment) (resources : Resources) (c : Certificate) : Type 0 where
  pub issued : IsSelfIssued tal c
  pub current : IsBetween c.tbs.validity.0 c.tbs.validity.1 now
  pub listed : inherits resources ≡ false
  pub signed : IsSignedBy c.tbs.key.modulus c.signed c.signature

-- The certificate is a trust anchor; or this is the first reason, in the order of `AnchorFault`, why it is not.
abbrev pub JudgesAnchor : Tal → CivilMoment → Resources → Certificate → Result (Unit {0}) AnchorFault → Type 0
JudgesAnchor tal now resources c (Ok _) = IsAnchor tal now resources c
JudgesAnchor tal now resources c (Err KeyFault) = c.tbs.key.modulus ≢ tal.modulus
JudgesAnchor tal now resources c (Err Issuer) = (c.tbs.key.modulus ≡ tal.modulus) × (c.tbs.issuer ≢ c.tbs.subject)
JudgesAnchor tal now resources c (Err NotYet) = IsSelfIssued tal c × (moment_before now c.tbs.validity.0 ≡ true)
JudgesAnchor tal now resources c (Err Expired) =
    IsSelfIssued tal c × (moment_before now c.tbs.validity.0 ≡ false) × (moment_before c.tbs.validity.1 now ≡ true)
JudgesAnchor tal now resources c (Err Inherits) = IsSelfIssued tal c × IsBetween c.tbs.validity.0 c.tbs.validity.1 now × (inherits resources ≡ true)
JudgesAnchor tal now resources c (Err Signature) =
    IsSelfIssued tal c × IsBetween c.tbs.validity.0 c.tbs.validity.1 now × (inherits resources ≡ false)
    × ¬ (IsSignedBy c.tbs.key.modulus c.signed c.signature)

-- What the extensions of a trust anchor say (RFC 6487 sections 4.8.1 to 4.8.11). It is an authority, and names neither a CRL nor an issuer.
-- authorityKeyIdentifier is absent or that of its own key. It has addresses or AS numbers (RFC 8630 section 2.3).
pub record HasAnchorProfile (tbs : Tbs) : Type 0 where
  pub issues : is_authority tbs ≡ true
  pub own_key : (tbs.found.authority_key ≡ None) ⊎ (tbs.found.authority_key ≡ Some (authority_value tbs.key.bits))
  pub no_crl : tbs.found.distribution_points ≡ None
  pub no_issuer : tbs.found.authority_info ≡ None
  pub resources : (tbs.found.ip_blocks ≢ None) ⊎ (tbs.found.as_ids ≢ None)

-- What is read as the certificate of a trust anchor has this profile.
abbrev pub ProfileOfAnchors : Type 0
ProfileOfAnchors = (bytes : List ℕ) (c : Certificate) → IsCertificate Anchor bytes c → HasAnchorProfile c.tbs

-- The subjectPublicKeyInfo of a locator and that of a certificate have the same octets exactly if they have one modulus (RFC 8630 section 2.3).
abbrev pub OneKeyInfo : Type 0
OneKeyInfo = (modulus octets info : List ℕ) (key : Key) → IsKeyInfo modulus octets → key_info.Spells key info → (octets ≡ info) ↔ (key.modulus ≡ modulus)
