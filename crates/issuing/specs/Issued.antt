-- Whether an authority issued a certificate or a CRL that counts at a moment (RFC 6487 section 7.2, RFC 5280 section 6.3.3).
use Rattle.std.specs.Prelude.{◌≡◌, ℕ, true, false, List, Result, Ok, Err}
use Rattle.std.specs.List.{Contains}
use Rattle.der_lite.specs.Moments.{CivilMoment, moment_before}
use Rattle.rsa_sha256.specs.Rsa.{IsModulus, IsSignature}
use Rattle.resource_certificates.specs.Certificates.{Certificate}
use Rattle.resource_certificates.specs.Crls.{Crl}
use Rattle.resource_certificates.specs.Issuing.{IsIssuedBy, IsCrlOf}
use Rattle.resource_certificates.specs.Profile.{is_authority}
use Rattle.issuing.specs.declared.fault.IssueFault.{IssueFault}
use Rattle.issuing.specs.declared.fault.IssueFault.TheVariants.{NoAuthority, Issuer, NotYet, Expired, Revoked, Signature}

-- The octets are signed by the key of this modulus.
pub record IsSignedBy (modulus octets signature : List ℕ) : Type 0 where
  pub of_rsa : IsModulus modulus
  pub signed : IsSignature modulus octets signature

-- from one moment to another, both included (RFC 5280 sections 4.1.2.5 and 5.1.2.4)
pub record IsBetween (begin end now : CivilMoment) : Type 0 where
  pub begun : moment_before now begin ≡ false
  pub lasts : moment_before end now ≡ false

-- Its issuer may issue, and the certificate names it and its key (RFC 5280 section 6.1.4, RFC 6487 section 4.8.3).
pub record Names (authority c : Certificate) : Type 0 where
  pub issues : is_authority authority.tbs ≡ true
  pub named : IsIssuedBy c.tbs authority.tbs

-- RFC 6487 section 7.2: it names an authority, is in its time, is not among the revoked, and the authority signed it. The caller has judged the
-- authority, and has the revoked serials of its CRL.
pub record IsIssued (now : CivilMoment) (authority : Certificate) (revoked : List (List ℕ)) (c : Certificate) : Type 0 where
  pub names : Names authority c
  pub current : IsBetween c.tbs.validity.0 c.tbs.validity.1 now
  pub kept : ¬ (Contains revoked c.tbs.serial)
  pub signed : IsSignedBy authority.tbs.key.modulus c.signed c.signature

-- The certificate was issued so; or this is the first reason, in this order, why not.
abbrev pub JudgesCertificate : CivilMoment → Certificate → List (List ℕ) → Certificate → Result (Unit {0}) IssueFault → Type 0
JudgesCertificate now authority revoked c (Ok _) = IsIssued now authority revoked c
JudgesCertificate now authority revoked c (Err NoAuthority) = is_authority authority.tbs ≡ false
JudgesCertificate now authority revoked c (Err Issuer) = (is_authority authority.tbs ≡ true) × ¬ (IsIssuedBy c.tbs authority.tbs)
JudgesCertificate now authority revoked c (Err NotYet) = Names authority c × (moment_before now c.tbs.validity.0 ≡ true)
JudgesCertificate now authority revoked c (Err Expired) =
    Names authority c × (moment_before now c.tbs.validity.0 ≡ false) × (moment_before c.tbs.validity.1 now ≡ true)
JudgesCertificate now authority revoked c (Err Revoked) = Names authority c × IsBetween c.tbs.validity.0 c.tbs.validity.1 now × Contains revoked c.tbs.serial
JudgesCertificate now authority revoked c (Err Signature) =
    Names authority c × IsBetween c.tbs.validity.0 c.tbs.validity.1 now × ¬ (Contains revoked c.tbs.serial)
    × ¬ (IsSignedBy authority.tbs.key.modulus c.signed c.signature)

-- Its issuer may sign it, and the CRL names it and its key.
pub record NamesCrl (authority : Certificate) (crl : Crl) : Type 0 where
  pub issues : is_authority authority.tbs ≡ true
  pub named : IsCrlOf crl.tbs authority.tbs

-- RFC 5280 section 6.3.3: it names an authority, thisUpdate is reached and nextUpdate has not passed, and the authority signed it.
pub record IsCurrentCrl (now : CivilMoment) (authority : Certificate) (crl : Crl) : Type 0 where
  pub names : NamesCrl authority crl
  pub current : IsBetween crl.tbs.this_update crl.tbs.next_update now
  pub signed : IsSignedBy authority.tbs.key.modulus crl.signed crl.signature

-- The CRL counts; or this is the first reason, in this order, why not.
abbrev pub JudgesCrl : CivilMoment → Certificate → Crl → Result (Unit {0}) IssueFault → Type 0
JudgesCrl now authority crl (Ok _) = IsCurrentCrl now authority crl
JudgesCrl now authority crl (Err NoAuthority) = is_authority authority.tbs ≡ false
JudgesCrl now authority crl (Err Issuer) = (is_authority authority.tbs ≡ true) × ¬ (IsCrlOf crl.tbs authority.tbs)
JudgesCrl now authority crl (Err NotYet) = NamesCrl authority crl × (moment_before now crl.tbs.this_update ≡ true)
JudgesCrl now authority crl (Err Expired) =
    NamesCrl authority crl × (moment_before now crl.tbs.this_update ≡ false) × (moment_before crl.tbs.next_update now ≡ true)
JudgesCrl now authority crl (Err Revoked) = ⊥
JudgesCrl now authority crl (Err Signature) =
    NamesCrl authority crl × IsBetween crl.tbs.this_update crl.tbs.next_update now × ¬ (IsSignedBy authority.tbs.key.modulus crl.signed crl.signature)
