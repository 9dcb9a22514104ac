-- Which certificates make their subjects authorities (RFC 6487 section 7.2).
use Rattle.std.specs.Prelude.{ℕ, List, Result, Ok, Err, ⊤}
use Rattle.resource_certificates.specs.declared.role.Role.TheVariants.{Authority}
use Rattle.issuing.specs.Issued.{IsIssued, JudgesCertificate}
use Rattle.point_validation.specs.declared.resource_certificate.ResourceExtensions.{ResourceExtensions}
use Rattle.point_validation.specs.declared.resource_certificate.ResourceCertificate.{ResourceCertificate}
use Rattle.point_validation.specs.declared.child.Child.{Child}
use Rattle.point_validation.specs.declared.child_fault.ChildFault.{ChildFault}
use Rattle.point_validation.specs.declared.child_fault.ChildFault.TheVariants as faults
use Rattle.point_validation.specs.ResourceCertificates.{IsResourceCertificate, ResourceFaultOf}
use Rattle.point_validation.specs.Held.{HoldsEach, Exceeds}
use Rattle.point_validation.specs.Issuers.{Issuer}

-- RFC 6487 section 7.2: the bytes are the certificate of an authority, whose manifest is in its own repository (`IsCertificate`). The issuer issued it,
-- it counts at the moment and is not revoked, and the issuer holds the resources that it lists.
pub record IsChild (by : Issuer) (bytes : List ℕ) (child : Child) : Type 0 where
  pub said : ResourceExtensions
  pub read : IsResourceCertificate Authority bytes (record { certificate = child.certificate; extensions = said })
  pub issued : IsIssued by.moment by.certificate by.revoked child.certificate
  pub held : HoldsEach said by.held child.held

-- This is the first reason why the bytes are not such a certificate: they are none, or it was not issued so, or it lists more than the issuer holds.
abbrev pub ChildFaultOf : Issuer → List ℕ → ChildFault → Type 0
ChildFaultOf by bytes (faults.Certificate fault) = ResourceFaultOf Authority bytes fault
ChildFaultOf by bytes (faults.Issue reason) =
    (c : ResourceCertificate) × IsResourceCertificate Authority bytes c × JudgesCertificate by.moment by.certificate by.revoked c.certificate (Err reason)
ChildFaultOf by bytes (faults.Excess kind) =
    (c : ResourceCertificate) × IsResourceCertificate Authority bytes c × IsIssued by.moment by.certificate by.revoked c.certificate × Exceeds kind c.extensions by.held
ChildFaultOf by bytes faults.Memory = ⊤

-- The bytes make this an authority; or this is the first reason why not; or memory ran out.
abbrev pub JudgesChild : Issuer → List ℕ → Result Child ChildFault → Type 0
JudgesChild by bytes (Ok child) = IsChild by bytes child
JudgesChild by bytes (Err fault) = ChildFaultOf by bytes fault
