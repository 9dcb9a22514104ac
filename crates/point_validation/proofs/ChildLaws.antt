-- Why a certificate makes no authority.
use Rattle.std.proofs.Common.{ℕ, List, Err}
use Rattle.resource_certificates.specs.declared.role.Role.TheVariants.{Authority}
use Rattle.issuing.specs.declared.fault.IssueFault.{IssueFault}
use Rattle.issuing.specs.Issued.{JudgesCertificate}
use Rattle.point_validation.specs.declared.resource_certificate.ResourceCertificate.{ResourceCertificate}
use Rattle.point_validation.specs.declared.child_fault.ChildFault.TheVariants.{Issue}
use Rattle.point_validation.specs.ResourceCertificates.{IsResourceCertificate}
use Rattle.point_validation.specs.Issuers.{Issuer}
use Rattle.point_validation.specs.Children.{JudgesChild}

-- it was not issued
pub not_issued : (by : Issuer) (bytes : List ℕ) (c : ResourceCertificate) (reason : IssueFault) → IsResourceCertificate Authority bytes c
    → JudgesCertificate by.moment by.certificate by.revoked c.certificate (Err reason) → JudgesChild by bytes (Err (Issue reason))
not_issued by bytes c reason read h = (c, read, h)
