-- What is judged of a CRL as a whole.
use Rattle.std.proofs.Common.{◌≡◌, ℕ, List, Some, None, Ok, Err, refl, sym, subst}
use Rattle.der_lite.specs.Der.{IsBytes}
use Rattle.resource_certificates.specs.declared.fault.CertificateFault.{CertificateFault}
use Rattle.resource_certificates.specs.declared.fault.CertificateFaultKind.{CertificateFaultKind}
use Rattle.resource_certificates.specs.declared.fault.CrlFault.{CrlFault}
use Rattle.resource_certificates.specs.declared.fault.CrlFault.TheVariants.{At, Memory}
use Rattle.resource_certificates.specs.Faults.{fault_of}
use Rattle.resource_certificates.specs.Gives.{GivesAllOrMemory}
use Rattle.resource_certificates.specs.Crls.{Crl, TbsCrl, IsCrl, CrlFaultOf, crl_element, crl_profile, CrlProfiled, ReadsCrl}
use Rattle.resource_certificates.specs.CrlReading.{crl_all}
use Rattle.resource_certificates.proofs.ExactCrls.{crl_read, crl_fault}

-- an element is a fault, or memory ran out
pub crl_wrong : (e : CrlFault) (bytes : List ℕ) → IsBytes bytes → GivesAllOrMemory {X = Crl} (λ y. y) (Err e) (crl_all bytes) → ReadsCrl {X = Crl} (λ y. y) (Err e) bytes
crl_wrong (At f) bytes are h = crl_element (crl_fault bytes (fault_of f) are h)
crl_wrong Memory bytes are h = tt

-- a rule over the extensions is broken
pub crl_profile_fault : (bytes : List ℕ) (c : Crl) (kind : CertificateFaultKind) (fault : CertificateFault) → fault ≡ record { kind = kind; offset = 0 } → IsBytes bytes → crl_all bytes ≡ Ok c → (inside : TbsCrl) → inside ≡ c.tbs → CrlProfiled (Some kind) inside → CrlFaultOf bytes fault
crl_profile_fault bytes c kind fault e are read inside same p =
    subst (λ (f : CertificateFault). CrlFaultOf bytes f) (sym e) (crl_profile c (crl_read bytes c are read) (subst (λ (t : TbsCrl). CrlProfiled (Some kind) t) same p) refl)

-- all is right
pub crl_right : (bytes : List ℕ) (c : Crl) → IsBytes bytes → crl_all bytes ≡ Ok c → (inside : TbsCrl) → inside ≡ c.tbs → CrlProfiled None inside → IsCrl bytes c
crl_right bytes c are read inside same p = record { spelled = crl_read bytes c are read; profile = subst (λ (t : TbsCrl). CrlProfiled None t) same p }
