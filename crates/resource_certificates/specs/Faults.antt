-- Faults by their numbers.
use Rattle.std.specs.Prelude.{ℕ}
use Rattle.der_lite.specs.Place.{Fault}
use Rattle.der_lite.specs.Cursors.{der_kind_number as element_number}
use Rattle.resource_certificates.specs.declared.fault.CertificateFaultKind.{CertificateFaultKind}
use Rattle.resource_certificates.specs.declared.fault.CertificateFaultKind.TheVariants.{Element, Version, Serial, SignatureAlgorithm, Name, Characters, Before1970}
use Rattle.resource_certificates.specs.declared.fault.CertificateFaultKind.TheVariants.{Validity, KeyAlgorithm, PublicKey, NoExtensions, ExtendedKeyUsage, ExtensionTwice, Criticality}
use Rattle.resource_certificates.specs.declared.fault.CertificateFaultKind.TheVariants.{Signature, BasicConstraints, SubjectKey, AuthorityKey, KeyUsage, DistributionPoints, AuthorityInfo}
use Rattle.resource_certificates.specs.declared.fault.CertificateFaultKind.TheVariants.{SubjectInfo, Policies, ReducingPolicy, NoResources, CrlVersion, NoCrlExtensions, CrlExtensions}
use Rattle.resource_certificates.specs.declared.fault.CertificateFaultKind.TheVariants.{CrlNumber}
use Rattle.resource_certificates.specs.declared.fault.CertificateFault.{CertificateFault}

-- the number of each kind of fault
abbrev pub kind_number : CertificateFaultKind → ℕ
kind_number (Element kind) = element_number kind
kind_number Version = 6
kind_number Serial = 7
kind_number SignatureAlgorithm = 8
kind_number Name = 9
kind_number Characters = 10
kind_number Before1970 = 11
kind_number Validity = 12
kind_number KeyAlgorithm = 13
kind_number PublicKey = 14
kind_number NoExtensions = 15
kind_number ExtendedKeyUsage = 16
kind_number ExtensionTwice = 17
kind_number Criticality = 18
kind_number Signature = 19
kind_number BasicConstraints = 20
kind_number SubjectKey = 21
kind_number AuthorityKey = 22
kind_number KeyUsage = 23
kind_number DistributionPoints = 24
kind_number AuthorityInfo = 25
kind_number SubjectInfo = 26
kind_number Policies = 27
kind_number ReducingPolicy = 28
kind_number NoResources = 29
kind_number CrlVersion = 30
kind_number NoCrlExtensions = 31
kind_number CrlExtensions = 32
kind_number CrlNumber = 33

-- a fault by its number
abbrev pub fault_of : CertificateFault → Fault
fault_of fault = record { number = kind_number fault.kind; offset = fault.offset }
