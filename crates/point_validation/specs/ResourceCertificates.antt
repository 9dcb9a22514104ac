-- Certificates with what they say of resources (RFC 6487 section 4, RFC 3779).
use Rattle.std.specs.Prelude.{◌≡◌, ℕ, List, Option, Some, None, Result, Ok, Err, ⊤}
use Rattle.der_lite.specs.Place.{place_of}
use Rattle.der_lite.specs.Grammar.{Members}
use Rattle.resources.specs.declared.fault.ResourceFault.{ResourceFault}
use Rattle.resources.specs.declared.fault.ResourceError.{ResourceError}
use Rattle.resources.specs.declared.fault.ResourceError.TheVariants as resource
use Rattle.resources.specs.declared.ip_resources.IpResources.{IpResources}
use Rattle.resources.specs.Faults.{fault_of}
use Rattle.resources.specs.Resources.{ip_value, as_value}
use Rattle.resource_certificates.specs.declared.role.Role.{Role}
use Rattle.resource_certificates.specs.Extensions.{Found}
use Rattle.resource_certificates.specs.Certificates.{Certificate}
use Rattle.resource_certificates.specs.Profile.{IsCertificate, FaultOf}
use Rattle.point_validation.specs.declared.resource_certificate.ResourceExtensions.{ResourceExtensions}
use Rattle.point_validation.specs.declared.resource_certificate.ResourceCertificate.{ResourceCertificate}
use Rattle.point_validation.specs.declared.resource_fault.ResourceCertificateFault.{ResourceCertificateFault}
use Rattle.point_validation.specs.declared.resource_fault.ResourceCertificateFault.TheVariants as faults
use Rattle.point_validation.specs.declared.resource_fault.ResourceCertificateError.{ResourceCertificateError}
use Rattle.point_validation.specs.declared.resource_fault.ResourceCertificateError.TheVariants.{At, Memory}

-- An extension that is there spells the value; of one that is not there, there is none.
abbrev pub SpellsIfThere : {V : Type 0} → Members V → Option V → Option (List ℕ) → Type 0
SpellsIfThere members None None = ⊤
SpellsIfThere members (Some value) (Some octets) = members.Spells value octets
SpellsIfThere members None (Some octets) = ⊥
SpellsIfThere members (Some value) None = ⊥

-- The extension is there, and this is the first fault of its value.
abbrev pub HasFault : {V : Type 0} → Members V → ResourceFault → Option (List ℕ) → Type 0
HasFault members fault None = ⊥
HasFault members fault (Some octets) = members.FaultAt (place_of 0 octets) (fault_of fault)

-- what the extensions of a certificate say of IP addresses and of AS numbers (RFC 6487 sections 4.8.10 and 4.8.11)
pub record Say (found : Found) (extensions : ResourceExtensions) : Type 0 where
  pub ip : SpellsIfThere ip_value extensions.ip found.ip_blocks
  pub as_ids : SpellsIfThere as_value extensions.as_ids found.as_ids

-- This is the first fault of the resource extensions: that of IP addresses, and otherwise that of AS numbers. Of the certificate itself there is none.
abbrev pub HasResourceFault : Found → ResourceCertificateFault → Type 0
HasResourceFault found (faults.Certificate fault) = ⊥
HasResourceFault found (faults.Addresses fault) = HasFault ip_value fault found.ip_blocks
HasResourceFault found (faults.AsNumbers fault) = ((ip : Option IpResources) × SpellsIfThere ip_value ip found.ip_blocks) × HasFault as_value fault found.as_ids

-- What the extensions say; or their first fault; or memory ran out.
abbrev pub ReadsExtensions : Result ResourceExtensions ResourceCertificateError → Found → Type 0
ReadsExtensions (Ok extensions) found = Say found extensions
ReadsExtensions (Err (At fault)) found = HasResourceFault found fault
ReadsExtensions (Err Memory) found = ⊤

-- The bytes are this certificate in this role, and its extensions say this.
pub record IsResourceCertificate (role : Role) (bytes : List ℕ) (c : ResourceCertificate) : Type 0 where
  pub certificate : IsCertificate role bytes c.certificate
  pub said : Say c.certificate.tbs.found c.extensions

-- The bytes are no certificate in this role, and this is their first fault; or they are one, and this is the first fault of its resource extensions.
abbrev pub ResourceFaultOf : Role → List ℕ → ResourceCertificateFault → Type 0
ResourceFaultOf role bytes (faults.Certificate fault) = FaultOf role bytes fault
ResourceFaultOf role bytes fault = (c : Certificate) × IsCertificate role bytes c × HasResourceFault c.tbs.found fault

-- The bytes are this certificate with its resources; or this is the first fault; or memory ran out.
abbrev pub ReadsResourceCertificate : Role → Result ResourceCertificate ResourceCertificateError → List ℕ → Type 0
ReadsResourceCertificate role (Ok c) bytes = IsResourceCertificate role bytes c
ReadsResourceCertificate role (Err (At fault)) bytes = ResourceFaultOf role bytes fault
ReadsResourceCertificate role (Err Memory) bytes = ⊤

-- ---- private functions

-- the value of an extension that is there; or its first fault; or memory ran out
abbrev pub ReadsIfThere : {V : Type 0} → Members V → Result (Option V) ResourceError → Option (List ℕ) → Type 0
ReadsIfThere members (Ok value) found = SpellsIfThere members value found
ReadsIfThere members (Err (resource.At fault)) found = HasFault members fault found
ReadsIfThere members (Err resource.Memory) found = ⊤

abbrev pub addresses_error : ResourceError → ResourceCertificateError
addresses_error (resource.At fault) = At (faults.Addresses fault)
addresses_error resource.Memory = Memory

abbrev pub as_numbers_error : ResourceError → ResourceCertificateError
as_numbers_error (resource.At fault) = At (faults.AsNumbers fault)
as_numbers_error resource.Memory = Memory
