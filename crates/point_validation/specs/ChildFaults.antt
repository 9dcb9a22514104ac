-- Which fault of a child another error is.
use Rattle.point_validation.specs.declared.resource_fault.ResourceCertificateError.{ResourceCertificateError}
use Rattle.point_validation.specs.declared.resource_fault.ResourceCertificateError.TheVariants.{At, Memory as NoMemory}
use Rattle.point_validation.specs.declared.held.HoldError.{HoldError}
use Rattle.point_validation.specs.declared.held.HoldError.TheVariants as hold
use Rattle.point_validation.specs.declared.child_fault.ChildFault.{ChildFault}
use Rattle.point_validation.specs.declared.child_fault.ChildFault.TheVariants.{Certificate, Excess, Memory}

abbrev pub of_certificate : ResourceCertificateError → ChildFault
of_certificate (At fault) = Certificate fault
of_certificate NoMemory = Memory

abbrev pub of_holding : HoldError → ChildFault
of_holding (hold.Excess kind) = Excess kind
of_holding hold.Memory = Memory
