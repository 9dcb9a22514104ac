-- The authority that issued what is judged.
use Rattle.std.specs.Prelude.{ℕ, List}
use Rattle.der_lite.specs.Moments.{CivilMoment}
use Rattle.resource_certificates.specs.Certificates.{Certificate}
use Rattle.point_validation.specs.declared.held.HeldResources.{HeldResources}

-- an authority at a moment: its certificate, what it holds, and the serial numbers that its CRL revokes
pub record Issuer : Type 0 where
  pub certificate : Certificate
  pub held : HeldResources
  pub revoked : List (List ℕ)
  pub moment : CivilMoment
