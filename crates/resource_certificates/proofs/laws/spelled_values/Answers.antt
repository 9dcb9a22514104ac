use Rattle.resource_certificates.proofs.ExactPolicies.{spelled_law}
use Rattle.resource_certificates.proofs.laws.spelled_values.Goals as goal

pub returns : goal.returns
returns c = spelled_law
