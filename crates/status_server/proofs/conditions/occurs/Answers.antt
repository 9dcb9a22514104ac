use Rattle.std.proofs.Common.{arith, sym, true≢false}
use Rattle.status_server.proofs.conditions.occurs.Goals as goal

pub returns-in-None : goal.returns-in-None
returns-in-None c = (
  λ h. absurd (true≢false (sym h)),
  λ o. let fits = o.1.fits in absurd (c.in-None.ensures o.0 (omega arith) (omega (arith, fits)) o.1),
)
