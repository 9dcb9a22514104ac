use Rattle.std.proofs.Common.{ap}
use Rattle.std.specs.Prelude.{Err}
use Rattle.rtr_daemon.proofs.Reasons.{reason_of}
use Rattle.rtr_daemon.proofs.service.Service.served.Goals as goal

pub returns-in-Err-clause-fails : goal.returns-in-Err-clause-fails
returns-in-Err-clause-fails g c = reason_of c.args.now c.args.self.now.sources c.in-Err.fault c.in-Some.moment c.in-Some.ensures.2 (λ e. c.in-Err.ensures.too_many (ap (λ f. Err f) e))
