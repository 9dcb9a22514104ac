use Rattle.std.proofs.Common.{ap}
use Rattle.rtr_daemon.proofs.daemon.Daemon.check_report.Goals as goal

pub returns-clause-report : goal.returns-clause-report
returns-clause-report g c = record {
  set = c.in_ok-set.field-0.set;
  served = c.in_ok-set.ensures.served;
  ipv4 = ap (λ f. f.ipv4) c.of-ipv4.ensures;
  ipv6 = ap (λ f. f.ipv6) c.of-ipv4.ensures;
  files = c.source_count.ensures;
}
