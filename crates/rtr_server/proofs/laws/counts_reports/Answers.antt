use Rattle.rtr_server.proofs.UnitCounts as laws
use Rattle.rtr_server.proofs.laws.counts_reports.Goals as goal

pub returns : goal.returns
returns c = laws.counts_reports
