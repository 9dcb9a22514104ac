use Rattle.log_output.proofs.Counts.{writes_counted}
use Rattle.log_output.specs.Logs.{log_state}
use Rattle.log_output.proofs.output.Log.write_to.Goals as goal

pub returns-clause-writes : goal.returns-clause-writes
returns-clause-writes g c = rw (← c.self.view_is) c.write_to.ensures

pub returns-clause-counts : goal.returns-clause-counts
returns-clause-counts g c =
    let l = c.self.inside in
    rw (← c.self.view_is)
    (writes_counted (log_state l.format l.level l.limit l.buffer l.reported_suppressed l.memory_failures) c.write_to.new.self _ _ _ c.write_to.ensures)
