use Rattle.log_output.proofs.Counts.{ticks}
use Rattle.log_output.proofs.output.Log.tick.Goals as goal

pub returns-clause-counts : goal.returns-clause-counts
returns-clause-counts c =
    (ticks c.args.self.now c.report_suppressed.new.self c.args.seconds c.args.millis (c.report_drops.new.self, c.report_drops.ensures, c.report_suppressed.ensures)).counts

pub returns-clause-grows : goal.returns-clause-grows
returns-clause-grows c =
    (ticks c.args.self.now c.report_suppressed.new.self c.args.seconds c.args.millis (c.report_drops.new.self, c.report_drops.ensures, c.report_suppressed.ensures)).grows

pub returns-clause-whole : goal.returns-clause-whole
returns-clause-whole c =
    (ticks c.args.self.now c.report_suppressed.new.self c.args.seconds c.args.millis (c.report_drops.new.self, c.report_drops.ensures, c.report_suppressed.ensures)).whole
