use Rattle.log_output.proofs.Counts.{adds_event}
use Rattle.log_output.proofs.output.Log.add.Goals as goal

pub returns-clause-counts : goal.returns-clause-counts
returns-clause-counts c =
    λ _. (adds_event c.args.self.now c.add_own.new.self c.args.seconds c.args.millis c.args.event.now (c.tick.new.self, c.tick.ensures.reports, c.add_own.ensures)).counts

pub returns-clause-grows : goal.returns-clause-grows
returns-clause-grows c =
    (adds_event c.args.self.now c.add_own.new.self c.args.seconds c.args.millis c.args.event.now (c.tick.new.self, c.tick.ensures.reports, c.add_own.ensures)).grows

pub returns-clause-whole : goal.returns-clause-whole
returns-clause-whole c =
    (adds_event c.args.self.now c.add_own.new.self c.args.seconds c.args.millis c.args.event.now (c.tick.new.self, c.tick.ensures.reports, c.add_own.ensures)).whole
