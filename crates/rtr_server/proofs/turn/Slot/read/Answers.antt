use Rattle.rtr_server.proofs.AnswerLogs as logs
use Rattle.rtr_server.proofs.TurnLaws as laws
use Rattle.rtr_server.proofs.turn.Slot.read.Goals as goal

pub returns-clause-goes : goal.returns-clause-goes
returns-clause-goes g c = laws.reads g.S.VersionStore.holds g.T.Stream.remaining g.T.Stream.contents c.args.self.now c.read-moved.new.self c.read-moved.new.stream c.args.cache.now c.read-moved.result c.is_within_unit-is_within.result c.after_read.result c.read-moved.ensures.fills c.read-moved.ensures.keeps c.is_within_unit-is_within.ensures c.after_read.ensures c.read-moved.ensures.room (record c.args.self.now.traffic { carried = record c.args.self.now.traffic.carried { read = c.saturating_add-self.result } }) (laws.read_more c.args.self.now.traffic c.saturating_add-self.result c.count.result _ c.saturating_add-self.ensures c.count.ensures)

pub returns-clause-answers : goal.returns-clause-answers
returns-clause-answers g c = record { since = _; logged = c.read-moved.ensures.logs; told = logs.read_told c.read-moved.result c.is_within_unit-is_within.result c.after_read.result c.after_read.ensures }
