use Rattle.std.proofs.Common.{take}
use Rattle.rtr_server.specs.Streams.{moved_count}
use Rattle.rtr_server.proofs.TurnLaws.{written_more}
use Rattle.upstreams.proofs.AnswerLogs as logs
use Rattle.upstreams.proofs.ConnectionLaws as laws
use Rattle.upstreams.proofs.connection.Connection.write.Goals as goal

pub returns-clause-goes : goal.returns-clause-goes
returns-clause-goes g c = λ now.
    laws.writes g.T.Stream.remaining g.T.Stream.contents now c.args.router.now c.args.self.now c.write-moved.new.stream c.write-moved.new.self c.write-moved.result c.after_write.result c.write-moved.ensures.empties c.write-moved.ensures.keeps c.after_write.ensures
    (record c.args.self.now.traffic { carried = record c.args.self.now.traffic.carried { written = c.saturating_add-self.result }; sent = c.write-moved.new.sent })
    (written_more c.args.self.now.traffic c.saturating_add-self.result c.count.result _ c.write-moved.new.sent (take (moved_count c.write-moved.result) c.args.self.now.unwritten) c.saturating_add-self.ensures c.count.ensures c.write-moved.ensures.counts)

pub returns-clause-answers : goal.returns-clause-answers
returns-clause-answers g c = record { since = _; logged = c.write-moved.ensures.logs; told = logs.write_told c.write-moved.result c.after_write.result c.after_write.ensures }
