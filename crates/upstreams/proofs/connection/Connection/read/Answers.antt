use Rattle.rtr_server.proofs.TurnLaws.{read_more}
use Rattle.upstreams.proofs.AnswerLogs as logs
use Rattle.upstreams.proofs.ConnectionLaws as laws
use Rattle.upstreams.proofs.connection.Connection.read.Goals as goal

pub returns-clause-goes : goal.returns-clause-goes
returns-clause-goes g c = λ now.
    laws.reads g.T.Stream.remaining g.T.Stream.contents now c.args.router.now c.args.self.now c.read-moved.new.stream c.read-moved.new.self c.read-moved.result c.after_read.result c.read-moved.ensures.fills c.read-moved.ensures.keeps c.read-moved.ensures.room c.after_read.ensures
    (record c.args.self.now.traffic { carried = record c.args.self.now.traffic.carried { read = c.saturating_add-self.result } }) (read_more c.args.self.now.traffic c.saturating_add-self.result c.count.result _ c.saturating_add-self.ensures c.count.ensures)

pub returns-clause-answers : goal.returns-clause-answers
returns-clause-answers g c = record { since = _; logged = c.read-moved.ensures.logs; told = logs.read_told c.read-moved.result c.after_read.result c.after_read.ensures }
