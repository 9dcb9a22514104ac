use Rattle.std.proofs.Common.{◌+◌, ◌||◌, arith, sym, ap, ◌∙◌}
use Rattle.http_server.specs.Connection.{history}
use Rattle.status_server.proofs.AnsweringLaws.{answered_on}
use Rattle.status_server.proofs.CallLaws.{sent_on, one_more, within}
use Rattle.status_server.specs.Calls.{has_sent}
use Rattle.status_server.proofs.http_connection.HttpConnection.serve.Goals as goal

pub returns-in-Ends-clause-calls : goal.returns-in-Ends-clause-calls
returns-in-Ends-clause-calls g c =
    within g.T.Read.remaining g.T.Write.contents (c.loop-call._call + 1) c.args.budget c.args.self.now c.call.new.self (omega (arith, c.loop-call-test.true))
    (one_more g.T.Read.remaining g.T.Write.contents c.loop-call._call c.args.self.now c.loop-call.self c.call.new.self c.loop-call.invariant.0 c.call.ensures.call)

pub returns-in-Ends-clause-answered : goal.returns-in-Ends-clause-answered
returns-in-Ends-clause-answered g c =
    answered_on g.S.Service.answers c.args.service.now c.loop-call.service c.call.new.service
    (history c.args.self.now.connection).calls (history c.loop-call.self.connection).calls (history c.call.new.self.connection).calls
    c.loop-call.invariant.2 c.call.ensures.answered

pub returns-clause-answered : goal.returns-clause-answered
returns-clause-answered g c = c.loop-call.invariant.2

pub loop-call-preserved : goal.loop-call-preserved
loop-call-preserved g c = (
  one_more g.T.Read.remaining g.T.Write.contents c.loop-call._call c.args.self.now c.loop-call.self c.call.new.self c.loop-call.invariant.0 c.call.ensures.call,
  sym (sent_on g.T.Read.remaining g.T.Write.contents c.loop-call._call c.args.self.now c.loop-call.self c.call.new.self c.loop-call.invariant.0 c.call.ensures.call
      ∙ ap (λ b. b || has_sent c.loop-call.self c.call.new.self) (sym c.loop-call.invariant.1) ∙ ap (λ b. c.loop-call.has_sent || b) (sym c.in-Sent.ensures.sent)),
  answered_on g.S.Service.answers c.args.service.now c.loop-call.service c.call.new.service
      (history c.args.self.now.connection).calls (history c.loop-call.self.connection).calls (history c.call.new.self.connection).calls
      c.loop-call.invariant.2 c.call.ensures.answered,
)
