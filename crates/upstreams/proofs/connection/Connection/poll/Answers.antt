use Rattle.std.proofs.Common.{arith}
use Rattle.rtr_server.proofs.AnswerLogs.{all_made, none_yet}
use Rattle.upstreams.specs.Polls.{Anyhow, EndsSo, GoesOrEnds}
use Rattle.upstreams.proofs.AnswerLogs as logs
use Rattle.upstreams.proofs.ConnectionLaws as laws
use Rattle.upstreams.proofs.connection.Connection.poll.Goals as goal

pub loop-call-init : goal.loop-call-init
loop-call-init g c = record { goes = laws.stays g.T.Stream.remaining g.T.Stream.contents c.args.now Anyhow c.args.router.now c.args.self.now; answers = none_yet (g.T.Stream.answers c.args.self.now.stream) }

pub returns-in-Some-clause-goes : goal.returns-in-Some-clause-goes
returns-in-Some-clause-goes g c =
    laws.then_on g.T.Stream.remaining g.T.Stream.contents c.args.now Anyhow Anyhow (EndsSo c.in-Some.outcome (g.T.Stream.remaining c.step.new.self.stream)) c.args.router.now c.args.self.now c.loop-call.router c.loop-call.self c.step.new.router c.step.new.self c.loop-call.invariant.goes c.in-Some.ensures.goes

pub returns-in-Some-clause-answers : goal.returns-in-Some-clause-answers
returns-in-Some-clause-answers g c = logs.ends_poll c.loop-call._call c.args.budget (omega arith) c.in-Some.outcome _ _ _ c.loop-call.invariant.answers c.in-Some.ensures.answers

pub loop-call-preserved : goal.loop-call-preserved
loop-call-preserved g c = record {
  goes = laws.then_on g.T.Stream.remaining g.T.Stream.contents c.args.now Anyhow Anyhow Anyhow c.args.router.now c.args.self.now c.loop-call.router c.loop-call.self c.step.new.router c.step.new.self c.loop-call.invariant.goes
      (laws.so_then g.T.Stream.remaining g.T.Stream.contents c.args.now Anyhow (GoesOrEnds c.step.result (g.T.Stream.remaining c.step.new.self.stream)) Anyhow c.loop-call.router c.loop-call.self c.step.new.router c.step.new.self (λ calls b runs h. tt) c.step.ensures.goes);
  answers = logs.one_more c.loop-call._call _ (omega arith) c.step.result c.in_default.is _ _ _ c.loop-call.invariant.answers c.step.ensures.answers;
}

pub returns-clause-answers : goal.returns-clause-answers
returns-clause-answers g c =
    logs.ends_busy c.args.budget _ _ (all_made c.loop-call._call c.args.budget (omega arith) _ _ c.loop-call.invariant.answers)
