use Rattle.std.proofs.Common.{◌∙◌, arith, refl}
use Rattle.rtr_server.specs.Turns.{Anyhow, EndsSo, GoesOrEnds}
use Rattle.rtr_server.proofs.AnswerLogs as logs
use Rattle.rtr_server.proofs.TurnLaws as laws
use Rattle.rtr_server.proofs.turn.Slot.turn.Goals as goal

pub loop-call-init : goal.loop-call-init
loop-call-init g c = record { conn = refl; goes = laws.stays g.S.VersionStore.holds g.T.Stream.remaining g.T.Stream.contents Anyhow c.args.self.now c.args.cache.now; answers = logs.none_yet (g.T.Stream.answers c.args.self.now.stream) }

pub returns-in-Some-clause-goes : goal.returns-in-Some-clause-goes
returns-in-Some-clause-goes g c =
    laws.then_on g.S.VersionStore.holds g.T.Stream.remaining g.T.Stream.contents Anyhow Anyhow (EndsSo c.in-Some.turn (g.T.Stream.remaining c.step.new.self.stream)) c.args.self.now c.loop-call.self c.step.new.self c.args.cache.now c.loop-call.cache c.step.new.cache c.loop-call.invariant.conn c.loop-call.invariant.goes c.in-Some.ensures.goes

pub returns-in-Some-clause-answers : goal.returns-in-Some-clause-answers
returns-in-Some-clause-answers g c = logs.ends_turn c.loop-call._call c.args.budget (omega arith) c.in-Some.turn _ _ _ c.loop-call.invariant.answers c.in-Some.ensures.answers

pub loop-call-preserved : goal.loop-call-preserved
loop-call-preserved g c = record {
  conn = c.step.ensures.conn ∙ c.loop-call.invariant.conn;
  goes = laws.then_on g.S.VersionStore.holds g.T.Stream.remaining g.T.Stream.contents Anyhow Anyhow Anyhow c.args.self.now c.loop-call.self c.step.new.self c.args.cache.now c.loop-call.cache c.step.new.cache c.loop-call.invariant.conn c.loop-call.invariant.goes
      (laws.so_then g.S.VersionStore.holds g.T.Stream.remaining g.T.Stream.contents Anyhow (GoesOrEnds c.step.result (g.T.Stream.remaining c.step.new.self.stream)) Anyhow c.loop-call.self c.step.new.self c.loop-call.cache c.step.new.cache (λ s h. tt) c.step.ensures.goes);
  answers = logs.one_more c.loop-call._call _ (omega arith) c.step.result c.in_default.is _ _ _ c.loop-call.invariant.answers c.step.ensures.answers;
}

pub returns-clause-answers : goal.returns-clause-answers
returns-clause-answers g c =
    logs.ends_busy c.args.budget _ _ (logs.all_made c.loop-call._call c.args.budget (omega arith) _ _ c.loop-call.invariant.answers)
