use Rattle.std.proofs.Common.{sym, ◌∙◌, arith}
use Rattle.rtr_ends.proofs.RouterSteps.{goes_last, goes_none, goes_stop, goes_then}
use Rattle.rtr_ends.proofs.router.Router.take.Goals as goal

pub loop-self-init : goal.loop-self-init
loop-self-init c = record { goes = goes_none c.args.self.now c.args.piece.now.now; less = omega arith }

pub loop-self-preserved : goal.loop-self-preserved
loop-self-preserved c = record {
  goes = goes_then c.args.self.now c.loop-self.self c.step.new.self c.args.piece.now.now c.loop-self.piece.now c.step.new.piece.now c.loop-self.invariant.goes c.if-not-step.ensures.takes;
  less = omega (arith, c.loop-self.invariant.less, c.step.ensures.within);
}

pub returns-then-not-step-clause-takes : goal.returns-then-not-step-clause-takes
returns-then-not-step-clause-takes c =
    goes_last c.args.self.now c.loop-self.self c.step.new.self c.args.piece.now.now c.loop-self.piece.now c.step.new.piece.now c.loop-self.invariant.goes c.if-not-step.ensures.takes

pub returns-clause-takes : goal.returns-clause-takes
returns-clause-takes c =
    goes_last c.args.self.now c.loop-self.self c.loop-self.self c.args.piece.now.now c.loop-self.piece.now c.loop-self.piece.now c.loop-self.invariant.goes
    (goes_stop c.loop-self.self c.loop-self.piece.now (sym c.takes.ensures ∙ c.loop-self-test.false))
