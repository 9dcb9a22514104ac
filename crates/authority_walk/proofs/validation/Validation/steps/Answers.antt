use Rattle.std.proofs.Common.{suc, sym, subst, arith, add-one, ◌∙◌}
use Rattle.std.proofs.lemmas.Result.{err_from_is_err_and}
use Rattle.authority_walk.specs.Progress.{Steps}
use Rattle.authority_walk.proofs.Progressing.{steps_on}
use Rattle.authority_walk.proofs.validation.Validation.steps.Goals as goal

pub returns-then-branch-clause-steps : goal.returns-then-branch-clause-steps
returns-then-branch-clause-steps g c =
    steps_on c.args.budget (suc c.loop-step._step) c.args.self.now c.step.new.self (omega (arith, c.loop-step-test.true)) (c.in_ok-step.ensures.done.0 c.if-branch.true)
    (c.loop-step.self, c.loop-step.invariant.1, c.in_ok-step.ensures.step)

pub returns-in_err-step-clause-err : goal.returns-in_err-step-clause-err
returns-in_err-step-clause-err g c =
    let p = err_from_is_err_and c.from_residual.result c.from_residual.ensures.1 in
    rw p.1 (record { taken = c.loop-step._step; before = c.loop-step.self; few = c.loop-step-test.true; steps = c.loop-step.invariant.1; place = c.in_err-step.ensures.err })

pub loop-step-preserved : goal.loop-step-preserved
loop-step-preserved g c = (
  c.step.ensures.files ∙ c.loop-step.invariant.0,
  subst (λ n. Steps n c.args.self.now c.step.new.self) (sym (add-one c.loop-step._step)) (c.loop-step.self, c.loop-step.invariant.1, c.in_ok-step.ensures.step),
)
