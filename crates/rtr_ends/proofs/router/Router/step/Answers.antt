use Rattle.rtr_ends.proofs.Words.{sym, ◌∙◌, subst, true, Prefix, version_with, takes_some}
use Rattle.rtr_ends.specs.RouterShown.{TakesOn}
use Rattle.rtr_ends.proofs.RouterSteps.{unit_goes}
use Rattle.rtr_ends.proofs.router.Router.step.Goals as goal

pub returns-in-Some-clause-takes : goal.returns-in-Some-clause-takes
returns-in-Some-clause-takes c =
    subst (λ v. TakesOn true c.args.self.now c.args.piece.now.now v c.next_prefix.new.piece.now) (sym c.agree.ensures)
    (unit_goes c.args.self.now c.args.piece.now.now c.next_prefix.new.piece.now c.requires c.next_prefix.ensures.reader (Prefix c.in-Some.found.0 c.in-Some.found.1) c.next_prefix.new.self c.in-Some.ensures.some c.follow.new.self c.read_prefix-lacks.new.self
    (λ spoken is. c.follow.ensures spoken (c.expected.ensures ∙ is)) c.read_prefix-lacks.result c.read_prefix-lacks.ensures)

pub returns-in-Some-clause-less : goal.returns-in-Some-clause-less
returns-in-Some-clause-less c h = takes_some (version_with c.args.self.now.reader c.args.piece.now.now) c.args.self.now.reader c.args.piece.now.now c.next_prefix.new.piece.now (Prefix c.in-Some.found.0 c.in-Some.found.1) c.next_prefix.new.self c.next_prefix.ensures.reader c.in-Some.ensures.some

pub returns-clause-takes : goal.returns-clause-takes
returns-clause-takes c =
    subst (λ r. TakesOn c.step_unit.result (record c.args.self.now { reader = r }) c.args.piece.now.now c.step_unit.new.self c.step_unit.new.piece.now) c.in_default.ensures.none.0
    (subst (λ p. TakesOn c.step_unit.result (record c.args.self.now { reader = c.next_prefix.new.self }) p c.step_unit.new.self c.step_unit.new.piece.now) c.in_default.ensures.none.1 c.step_unit.ensures.takes)
