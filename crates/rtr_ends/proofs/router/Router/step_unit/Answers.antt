use Rattle.rtr_ends.proofs.Words.{sym, ◌∙◌, subst, true, version_with, takes_some}
use Rattle.rtr_ends.specs.RouterShown.{TakesOn}
use Rattle.rtr_ends.proofs.RouterSteps.{fault_goes, more_goes, unit_goes}
use Rattle.rtr_ends.proofs.router.Router.step_unit.Goals as goal

pub returns-in-Unit-clause-takes : goal.returns-in-Unit-clause-takes
returns-in-Unit-clause-takes c =
    subst (λ v. TakesOn true c.args.self.now c.args.piece.now.now v c.next.new.piece.now) (sym c.agree.ensures)
    (unit_goes c.args.self.now c.args.piece.now.now c.next.new.piece.now c.requires c.next.ensures.reader c.in-Unit.unit c.next.new.self c.in-Unit.ensures.takes c.follow.new.self c.read-lacks.new.self
    (λ spoken is. c.follow.ensures spoken (c.expected.ensures ∙ is)) c.read-lacks.result c.read-lacks.ensures)

pub returns-in-Unit-clause-less : goal.returns-in-Unit-clause-less
returns-in-Unit-clause-less c h = takes_some (version_with c.args.self.now.reader c.args.piece.now.now) c.args.self.now.reader c.args.piece.now.now c.next.new.piece.now c.in-Unit.unit c.next.new.self c.next.ensures.reader c.in-Unit.ensures.takes

pub returns-in-NeedMore-clause-takes : goal.returns-in-NeedMore-clause-takes
returns-in-NeedMore-clause-takes c = more_goes c.args.self.now c.args.piece.now.now c.next.new.piece.now c.requires c.next.ensures.reader c.next.new.self c.in-NeedMore.ensures.takes

pub returns-in-Fault-clause-takes : goal.returns-in-Fault-clause-takes
returns-in-Fault-clause-takes c =
    fault_goes c.args.self.now c.args.piece.now.now c.next.new.piece.now c.requires c.next.ensures.reader c.in-Fault.fault c.next.new.self c.held.result.now c.on_fault.new.self c.in-Fault.ensures.takes c.held.ensures.held c.on_fault.ensures
