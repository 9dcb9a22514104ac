use Rattle.std.proofs.Common.{sym, subst, [], ◌∷◌}
use Rattle.rtr_ends.specs.Peer.{EndsConnection}
use Rattle.rtr_ends.proofs.AnsweringLaws.{Unitwise, unit_other}
use Rattle.rtr_ends.proofs.peer.Peer.answer.Goals as goal

pub returns-in-SerialQuery : goal.returns-in-SerialQuery
returns-in-SerialQuery g c = λ keep t i holds k.
    subst (λ u. Unitwise keep t i u c.args.self.now c.answer_serial.new.self) (sym c.in-SerialQuery.is) (c.answer_serial.ensures keep t i holds k)

pub returns-in_default : goal.returns-in_default
returns-in_default g c = λ keep t i holds k.
    unit_other keep t i c.args.self.now c.end.new.self c.args.unit.now k c.in_default.not-ResetQuery c.in_default.not-SerialQuery c.in_default.not-ErrorReport
    (subst (λ u. EndsConnection c.args.self.now (u ∷ []) c.end.new.self) c.report_on.ensures c.end.ensures)
