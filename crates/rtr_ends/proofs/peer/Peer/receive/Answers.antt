use Rattle.std.proofs.Common.{◌∙◌, sym}
use Rattle.rtr_ends.proofs.PeerLaws.{stops_as, receives_none, receives_more, receives_unit, receives_fault}
use Rattle.rtr_ends.proofs.peer.Peer.receive.Goals as goal

pub returns-then-stops-clause-receives : goal.returns-then-stops-clause-receives
returns-then-stops-clause-receives g c = λ keep t i o holds shows.
    receives_none keep t i o c.args.piece.now c.args.self.now (sym (stops_as keep t i o c.args.self.now shows) ∙ sym c.stops.ensures ∙ c.if-stops.true) shows

pub returns-in-NeedMore-clause-receives : goal.returns-in-NeedMore-clause-receives
returns-in-NeedMore-clause-receives g c = λ keep t i o holds shows.
    receives_more keep t i o c.args.piece.now c.next.new.piece.now c.args.self.now c.next.new.self (sym (stops_as keep t i o c.args.self.now shows) ∙ sym c.stops.ensures ∙ c.if-stops.false) shows c.in-NeedMore.ensures.takes

pub returns-in-Unit-clause-receives : goal.returns-in-Unit-clause-receives
returns-in-Unit-clause-receives g c = λ keep t i o holds shows.
    receives_unit keep t i o c.args.piece.now c.next.new.piece.now c.in-Unit.unit c.args.self.now c.speak.new.self c.answer.new.self c.next.new.self (sym (stops_as keep t i o c.args.self.now shows) ∙ sym c.stops.ensures ∙ c.if-stops.false) shows
    c.in-Unit.ensures.reader c.in-Unit.ensures.takes c.speak.ensures.reader c.speak.ensures.speaks (c.answer.ensures keep t i holds)

pub returns-in-Fault-clause-receives : goal.returns-in-Fault-clause-receives
returns-in-Fault-clause-receives g c = λ keep t i o holds shows.
    receives_fault keep t i o c.args.piece.now c.next.new.piece.now c.in-Fault.fault c.args.self.now c.fail.new.self c.next.new.self (sym (stops_as keep t i o c.args.self.now shows) ∙ sym c.stops.ensures ∙ c.if-stops.false) shows
    c.in-Fault.ensures.reader c.in-Fault.ensures.takes c.fail.ensures
