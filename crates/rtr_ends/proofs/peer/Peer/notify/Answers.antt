use Rattle.rtr_ends.proofs.Words.{option_map, ◌∙◌, ap, sym, Serial}
use Rattle.rtr_ends.proofs.PeerLaws.{stops_as, notified_stops, notified_none, notified_some}
use Rattle.rtr_ends.proofs.peer.Peer.notify.Goals as goal

pub returns-then-stops : goal.returns-then-stops
returns-then-stops c = λ keep t i o shows.
    notified_stops keep t i o c.args.self.now (sym (stops_as keep t i o c.args.self.now shows) ∙ sym c.stops.ensures ∙ c.if-stops.true) shows

pub returns-in-None : goal.returns-in-None
returns-in-None c = λ keep t i o shows.
    notified_none keep t i o c.args.self.now (sym (ap (option_map (λ (s : Serial). s.0)) c.in-None.is) ∙ c.current.ensures) shows

pub returns-in-Some : goal.returns-in-Some
returns-in-Some c = λ keep t i o shows.
    notified_some keep t i o c.args.self.now c.speak.new.self c.session-session.result c.in-Some.serial.0 c.send.new.self (sym (stops_as keep t i o c.args.self.now shows) ∙ sym c.stops.ensures ∙ c.if-stops.false)
    c.speak.ensures.reader c.speak.ensures.ended c.speak.ensures.speaks c.session-session.ensures
    (sym (ap (option_map (λ (s : Serial). s.0)) c.in-Some.is) ∙ c.current.ensures) shows c.send.ensures
