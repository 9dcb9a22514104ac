use Rattle.rtr_ends.proofs.Words.{option_map, ◌∙◌, ap, sym, Serial}
use Rattle.rtr_ends.proofs.AnsweringLaws.{serial_since}
use Rattle.rtr_ends.proofs.peer.Peer.answer_serial.Goals as goal

pub returns-in-Some : goal.returns-in-Some
returns-in-Some g c = λ keep t i holds k.
    serial_since keep t i c.args.session c.args.serial c.in-Some.current.0 c.args.self.now c.answer_since.new.self k (c.if-session.false ∙ c.session.ensures)
    (sym (ap (option_map (λ (s : Serial). s.0)) c.in-Some.is) ∙ c.current.ensures) (c.answer_since.ensures keep t i holds k)
