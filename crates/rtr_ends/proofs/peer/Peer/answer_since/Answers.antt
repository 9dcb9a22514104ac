use Rattle.rtr_ends.proofs.Words.{◌∙◌, ap, sym, told_since}
use Rattle.rtr_ends.proofs.AnsweringLaws.{since_change}
use Rattle.rtr_ends.proofs.peer.Peer.answer_since.Goals as goal

pub returns-in-Ok-Change : goal.returns-in-Ok-Change
returns-in-Ok-Change g c = λ keep t i holds k.
    since_change keep t i c.args.asked.0 c.args.self.now c.in-Ok-Change.change c.answer_step.new.self c.requires.goes_on k
    (sym (ap told_since c.in-Ok-Change.field-0-is) ∙ c.in-Ok-Change.ensures keep i holds) c.answer_step.ensures
