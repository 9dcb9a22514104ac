use Rattle.rtr_ends.proofs.Words.{fits, ◌∙◌, ap, sym, [], ◌∷◌, subst, Unit}
use Rattle.rtr_ends.specs.Sender.{Sends}
use Rattle.rtr_ends.specs.declared.sender.Sender.{Sender}
use Rattle.rtr_ends.proofs.SenderLaws.{same_due, resets_none, resets_some}
use Rattle.rtr_ends.proofs.sender.Sender.answer_reset.Goals as goal

pub send-requires : goal.send-requires
send-requires c = record { due = same_due c.args.self.now c.take.new.self ∙ c.requires; fits = ap (fits c.args.self.now.version) c.report_on-report.ensures }

pub begin-requires : goal.begin-requires
begin-requires c = same_due c.args.self.now c.take.new.self ∙ c.requires

pub returns-in-None : goal.returns-in-None
returns-in-None c =
    let before : Sender = record { version = c.args.self.now.version; sessions = c.args.self.now.sessions; timing = c.args.self.now.timing; ready = c.take.new.self; answer = c.args.self.now.answer; buffer = c.args.self.now.buffer; pulled = c.args.self.now.pulled } in
    let P : Unit → Type 0 = λ u. Sends before (u ∷ []) c.send.new.self in
    resets_none c.args.self.now c.send.new.self c.take.new.self c.requires (sym c.take.ensures.value ∙ c.in-None.is) c.take.ensures.after (subst P c.report_on-report.ensures c.send.ensures)

pub returns-in-Some : goal.returns-in-Some
returns-in-Some c = resets_some c.args.self.now c.begin.new.self c.in-Some.share c.take.new.self (sym c.take.ensures.value ∙ c.in-Some.is) c.take.ensures.after c.begin.ensures
