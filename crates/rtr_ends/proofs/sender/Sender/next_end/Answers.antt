use Rattle.rtr_ends.proofs.Words.{◌≡◌, ◌∙◌, ap, subst, refl, IsUnitOf}
use Rattle.rtr_ends.specs.Answer.{end_of_data, sent}
use Rattle.rtr_ends.specs.Sender.{own_session, serial_in}
use Rattle.rtr_ends.proofs.SenderLaws.{hands_end}
use Rattle.rtr_ends.proofs.sender.Sender.next_end.Goals as goal

pub returns : goal.returns
returns c =
    let s = c.args.self.now in
    let is : c.end_of_data-end.result ≡ end_of_data s.version (own_session s) (serial_in c.args.cursor.records) s.timing =
    c.end_of_data-end.ensures.value ∙ ap (λ n. end_of_data s.version (own_session s) n s.timing) c.serial.ensures in
    hands_end c.args.self.now c.args.cursor
    (record { version = s.version; sessions = s.sessions; timing = s.timing; ready = s.ready; answer = s.answer; buffer = c.encode_as.new.buffer; pulled = 0 })
    c.keep.new.self c.requires.at (c.encode_as.ensures.bytes ∙ ap (sent s.version) is) refl refl refl refl refl
    (subst (IsUnitOf s.version) is (c.encode_as.ensures.unit, c.end_of_data-end.ensures.fits)) c.keep.ensures
