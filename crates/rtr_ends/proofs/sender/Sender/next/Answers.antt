use Rattle.std.proofs.Common.{slice_get, refl, subst, sym, Some}
use Rattle.rtr_ends.specs.Sender.{Hands, units_in}
use Rattle.rtr_ends.specs.declared.sender.Sender.{Sender}
use Rattle.rtr_ends.proofs.SenderLaws.{hands_record, written}
use Rattle.rtr_ends.proofs.sender.Sender.next.Goals as goal

pub returns-then-write : goal.returns-then-write
returns-then-write c =
    let unit = written c.args.self.now.version (slice_get (units_in c.args.cursor.records) c.args.cursor.place) c.write.result c.args.self.now.buffer c.write.new.buffer.items c.write.new.buffer c.if-write.true c.write.ensures.writes in
    let P : Sender → Type 0 = λ s. Hands (record c.args.self.now { answer = Some c.args.cursor }) s in
    subst P (sym c.next_record.ensures) (hands_record c.args.self.now c.args.cursor unit.0 _ unit.1 refl refl refl refl refl refl unit.2 unit.3)
