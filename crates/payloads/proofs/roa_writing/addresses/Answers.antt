use Rattle.std.proofs.Common.{◌∙◌, ◌++◌, Bool, sym, ap}
use Rattle.std.proofs.lemmas.List.{append-nil}
use Rattle.payloads.proofs.RoaSpellings.{chosen, list_step}
use Rattle.payloads.proofs.roa_writing.addresses.Goals as goal
use Rattle.payloads.proofs.roa_writing.addresses.Goals.{then-has+in_ok-add_entry, else-has}

pub loop-entry-preserved : goal.loop-entry-preserved
loop-entry-preserved c =
    let list = c.loop-entry.list in
    let e = c.entry-item.result in
    list_step c.args.family c.args.entries.now c.loop-entry.entry-index e list c.if-has.list c.loop-entry-test.true c.entry-item.is c.loop-entry.invariant
    (elim c.if-has.branch [
      | then-has+in_ok-add_entry w ↦ w.list-is ∙ w.in_ok-add_entry.ensures ∙ ap (λ (test : Bool). list ++ chosen test e) (sym w.if-has.true ∙ c.has.ensures)
      | else-has w ↦ w.list-is ∙ sym (append-nil list) ∙ ap (λ (test : Bool). list ++ chosen test e) (sym w.if-has.false ∙ c.has.ensures)
    ])
