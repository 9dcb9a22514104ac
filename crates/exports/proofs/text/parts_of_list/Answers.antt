use Rattle.std.proofs.Common.{None, false, sym, subst}
use Rattle.serde_json.specs.Data.{array}
use Rattle.payload_lists.specs.PayloadList.{AreEntries}
use Rattle.exports.specs.ListForm.{Records}
use Rattle.exports.specs.PlainForm.{TellsParts}
use Rattle.exports.proofs.Elements.{none}
use Rattle.exports.proofs.PlainWhole.{list_of, no_list_of}
use Rattle.exports.proofs.text.parts_of_list.Goals.{in-Some+in_ok-lasting-in-Some, in-None}
use Rattle.exports.proofs.text.parts_of_list.Goals as goal

pub returns-clause-list : goal.returns-clause-list
returns-clause-list c now ds are = elim c.match-records.branch [
  | in-Some+in_ok-lasting-in-Some w ↦
      let g = w.in_ok-lasting-in-Some.field-0 in
      let listed = subst (λ o. Records ds o) w.in-Some.is are in
      subst (λ e. TellsParts now (array ds) (record { entries = e; built = None; elements = none; repeats = false })) (sym w.entries-is)
      (list_of now ds g w.in_ok-lasting-in-Some.ensures.1 (subst (λ vs. AreEntries ds vs.items) (sym w.in_ok-lasting-in-Some.ensures.0) listed))
  | in-None w ↦
      subst (λ e. TellsParts now (array ds) (record { entries = e; built = None; elements = none; repeats = false })) (sym w.entries-is) (no_list_of now ds (subst (λ o. Records ds o) w.in-None.is are))
]
