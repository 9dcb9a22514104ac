use Rattle.std.proofs.Common.{◌++◌, ◌∷◌, [], sym, subst}
use Rattle.serde_json.specs.Data.{no_items}
use Rattle.payload_lists.specs.PayloadList.{AreEntries}
use Rattle.exports.specs.ListForm.{IsListed, Records}
use Rattle.exports.specs.PlainForm.{before}
use Rattle.exports.proofs.ListParts.{are_more, none_last, none_more}
use Rattle.exports.proofs.lists.with_record.Goals as goal

pub returns-in_default : goal.returns-in_default
returns-in_default c ds d so_far is = none_more ds d (subst (λ o. Records (before ds no_items) o) c.in_default.is so_far)

pub returns-in_default-entry : goal.returns-in_default-entry
returns-in_default-entry c ds d so_far is = none_last ds d (subst (λ o. IsListed d o) c.in_default-entry.is is)

pub returns : goal.returns
returns c ds d so_far is =
    let front = subst (λ o. Records (before ds no_items) o) c.in-Some.is so_far in
    let entry = subst (λ o. IsListed d o) c.in-Some-entry.is is in
    subst (λ vs. AreEntries (before (ds ++ d ∷ []) no_items) vs) (sym c.in_ok-push.ensures.items) (are_more ds c.in-Some.records.items d c.in-Some-entry.vrp front entry)
