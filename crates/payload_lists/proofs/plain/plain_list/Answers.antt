use Rattle.std.proofs.Common.{◌∷◌, sym, ap, ◌∙◌, subst}
use Rattle.std.specs.Prelude.{IfSome}
use Rattle.json.specs.Reads.{token_of}
use Rattle.payload_lists.specs.PlainForm.{ReadsItems}
use Rattle.std.proofs.lemmas.Result.{err_from_is_err_and}
use Rattle.payload_lists.specs.declared.listing.ListFault.TheVariants.{NoList}
use Rattle.payload_lists.proofs.Entries.{same_error}
use Rattle.payload_lists.proofs.PlainLoop.{list_is, refused_is}
use Rattle.payload_lists.proofs.PlainMembers.{if_none}
use Rattle.payload_lists.proofs.plain.plain_list.Goals as goal

-- src/plain.rt:113:1
pub returns-clause-ok : goal.returns-clause-ok
returns-clause-ok c =
    list_is c.args.text.now c.in_ok-reader.reader c.next.new.self c.plain_records.new.reader c.in-Some.records.items c.in_ok-reader.ensures.ok
    (c.in-Some-BeginArray.ensures.value ∙ ap (λ t. token_of t ∷ c.next.new.self) c.in-Some-BeginArray.field-0-is)
    (subst (λ o. IfSome o (λ vs. ReadsItems c.next.new.self c.plain_records.new.reader vs.items)) c.in-Some.is c.in_ok-records.ensures.ok)
    (if_none c.next-2.result _ _ (sym c.if-is_some.ensures) c.next-2.ensures.value).0

pub returns-in_err-records-clause-no_list : goal.returns-in_err-records-clause-no_list
returns-in_err-records-clause-no_list c e =
    let p = err_from_is_err_and c.from_residual-in_err-records.result c.from_residual-in_err-records.ensures.1 in
    let refused = c.plain_records.ensures.no_list (same_error c.from_residual-in_err-records.result c.plain_records.result p.0 _ NoList p.1 p.2 c.in_err-records.was e) in
    refused_is c.args.text.now c.in_ok-reader.reader c.next.new.self c.in_ok-reader.ensures.ok
    (c.in-Some-BeginArray.ensures.value ∙ ap (λ t. token_of t ∷ c.next.new.self) c.in-Some-BeginArray.field-0-is) refused
