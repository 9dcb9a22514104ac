use Rattle.std.proofs.Common.{subst}
use Rattle.std.specs.Prelude.{IfSome}
use Rattle.std.proofs.lemmas.Result.{err_from_is_err_and}
use Rattle.payload_lists.specs.declared.listing.ListFault.TheVariants.{NoList}
use Rattle.payload_lists.proofs.Entries.{same_error}
use Rattle.payload_lists.proofs.PlainLists.{IsListed, IsRefused, listed_is, listed_no, refused_no}
use Rattle.payload_lists.proofs.listing.read_list.Goals as goal

pub returns-in-Some-clause-ok : goal.returns-in-Some-clause-ok
returns-in-Some-clause-ok c =
    let listed = subst (λ o. IfSome o (λ vs. IsListed c.in-Ok.text.now vs.items)) c.in-Some.is c.in_ok-records.ensures.ok in
    listed_is c.args.bytes.now c.in-Some.records.items c.set_from.result c.in-Ok.ensures.cases.1 (subst (λ t. IsListed t c.in-Some.records.items) c.in-Ok.ensures.cases.0 listed) c.set_from.ensures.ok

pub returns-in-Some-clause-no_list : goal.returns-in-Some-clause-no_list
returns-in-Some-clause-no_list c e s h =
    let listed = subst (λ o. IfSome o (λ vs. IsListed c.in-Ok.text.now vs.items)) c.in-Some.is c.in_ok-records.ensures.ok in
    listed_no c.one_reading.ensures c.args.bytes.now c.in-Some.records.items (subst (λ t. IsListed t c.in-Some.records.items) c.in-Ok.ensures.cases.0 listed) (c.set_from.ensures.no_list e) s h

pub returns-in_err-records-clause-no_list : goal.returns-in_err-records-clause-no_list
returns-in_err-records-clause-no_list c e s h =
    let p = err_from_is_err_and c.from_residual.result c.from_residual.ensures.1 in
    let refused = c.plain_list.ensures.no_list (same_error c.from_residual.result c.plain_list.result p.0 _ NoList p.1 p.2 c.in_err-records.was e) in
    refused_no c.args.bytes.now (subst (λ t. IsRefused t) c.in-Ok.ensures.cases.0 refused) s h
