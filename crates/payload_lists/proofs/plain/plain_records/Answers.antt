use Rattle.std.proofs.Common.{◌≡◌, ◌++◌, ◌∷◌, [], if◌then◌else◌, ◌∙◌, ap, sym, subst}
use Rattle.std.specs.Prelude.{IfSome}
use Rattle.payload_lists.specs.PlainForm.{ReadsEntry, ReadsNoEntry}
use Rattle.std.proofs.lemmas.Result.{err_from_is_err_and}
use Rattle.payload_lists.specs.declared.listing.ListFault.TheVariants.{NoList}
use Rattle.payload_lists.proofs.Entries.{same_error}
use Rattle.payload_lists.proofs.PlainLoop.{Begun, begun, begun_more, begun_ends, begun_refused}
use Rattle.payload_lists.proofs.plain.plain_records.Goals as goal

-- src/plain.rt:107:5
pub loop-reader-init : goal.loop-reader-init
loop-reader-init c = subst (λ vs. Begun c.args.reader.now c.args.reader.now vs) (sym c.new-records.ensures.items) (begun c.args.reader.now)

-- src/plain.rt:107:5
pub loop-reader-smaller : goal.loop-reader-smaller
loop-reader-smaller c =
    let entry = subst (λ o. IfSome o (λ v. ReadsEntry c.take_end_array.new.self c.plain_entry.new.reader v)) c.in-Some.is c.in_ok-vrp.ensures.ok in
    let read = subst (λ ts. ReadsEntry ts c.plain_entry.new.reader c.in-Some.vrp) c.loop-reader-test.ensures.1 entry in
    read.0

-- src/plain.rt:107:5
pub loop-reader-preserved : goal.loop-reader-preserved
loop-reader-preserved c =
    let entry = subst (λ o. IfSome o (λ v. ReadsEntry c.take_end_array.new.self c.plain_entry.new.reader v)) c.in-Some.is c.in_ok-vrp.ensures.ok in
    let read = subst (λ ts. ReadsEntry ts c.plain_entry.new.reader c.in-Some.vrp) c.loop-reader-test.ensures.1 entry in
    let pushed : c.push.new.self.items ≡ c.loop-reader.records.items ++ c.in-Some.vrp ∷ [] =
    c.push.ensures.items ∙ ap (λ b. if b then c.loop-reader.records.items ++ c.in-Some.vrp ∷ [] else c.loop-reader.records.items) c.if-is_err.ensures.negation in
    subst (λ vs. Begun c.args.reader.now c.plain_entry.new.reader vs) (sym pushed)
    (begun_more c.args.reader.now c.loop-reader.reader c.plain_entry.new.reader c.loop-reader.records.items c.in-Some.vrp c.loop-reader.invariant c.loop-reader-test.ensures.0 read)

-- src/plain.rt:100:1
pub returns-clause-ok : goal.returns-clause-ok
returns-clause-ok c = begun_ends c.args.reader.now c.loop-reader.reader c.take_end_array.new.self c.loop-reader.records.items c.loop-reader.invariant c.loop-reader-test.ensures

pub returns-in_err-vrp-clause-no_list : goal.returns-in_err-vrp-clause-no_list
returns-in_err-vrp-clause-no_list c e =
    let p = err_from_is_err_and c.from_residual.result c.from_residual.ensures.1 in
    let read = c.plain_entry.ensures.no_list (same_error c.from_residual.result c.plain_entry.result p.0 _ NoList p.1 p.2 c.in_err-vrp.was e) in
    begun_refused c.args.reader.now c.loop-reader.reader c.plain_entry.new.reader c.loop-reader.records.items c.loop-reader.invariant c.loop-reader-test.ensures.0
    (subst (λ ts. ReadsNoEntry ts c.plain_entry.new.reader) c.loop-reader-test.ensures.1 read)
