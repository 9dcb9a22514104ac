use Rattle.std.proofs.Common.{Some, sym, subst}
use Rattle.payload_lists.specs.PayloadList.{AreEntries}
use Rattle.serde_json.specs.Data.{no_items}
use Rattle.exports.specs.ListForm.{IsListed, ReadsListed, Records}
use Rattle.exports.specs.PlainForm.{ReadsNone, before}
use Rattle.exports.proofs.PlainSteps.{begun_items, ends_items, no_item, one_more_item}
use Rattle.exports.proofs.lists.list_records.Goals as goal

pub loop-reader-init : goal.loop-reader-init
loop-reader-init c = begun_items 126 (λ f ds. Records (before ds no_items) (Some c.new.result)) c.args.reader.now (subst (λ vs. AreEntries no_items vs) (sym c.new.ensures.items) tt)

pub returns-in_default : goal.returns-in_default
returns-in_default c =
    no_item 126 (λ f ds. Records (before ds no_items) c.loop-reader.records) c.args.reader.now c.loop-reader.reader c.loop-reader.invariant c.loop-reader-test.ensures.0
    (subst (λ ts. ReadsNone 126 ts) c.loop-reader-test.ensures.1 c.in_default.ensures)

pub loop-reader-preserved : goal.loop-reader-preserved
loop-reader-preserved c =
    one_more_item 126 (λ f ds. Records (before ds no_items) c.loop-reader.records) (λ f ds. Records (before ds no_items) c.in_ok-records.records) (λ j d. IsListed d c.in-Some.entry) c.args.reader.now c.loop-reader.reader c.list_entry.new.reader
    c.loop-reader.invariant c.loop-reader-test.ensures.0 (subst (λ ts. ReadsListed ts c.list_entry.new.reader c.in-Some.entry) c.loop-reader-test.ensures.1 c.in-Some.ensures)
    (λ f ds j d a is. c.in_ok-records.ensures ds d a is)

pub returns : goal.returns
returns c =
    ends_items 126 (λ f ds. Records (before ds no_items) c.loop-reader.records) (λ js ds. Records (before ds no_items) c.loop-reader.records) c.args.reader.now c.loop-reader.reader
    c.take_end_array.new.self c.loop-reader.invariant c.loop-reader-test.ensures (λ f ds a. a)
