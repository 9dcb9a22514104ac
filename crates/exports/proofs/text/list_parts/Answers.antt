use Rattle.std.proofs.Common.{subst}
use Rattle.std.specs.Prelude.{MatchOption}
use Rattle.exports.specs.ListForm.{ReadsRecords}
use Rattle.exports.specs.PlainForm.{ReadsNoItems}
use Rattle.exports.proofs.PlainWhole.{list_parts_read}
use Rattle.exports.proofs.text.list_parts.Goals as goal

pub returns : goal.returns
returns c =
    list_parts_read c.args.reader.now c.list_records.new.reader c.in-Some.records c.in_ok-parts_of_list.field-0
    (subst (λ o. MatchOption o (ReadsNoItems 126 c.args.reader.now) (λ records. ReadsRecords c.args.reader.now c.list_records.new.reader records)) c.in-Some.is c.in_ok-records.ensures)
    c.in_ok-parts_of_list.ensures.list c.in_ok-parts_of_list.ensures.names

pub returns-in_default : goal.returns-in_default
returns-in_default c now =
    subst (λ o. MatchOption o (ReadsNoItems 126 c.args.reader.now) (λ records. ReadsRecords c.args.reader.now c.list_records.new.reader records)) c.in_default.is c.in_ok-records.ensures
