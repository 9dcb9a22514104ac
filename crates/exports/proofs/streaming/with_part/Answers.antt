use Rattle.std.proofs.Common.{◌||◌, sym, subst}
use Rattle.std.specs.Prelude.{MatchOption}
use Rattle.exports.specs.PlainForm.{ReadsCounted, ReadsNone, ReadsPart, ReadsRoas}
use Rattle.exports.proofs.PlainWhole.{part_metadata, part_other, part_roas}
use Rattle.exports.proofs.streaming.with_part.Goals as goal

pub returns-in-Some : goal.returns-in-Some
returns-in-Some c =
    let read = subst (λ o. MatchOption o (ReadsNone 126 c.args.reader.now) (λ r. ReadsRoas c.args.now c.args.reader.now c.plain_roas.new.reader r)) c.in-Some.is c.in_ok-entries-in-roas.ensures in
    subst (λ k. ReadsPart c.args.now k c.args.parts (record { entries = c.in-Some.entries; built = c.args.parts.built; elements = c.args.parts.elements; repeats = c.args.parts.repeats || c.in-Some.repeat }) c.args.reader.now c.plain_roas.new.reader) (sym c.in-roas.is)
    (part_roas c.args.now c.args.parts (c.in-Some.entries, c.in-Some.repeat) c.args.reader.now c.plain_roas.new.reader read)

pub returns-in-Some-plain_built : goal.returns-in-Some-plain_built
returns-in-Some-plain_built c =
    subst (λ k. ReadsPart c.args.now k c.args.parts (record { entries = c.args.parts.entries; built = c.in-Some-plain_built.built; elements = c.args.parts.elements; repeats = c.args.parts.repeats || c.in-Some-plain_built.repeat }) c.args.reader.now c.plain_built.new.reader)
    (sym c.in-metadata.is)
    (part_metadata c.args.now c.args.parts (c.in-Some-plain_built.built, c.in-Some-plain_built.repeat) c.args.reader.now c.plain_built.new.reader c.in-Some-plain_built.ensures)

pub returns-in-Some-2 : goal.returns-in-Some-2
returns-in-Some-2 c =
    part_other c.args.now c.args.name.now c.args.parts c.in-Some-2.count c.with.result c.args.reader.now c.count_elements.new.reader c.in_default.not-roas c.in_default.not-metadata
    (subst (λ o. MatchOption o (ReadsNone 126 c.args.reader.now) (λ n. ReadsCounted c.args.reader.now c.count_elements.new.reader n)) c.in-Some-2.is c.in_ok-count-in_default.ensures) c.with.ensures
