use Rattle.std.proofs.Common.{sym, ◌∙◌}
use Rattle.constraints.proofs.PartLaws.{last_is, line_is}
use Rattle.constraints.proofs.words.next_line.Goals as goal

pub returns-in_default : goal.returns-in_default
returns-in_default c =
    let l = c.part_before-line in
    last_is c.args.bytes.now l.result.text.now l.result.rest.now (sym c.is_empty.ensures ∙ c.if-is_empty.false) l.ensures.text l.ensures.rest c.in_default.len_below

pub returns : goal.returns
returns c =
    let l = c.part_before-line in
    line_is c.args.bytes.now l.result.text.now l.result.rest.now c.without_return.result.now l.ensures.text l.ensures.rest l.ensures.shorter c.in-len1-up.len_at_least c.without_return.ensures
