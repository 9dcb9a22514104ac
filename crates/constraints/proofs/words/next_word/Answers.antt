use Rattle.std.proofs.Common.{arith}
use Rattle.constraints.proofs.PartLaws.{none_is, dash_is, word_is}
use Rattle.constraints.proofs.words.next_word.Goals as goal

pub returns-in_default : goal.returns-in_default
returns-in_default c = none_is c.args.text.now c.part_after-text.result.now c.part_after-text.ensures.value c.in_default.len_below

pub returns-then-first-eq45 : goal.returns-then-first-eq45
returns-then-first-eq45 c =
    let text = c.part_after-text.result.now in
    dash_is c.args.text.now text c.part_after-text.ensures.value c.in-len1-up.len_at_least c.if-first-eq45.true

pub returns : goal.returns
returns c =
    let text = c.part_after-text.result.now in
    let w = c.part_before-word in
    word_is c.args.text.now text w.result.text.now w.result.rest.now c.part_after-text.ensures.value c.in-len1-up.len_at_least (λ e. omega (arith, e, c.if-first-eq45.false))
    w.ensures.text w.ensures.rest
