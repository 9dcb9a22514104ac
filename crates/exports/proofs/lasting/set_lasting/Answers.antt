use Rattle.std.proofs.Common.{◌∙◌, ap, replicate, sym}
use Rattle.exports.proofs.Lasts.{are_never}
use Rattle.exports.proofs.Places.{no_numbers}
use Rattle.exports.proofs.lasting.set_lasting.Goals as goal

pub returns-then-has_no_anchor-clause-lasts : goal.returns-then-has_no_anchor-clause-lasts
returns-then-has_no_anchor-clause-lasts c =
    are_never c.args.records.items c.args.lasts.now c.in_ok-lasts.lasts.items c.in_ok-set.set (sym c.ends_never.ensures ∙ c.if-ends_never.true) c.in_ok-set.ensures.ok.0
    (c.in_ok-lasts.ensures.items_if_clones_equal (λ x h. h) ∙ ap (λ n. replicate n 18446744073709551615) c.len.ensures.value)

pub returns-then-has_no_anchor-clause-anchors : goal.returns-then-has_no_anchor-clause-anchors
returns-then-has_no_anchor-clause-anchors c =
    no_numbers c.args.records.items c.args.numbers.now c.in_ok-anchors.anchors.items c.in_ok-set.set (sym c.has_no_anchor.ensures ∙ c.if-has_no_anchor.true) c.in_ok-set.ensures.ok.0
    (c.in_ok-anchors.ensures.items_if_clones_equal (λ x h. h) ∙ ap (λ n. replicate n 255) c.len-then-has_no_anchor.ensures.value)
