use Rattle.std.proofs.Common.{◌∙◌, ◌<◌, ◌++◌, [], ◌∷◌, append_assoc, reverse, take, length, ap, sym, arith}
use Rattle.std.proofs.lemmas.List.{get_or-reverse, length-reverse, take_more}
use Rattle.vrps.proofs.origin.push_back_to_front.Goals as goal

pub loop-index-preserved : goal.loop-index-preserved
loop-index-preserved c =
    let group = c.args.group.now in
    let i = c.loop-index.index in
    let x = c.index-group-group.result in
    let low : i < length group = c.loop-index-test.true in
    let size = length-reverse group in
    let next = take_more (reverse group) i x (omega (arith, low, size)) in
    let at = get_or-reverse group i x low ∙ sym c.index-group-group.is in
    c.in_ok-push.ensures.items ∙ ap (λ l. l ++ x ∷ []) c.loop-index.invariant ∙ append_assoc c.args.found.now.items (take i (reverse group)) (x ∷ [])
    ∙ ap (λ l. c.args.found.now.items ++ l) (sym (next ∙ ap (λ y. take i (reverse group) ++ y ∷ []) at))
