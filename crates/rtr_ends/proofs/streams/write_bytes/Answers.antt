-- What this call wrote follows what had gone out before it.
use Rattle.rtr_ends.proofs.Words.{rules, take, ◌++◌, sym, ap, ◌∙◌, subst, take_rest, take-add, Appends, Appends-trans}
use Rattle.rtr_ends.proofs.streams.write_bytes.Goals as goal

pub loop-at-preserved : goal.loop-at-preserved
loop-at-preserved g c =
    let (bound, fails, calls, more, appended) = c.loop-at.invariant in
    let bytes = c.args.bytes.now in
    let at = c.loop-at.at in
    let n = c.in-Ok.n in
    let joined = ap (λ l. take at bytes ++ take n l) (take_rest bytes at) ∙ sym (take-add at n bytes) in
    (search rules, search rules, search rules, search rules, subst (Appends _ _) joined (Appends-trans _ _ _ _ _ appended c.in-Ok.ensures.bytes))
