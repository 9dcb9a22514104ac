use Rattle.std.proofs.Common.{◌∙◌, ◌++◌, List, ap, sym}
use Rattle.std.proofs.lemmas.List.{drop_all}
use Rattle.resources.specs.declared.range.ResourceRange.{ResourceRange}
use Rattle.resources.specs.Walks.{merged}
use Rattle.resources.proofs.Merging.{merged_none}
use Rattle.resources.proofs.set.merged.Goals as goal

pub returns : goal.returns
returns c =
    let l = c.loop-next in
    c.in_ok-push.ensures.items
    ∙ sym (l.invariant ∙ ap (λ (left : List ResourceRange). l.all.items ++ merged l.last left) (drop_all l.next-index c.args.ranges.now c.loop-next-test.false) ∙ ap (λ (end : List ResourceRange). l.all.items ++ end) (merged_none l.last))
