use Rattle.std.proofs.Common.{◌∙◌, ◌++◌, List, ap, sym}
use Rattle.resources.specs.declared.range.ResourceRange.{ResourceRange}
use Rattle.resources.specs.Walks.{merged}
use Rattle.resources.proofs.Merging.{merged_first, merged_second, merged_joined, on_end}
use Rattle.resources.proofs.set.put_lower.Goals as goal

pub returns-then-is_after : goal.returns-then-is_after
returns-then-is_after c more =
    let done = c.args.ranges.now.items in
    ap (λ (l : List ResourceRange). done ++ l) (merged_first c.args.range c.args.next more (sym c.is_after.ensures ∙ c.if-is_after.true))
    ∙ sym (on_end done c.args.range (merged c.args.next more)) ∙ ap (λ (l : List ResourceRange). l ++ merged c.args.next more) (sym c.in_ok-push.ensures.items)

pub returns-then-is_after-2 : goal.returns-then-is_after-2
returns-then-is_after-2 c more =
    let done = c.args.ranges.now.items in
    ap (λ (l : List ResourceRange). done ++ l)
    (merged_second c.args.range c.args.next more (sym c.is_after.ensures ∙ c.if-is_after.false) (sym c.is_after-2.ensures ∙ c.if-is_after-2.true))
    ∙ sym (on_end done c.args.next (merged c.args.range more)) ∙ ap (λ (l : List ResourceRange). l ++ merged c.args.range more) (sym c.in_ok-push-2.ensures.items)

pub returns : goal.returns
returns c more =
    let done = c.args.ranges.now.items in
    ap (λ (l : List ResourceRange). done ++ l)
    (merged_joined c.args.range c.args.next more (sym c.is_after.ensures ∙ c.if-is_after.false) (sym c.is_after-2.ensures ∙ c.if-is_after-2.false)
    ∙ ap (λ (r : ResourceRange). merged r more) (sym c.hull.ensures))
