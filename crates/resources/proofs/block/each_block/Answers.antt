use Rattle.std.proofs.Common.{◌≢◌, ◌≤◌, [], List, subst, sym}
use Rattle.std.specs.List.{All}
use Rattle.std.proofs.lemmas.List.Elements.{All-push}
use Rattle.resources.specs.declared.range.ResourceRange.{ResourceRange}
use Rattle.resources.proofs.Listing.{block_shorter, listed_on}
use Rattle.resources.proofs.block.each_block.Goals as goal

abbrev IsFull : ResourceRange → Type 0
IsFull r = r.low ≤ r.high

pub loop-members-smaller : goal.loop-members-smaller
loop-members-smaller c = block_shorter c.args.kind c.loop-members.members c.in_ok-range.range c.block.new.cursor c.in_ok-range.ensures.exact

pub loop-members-preserved : goal.loop-members-preserved
loop-members-preserved c =
    let l = c.loop-members in
    let more : l.members.rest ≢ [] = λ e. (let h = c.at_end.ensures.1 e in cc) in
    record {
      listed = listed_on c.args.kind c.args.members l.ranges.items c.keep.new.ranges.items l.members c.block.new.cursor c.in_ok-range.range l.invariant.listed more c.in_ok-range.ensures.exact c.in_ok-keep.ensures;
      full = subst (λ (x : List ResourceRange). All IsFull x) (sym c.in_ok-keep.ensures) (All-push IsFull l.ranges.items c.in_ok-range.range l.invariant.full c.in_ok-range.ensures.ordered);
    }
