use Rattle.std.proofs.Common.{arith, ap, vec_len, vec_items}
use Rattle.std.specs.List.{Contains}
use Rattle.authority_walk.specs.Walks.{Has, SetHas}
use Rattle.authority_walk.proofs.Having.{has_none, has_same}
use Rattle.authority_walk.proofs.Walking.{deepened}
use Rattle.authority_walk.proofs.walk.deepen.Goals as goal

pub returns-clause-right : goal.returns-clause-right
returns-clause-right g c = λ files w.
    let value = g.R.Reader.value in
    let walk = c.args.walk.now in
    deepened (g.R.Reader.hierarchy files) walk.depth (SetHas g.R.Authority.Ord.cmp value walk.visited) (Has value walk.waiting.items) (Has value c.swap.new.x.items) (Has value walk.below.items) (Has value c.swap.new.y.items)
    (Contains walk.vrps.items) (has_none value walk.waiting.items (omega (arith, walk.waiting.ok.0, c.requires.none)))
    (has_same value walk.below.items c.swap.new.x.items (ap vec_items c.swap.ensures.x_after))
    (has_none value c.swap.new.y.items (omega (arith, c.swap.new.y.ok.0, ap vec_len c.swap.ensures.y_after, c.requires.none))) w
