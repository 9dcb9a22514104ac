use Rattle.std.proofs.Common.{take}
use Rattle.std.specs.List.{All}
use Rattle.authority_walk.specs.Walks.{SetHas}
use Rattle.authority_walk.proofs.walk.has_unvisited.Given as goal

-- those so far were visited
abbrev pub invariant-loop-authority : goal.invariant-loop-authority
invariant-loop-authority g l = All (λ a. SetHas g.R.Authority.Ord.cmp g.R.Reader.value l.walk.visited (g.R.Reader.value a)) (take l.authority-index l.walk.below.items)
