-- What the code's walk has done so far.
use Rattle.std.specs.Prelude.{vec_len}
use Rattle.std.specs.BTreeSet.{btree_set_len}
use Rattle.std.specs.List.{Contains}
use Rattle.std.specs.declared.cmp.Ordering.{Ordering}
use Rattle.authority_walk.specs.Hierarchy.{Hierarchy}
use Rattle.authority_walk.specs.Progress.{Place}
use Rattle.authority_walk.specs.Walks.{Has, SetHas, IsWalk, With}
use Rattle.authority_walk.specs.declared.walk.Walk.{Walk}

-- the place of a walk
abbrev pub place_of : {A : Type 0} → Walk A → Place
place_of walk = record { depth = walk.depth; waiting = vec_len walk.waiting; visited = btree_set_len walk.visited }

abbrev pub Stands : {A V : Type 0} → (A → A → Ordering) → (A → V) → Hierarchy V → Walk A → Type 0
Stands cmp value h walk = IsWalk h walk.depth (SetHas cmp value walk.visited) (Has value walk.waiting.items) (Has value walk.below.items) (Contains walk.vrps.items)

-- the same, before one more that waits is visited
abbrev pub StandsBefore : {A V : Type 0} → (A → A → Ordering) → (A → V) → Hierarchy V → V → Walk A → Type 0
StandsBefore cmp value h by walk = IsWalk h walk.depth (SetHas cmp value walk.visited) (With (Has value walk.waiting.items) by) (Has value walk.below.items) (Contains walk.vrps.items)
