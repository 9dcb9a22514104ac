use Rattle.rtr_world.proofs.Words.{◌≡◌, length, AllByRecursion}
use Rattle.rtr_world.specs.SideShown.{IsNewSide}
use Rattle.rtr_world.proofs.world.new_sides.Given as goal

abbrev pub invariant-loop-number : goal.invariant-loop-number
invariant-loop-number l = record {
  len : length l.sides.items ≡ l._number;
  new : AllByRecursion IsNewSide l.sides.items;
}
