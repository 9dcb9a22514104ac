use Rattle.rtr_world.proofs.Words.{◌≡◌, ℕ, Option, length, Conn}
use Rattle.rtr_world.specs.Reached.{ShowsParts}
use Rattle.rtr_world.specs.World.{World}
use Rattle.rtr_world.proofs.Showing.{SettledFirst}
use Rattle.rtr_world.proofs.world.settle_all.Given as goal

abbrev pub invariant-loop-number : goal.invariant-loop-number
invariant-loop-number l = record {
  len : length l.sides.items ≡ length l.fn.sides.items;
  settled : (w : World) (at : ℕ → Option Conn) → ShowsParts w at l.fn.cache l.fn.sides.items → SettledFirst w l.number l.cache l.sides.items;
}
