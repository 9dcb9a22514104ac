use Rattle.rtr_world.proofs.Words.{◌≡◌, ◌≤◌, ◌-◌, ℕ, Option, Some, Conn}
use Rattle.rtr_world.specs.SideShown.{ShowsBoth}
use Rattle.rtr_world.specs.World.{Side, World}
use Rattle.rtr_world.proofs.MovedBytes.{SentSo}
use Rattle.rtr_world.proofs.side.Side.send.Given as goal

abbrev pub invariant-loop-left : goal.invariant-loop-left
invariant-loop-left l = record {
  conn : l.self.conn ≡ l.fn.self.conn;
  few : l.left ≤ l.most;
  sent : (w : World) (at : ℕ → Option Conn) (s : Side) (o : Conn) → ShowsBoth w at s l.fn.cache l.fn.self → s.conn ≡ Some o → l.fn.self.conn ≡ Some l.conn → SentSo w at s o (l.most - l.left) l.fn.self.conn l.cache l.self;
}

abbrev pub decreases-loop-left : goal.decreases-loop-left
decreases-loop-left l = l.left
