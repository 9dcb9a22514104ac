-- The piece is consumed so far, all that was pulled has gone out, and no call failed.
use Rattle.rtr_ends.proofs.Words.{◌≡◌, ◌-◌, ◌+◌, ◌≤◌, List, length, take, AllByRecursion, calls_of, device_of, failures_of}
use Rattle.rtr_ends.specs.Cache.{ConnCall}
use Rattle.rtr_ends.specs.CacheState.{CacheState}
use Rattle.rtr_ends.specs.ServeStream.{IsTurn, Partly, StandsAt}
use Rattle.rtr_ends.proofs.serving.answer.Given as goal

abbrev pub invariant-loop-room : goal.invariant-loop-room
invariant-loop-room g l = record {
  room : length l.room ≡ length l.initial.room;
  within : l.at ≤ length l.piece;
  fails : failures_of l.output ≡ failures_of l.initial.output;
  partly : (m : CacheState) (calls : List ConnCall) → AllByRecursion IsTurn calls → StandsAt g.S.VersionStore.holds m l.conn.0 calls l.initial.cache
      → Partly g.S.VersionStore.holds m l.conn.0 calls (take l.at l.piece) (g.W.Write.contents (device_of l.initial.output)) (g.W.Write.contents (device_of l.output)) l.cache;
}

abbrev pub decreases-loop-room : goal.decreases-loop-room
decreases-loop-room g l = (18446744073709551615 - calls_of l.output) + (length l.piece - l.at)
