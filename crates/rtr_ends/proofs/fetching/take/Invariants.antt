-- The piece is consumed so far, all that was pulled has gone out, and no call failed.
use Rattle.rtr_ends.proofs.Words.{◌≡◌, ◌-◌, ◌+◌, ◌≤◌, List, length, take, calls_of, device_of, failures_of}
use Rattle.rtr_ends.specs.FetchStream.{TakenPart}
use Rattle.rtr_ends.specs.Router.{RouterCall}
use Rattle.rtr_ends.specs.RouterShown.{CallsLead}
use Rattle.rtr_ends.proofs.fetching.take.Given as goal

abbrev pub invariant-loop-room : goal.invariant-loop-room
invariant-loop-room g l = record {
  room : length l.room ≡ length l.initial.room;
  within : l.at ≤ length l.piece;
  fails : failures_of l.output ≡ failures_of l.initial.output;
  part : (calls : List RouterCall) → CallsLead calls l.initial.router
      → TakenPart l.now calls (take l.at l.piece) (g.W.Write.contents (device_of l.initial.output)) (g.W.Write.contents (device_of l.output)) l.router;
}

abbrev pub decreases-loop-room : goal.decreases-loop-room
decreases-loop-room g l = (18446744073709551615 - calls_of l.output) + (length l.piece - l.at)
