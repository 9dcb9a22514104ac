-- The router awaits what is read next, and no call failed.
use Rattle.rtr_ends.proofs.Words.{◌≡◌, ◌+◌, List, ◌∷◌, length, calls_of, device_of, failures_of}
use Rattle.rtr_ends.specs.FetchStream.{Awaits}
use Rattle.rtr_ends.specs.Router.{RouterCall, Connects}
use Rattle.rtr_ends.specs.RouterShown.{CallsLead}
use Rattle.rtr_ends.proofs.fetching.fetch.Given as goal

abbrev pub invariant-loop-turn : goal.invariant-loop-turn
invariant-loop-turn g l = record {
  buffer : length l.buffer ≡ 4096;
  room : length l.room ≡ 4096;
  input_fails : failures_of l.input ≡ failures_of l.fn.input;
  output_fails : failures_of l.output ≡ failures_of l.fn.output;
  reads : calls_of l.input ≡ calls_of l.fn.input + l._turn;
  awaits : (calls : List RouterCall) → CallsLead (Connects l.now ∷ calls) l.fn.router
      → Awaits l.now calls (g.R.Read.remaining (device_of l.fn.input)) (g.R.Read.remaining (device_of l.input)) l._turn
      (g.W.Write.contents (device_of l.fn.output)) (g.W.Write.contents (device_of l.output)) l.router;
}
