-- The connection waits for what is read next, and no call failed.
use Rattle.rtr_ends.proofs.Words.{◌≡◌, ◌+◌, [], length, calls_of, device_of, failures_of}
use Rattle.rtr_ends.specs.CacheState.{CacheState}
use Rattle.rtr_ends.specs.ServeStream.{StandsAt, Waits}
use Rattle.rtr_ends.proofs.serving.serve.Given as goal

abbrev pub invariant-loop-turn : goal.invariant-loop-turn
invariant-loop-turn g l = record {
  buffer : length l.buffer ≡ 4096;
  room : length l.room ≡ 32768;
  input_fails : failures_of l.input ≡ failures_of l.initial.input;
  output_fails : failures_of l.output ≡ failures_of l.initial.output;
  reads : calls_of l.input ≡ calls_of l.initial.input + l._turn;
  waits : (m : CacheState) → StandsAt g.S.VersionStore.holds m l.conn.0 [] l.initial.cache
      → Waits g.S.VersionStore.holds m l.conn.0 (g.R.Read.remaining (device_of l.initial.input)) (g.R.Read.remaining (device_of l.input)) l._turn
      (g.W.Write.contents (device_of l.initial.output)) (g.W.Write.contents (device_of l.output)) l.cache;
}
