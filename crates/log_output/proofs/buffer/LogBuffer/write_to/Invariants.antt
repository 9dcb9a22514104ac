use Rattle.log_output.specs.Sinks.{WritesSome}
use Rattle.log_output.proofs.buffer.LogBuffer.write_to.Given as goal

-- Each turn so far has written something.
abbrev pub invariant-loop-turn : goal.invariant-loop-turn
invariant-loop-turn g l = WritesSome l._turn l.initial.self l.self (g.S.LogSink.contents l.initial.sink) (g.S.LogSink.contents l.sink)
