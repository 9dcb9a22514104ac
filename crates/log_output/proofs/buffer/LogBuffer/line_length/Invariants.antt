use Rattle.std.proofs.Common.{◌≡◌, ◌+◌, drop}
use Rattle.log_output.specs.Buffers.{line_length}
use Rattle.log_output.proofs.buffer.LogBuffer.line_length.Given as goal

-- No byte so far is a newline.
abbrev pub invariant-loop-at : goal.invariant-loop-at
invariant-loop-at l = line_length l.initial.self.bytes ≡ l.at + line_length (drop l.at l.initial.self.bytes)
