use Rattle.std.proofs.Common.{arith}
use Rattle.log_output.proofs.Torn.{line_within}
use Rattle.log_output.proofs.buffer.LogBuffer.kept_bytes.Goals as goal

pub returns-then-self-clause-within : goal.returns-then-self-clause-within
returns-then-self-clause-within c = omega (arith, c.line_length.ensures, line_within c.args.self.now.bytes)
