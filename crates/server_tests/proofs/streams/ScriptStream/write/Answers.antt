use Rattle.std.proofs.Common.{length}
use Rattle.server_tests.proofs.streams.ScriptStream.write.Goals as goal

pub returns-then-is_bad-clause-within : goal.returns-then-is_bad-clause-within
returns-then-is_bad-clause-within c = c.bad_progress.ensures (length c.args.buf.now)
