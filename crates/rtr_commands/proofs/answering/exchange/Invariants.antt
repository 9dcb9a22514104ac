use Rattle.std.proofs.Common.{[], length}
use Rattle.vrps.specs.Instance.{Instance}
use Rattle.rtr_commands.specs.Serves.{HasServed}
use Rattle.rtr_commands.proofs.Exchanging.{Exchanging}
use Rattle.rtr_commands.proofs.answering.exchange.Given as goal

-- a beginning of the bytes came
abbrev pub invariant-loop-rest : goal.invariant-loop-rest
invariant-loop-rest l = (i : Instance) → HasServed i l.conn.0 [] l.initial.replies.items l.initial.cache → Exchanging i l.conn.0 l.bytes l.rest l.replies.items l.cache

abbrev pub decreases-loop-rest : goal.decreases-loop-rest
decreases-loop-rest l = length l.rest
