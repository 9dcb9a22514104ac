use Rattle.std.proofs.Common.{◌≡◌, ℕ, List, length}
use Rattle.vrps.specs.Instance.{Instance}
use Rattle.rtr_ends.specs.CacheState.{peer_at}
use Rattle.rtr_commands.specs.Serves.{ServesOn}
use Rattle.rtr_commands.proofs.Exchanging.{due_in}
use Rattle.rtr_commands.proofs.answering.pull_all.Given as goal

-- what was pulled is behind what was there
abbrev pub invariant-loop-conn : goal.invariant-loop-conn
invariant-loop-conn l =
    (length l.buffer ≡ 4096) × ((i : Instance) (came : List ℕ) → ServesOn i l.conn.0 came l.initial.replies.items l.initial.cache → ServesOn i l.conn.0 came l.replies.items l.cache)

abbrev pub decreases-loop-conn : goal.decreases-loop-conn
decreases-loop-conn l = length (due_in (peer_at l.cache.peers.items l.conn.0))
