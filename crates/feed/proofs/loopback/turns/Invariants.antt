use Rattle.std.proofs.Common.{[]}
use Rattle.vrps.specs.VrpSet.{VrpSet}
use Rattle.feed.specs.Loopback.{GaveAt, Took}
use Rattle.feed.proofs.loopback.turns.Given as goal

-- What the cache gave so far is what the router consumed.
abbrev pub invariant-loop-turn : goal.invariant-loop-turn
invariant-loop-turn l = (set : VrpSet) → GaveAt set l.conn.0 [] l.fn.cache → Took [] l.fn.router → GaveAt set l.conn.0 l.wire.items l.cache × Took l.wire.items l.router
