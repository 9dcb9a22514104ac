use Rattle.std.proofs.Common.{IsSome, ◌∙◌, refl, None}
use Rattle.rtr_ends.specs.CacheState.{peer_at, taken_numbers}
use Rattle.rtr_ends.proofs.CacheStateLaws.{below_end, is_there, keeps_none, none_there, sets, taken_at}
use Rattle.rtr_ends.proofs.cache.Cache.close.Goals as goal

pub returns-then-is_some : goal.returns-then-is_some
returns-then-is_some g c = λ m shows.
    let there : IsSome (peer_at c.args.self.now.peers.items c.args.conn.0) = is_there (λ p. p.now) c.peer.result (peer_at c.args.self.now.peers.items c.args.conn.0) c.is_some.result c.peer.ensures c.is_some.ensures ∙ c.if-is_some.true in
    sets g.S.VersionStore.holds m c.args.self.now _ c.args.conn.0 shows (below_end c.args.self.now.peers.items c.args.conn.0 there) refl refl refl None None refl
    (c.put.ensures (taken_numbers c.args.self.now.peers.items) shows.numbers (taken_at c.args.self.now.peers.items c.args.conn.0 there)) tt

pub returns-else-is_some : goal.returns-else-is_some
returns-else-is_some g c = λ m shows.
    let none = none_there (peer_at c.args.self.now.peers.items c.args.conn.0) (is_there (λ p. p.now) c.peer.result (peer_at c.args.self.now.peers.items c.args.conn.0) c.is_some.result c.peer.ensures c.is_some.ensures ∙ c.if-is_some.false) in
    keeps_none g.S.VersionStore.holds m c.args.self.now c.args.self.now c.args.conn.0 shows refl refl refl refl none refl None refl
