use Rattle.rtr_ends.proofs.Words.{◌≡◌, ◌∙◌, ap, sym, refl, arith, Some, with_value}
use Rattle.rtr_ends.specs.CacheState.{peer_at}
use Rattle.rtr_ends.proofs.CacheStateLaws.{slot_none, slot_of, takes_nothing, takes_piece}
use Rattle.rtr_ends.proofs.cache.Cache.receive.Goals as goal

pub returns-in-Some-clause-takes : goal.returns-in-Some-clause-takes
returns-in-Some-clause-takes g c = λ m shows.
    let at : peer_at c.args.self.now.peers.items c.args.conn.0 ≡ Some c.deref_mut.result.now =
    slot_of c.args.self.now.peers.items c.args.conn.0 c.index_mut.result.now c.in-Some.peer (omega (arith, c.if-conn-len.false, c.len.ensures)) c.index_mut.ensures.value c.in-Some.is ∙ ap Some (sym c.deref_mut.ensures.value) in
    takes_piece g.S.VersionStore.holds m c.args.self.now _ c.args.conn.0 shows (omega (arith, c.if-conn-len.false, c.len.ensures)) refl refl refl c.deref_mut.result.now (with_value c.in-Some.peer c.receive.new.self) at refl refl c.args.piece.now c.receive.result (λ o s. c.receive.ensures.receives m.keep m.timing m.cache o shows.store s)

pub returns-in-None-clause-takes : goal.returns-in-None-clause-takes
returns-in-None-clause-takes g c = λ m shows.
    let slot = slot_none c.args.self.now.peers.items c.args.conn.0 c.index_mut.result.now (omega (arith, c.if-conn-len.false, c.len.ensures)) c.index_mut.ensures.value c.in-None.is in
    takes_nothing g.S.VersionStore.holds m c.args.self.now _ c.args.conn.0 shows refl refl refl refl slot.0 slot.1 c.args.piece.now
