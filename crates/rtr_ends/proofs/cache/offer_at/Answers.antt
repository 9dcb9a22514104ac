use Rattle.rtr_ends.proofs.Words.{◌≡◌, ◌∙◌, ap, sym, Some, with_value}
use Rattle.rtr_ends.specs.CacheState.{peer_at}
use Rattle.rtr_ends.proofs.CacheStateLaws.{slot_of, offers_at, offers_none}
use Rattle.rtr_ends.proofs.cache.offer_at.Goals as goal

pub returns-in-Some : goal.returns-in-Some
returns-in-Some c =
    let at : peer_at c.args.peers.now.items c.args.number ≡ Some c.deref_mut.result.now =
    slot_of c.args.peers.now.items c.args.number c.index_mut.result.now c.in-Some.peer c.requires c.index_mut.ensures.value c.in-Some.is ∙ ap Some (sym c.deref_mut.ensures.value) in
    offers_at c.args.peers.now.items c.args.number c.args.share c.deref_mut.result.now (with_value c.in-Some.peer c.offer.new.self) c.requires at c.offer.ensures

pub returns-in-None : goal.returns-in-None
returns-in-None c = offers_none c.args.peers.now.items c.args.number c.args.share c.index_mut.result.now c.requires c.index_mut.ensures.value c.in-None.is
