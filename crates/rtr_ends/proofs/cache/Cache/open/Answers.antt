use Rattle.rtr_ends.proofs.Words.{is_some, unwrap_or, ◌∙◌, ap, subst, sym, refl, arith, length-map}
use Rattle.rtr_ends.specs.Cache.{new_conn}
use Rattle.rtr_ends.specs.CacheState.{taken_numbers}
use Rattle.rtr_ends.specs.Peer.{ShowsPeer}
use Rattle.rtr_ends.proofs.CacheStateLaws.{next_free, opens_none, opens_slot, pushes}
use Rattle.rtr_ends.proofs.cache.Cache.open.Goals as goal

pub returns-then-number-count : goal.returns-then-number-count
returns-then-number-count g c = λ m shows.
    let long = c.len-count.ensures ∙ c.args.self.now.peers.ok.0 in
    let new : ShowsPeer c.args.self.now.timing m.cache (new_conn m.cache) c.new.result = c.new.ensures m.cache (c.sessions.ensures.v1 m.keep m.cache shows.store) (c.sessions.ensures.v0 ∙ shows.session0) (c.in_ok-ready.ensures m.keep m.cache shows.store) in
    let slot : ShowsPeer m.timing m.cache (new_conn m.cache) c.in_ok-peer.peer.value =
    subst (λ t. ShowsPeer t m.cache (new_conn m.cache) c.in_ok-peer.peer.value) shows.timing (subst (λ p. ShowsPeer c.args.self.now.timing m.cache (new_conn m.cache) p) (sym c.in_ok-peer.ensures.ok) new) in
    opens_slot g.S.VersionStore.holds m c.args.self.now _ c.unwrap_or-number.result (new_conn m.cache) c.in_ok-peer.peer c.take.new.self c.take.result shows (c.unwrap_or-number.ensures ∙ ap (unwrap_or c.take.result) long) (omega (arith, c.if-number-count.true, long))
    (c.take.ensures (taken_numbers c.args.self.now.peers.items) shows.numbers) refl refl refl refl refl slot

pub returns-in_err-reserve : goal.returns-in_err-reserve
returns-in_err-reserve g c = λ m shows.
    let long = c.len-count.ensures ∙ c.args.self.now.peers.ok.0 in
    let next = next_free g.S.VersionStore.holds m c.args.self.now c.unwrap_or-number.result c.take.new.self c.take.result shows (c.unwrap_or-number.ensures ∙ ap (unwrap_or c.take.result) long) (omega (arith, c.if-number-count.false, long))
    (c.take.ensures (taken_numbers c.args.self.now.peers.items) shows.numbers) in
    opens_none g.S.VersionStore.holds m c.args.self.now _ c.from_residual-in_err-reserve.result c.from_residual-in_err-reserve.ensures.0 shows refl refl refl refl (c.reserve.ensures.same (taken_numbers c.args.self.now.peers.items) next.2)

pub returns-in_err-push : goal.returns-in_err-push
returns-in_err-push g c = λ m shows.
    let long = c.len-count.ensures ∙ c.args.self.now.peers.ok.0 in
    let next = next_free g.S.VersionStore.holds m c.args.self.now c.unwrap_or-number.result c.take.new.self c.take.result shows (c.unwrap_or-number.ensures ∙ ap (unwrap_or c.take.result) long) (omega (arith, c.if-number-count.false, long))
    (c.take.ensures (taken_numbers c.args.self.now.peers.items) shows.numbers) in
    opens_none g.S.VersionStore.holds m c.args.self.now _ c.from_residual-in_err-push.result c.from_residual-in_err-push.ensures.0 shows refl refl refl c.in_err-push.ensures.items (c.reserve.ensures.same (taken_numbers c.args.self.now.peers.items) next.2)

pub returns-in_ok-push : goal.returns-in_ok-push
returns-in_ok-push g c = λ m shows.
    let long = c.len-count.ensures ∙ c.args.self.now.peers.ok.0 in
    let taken = taken_numbers c.args.self.now.peers.items in
    let next = next_free g.S.VersionStore.holds m c.args.self.now c.unwrap_or-number.result c.take.new.self c.take.result shows (c.unwrap_or-number.ensures ∙ ap (unwrap_or c.take.result) long) (omega (arith, c.if-number-count.false, long))
    (c.take.ensures taken shows.numbers) in
    let new : ShowsPeer c.args.self.now.timing m.cache (new_conn m.cache) c.new.result = c.new.ensures m.cache (c.sessions.ensures.v1 m.keep m.cache shows.store) (c.sessions.ensures.v0 ∙ shows.session0) (c.in_ok-ready.ensures m.keep m.cache shows.store) in
    let slot : ShowsPeer m.timing m.cache (new_conn m.cache) c.in_ok-peer.peer.value =
    subst (λ t. ShowsPeer t m.cache (new_conn m.cache) c.in_ok-peer.peer.value) shows.timing (subst (λ p. ShowsPeer c.args.self.now.timing m.cache (new_conn m.cache) p) (sym c.in_ok-peer.ensures.ok) new) in (
      next.1,
      pushes g.S.VersionStore.holds m c.args.self.now _ c.unwrap_or-number.result (new_conn m.cache) c.in_ok-peer.peer shows next.0 refl refl refl c.in_ok-push.ensures.items
          (c.in_ok-reserve.ensures.room taken next.2 (omega (arith, long, length-map c.args.self.now.peers.items is_some))) slot,
    )
