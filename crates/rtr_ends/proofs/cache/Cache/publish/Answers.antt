use Rattle.rtr_ends.proofs.Words.{map, Global, Ok, subst, refl, Rc, Publishes, VrpSet, Published, New}
use Rattle.rtr_ends.proofs.CacheStateLaws.{all_same, publishes}
use Rattle.rtr_ends.proofs.cache.Cache.publish.Goals as goal

pub returns-in-New : goal.returns-in-New
returns-in-New g c = λ m shows.
    let P : Published → Type 0 = λ p. Publishes (g.S.VersionStore.holds m.keep) (Ok p) c.in_ok-set.set.value m.cache c.publish.new.self in
    let Q : VrpSet → Type 0 = λ s. Publishes (g.S.VersionStore.holds m.keep) (Ok (New c.in-New.serial)) s m.cache c.publish.new.self in
    let told : Publishes (g.S.VersionStore.holds m.keep) (Ok (New c.in-New.serial)) c.args.set m.cache c.publish.new.self =
    subst Q c.in_ok-set.ensures.ok (subst P c.in-New.is (c.in_ok-publish.ensures m.keep m.cache shows.store)) in
    let all = all_same (map (λ (share : Rc VrpSet Global). share.value) c.in_ok-shares.shares.items) c.in_ok-set.set.value c.args.set c.in_ok-set.ensures.ok c.in_ok-shares.ensures.1 in (
      publishes g.S.VersionStore.holds m c.args.self.now _ c.args.set c.in-New.serial.0 shows refl refl told.0 told.1 told.2 (c.hand_out.ensures.1 c.args.set all) c.hand_out.ensures.0 refl,
      told.1,
      told.2,
    )
