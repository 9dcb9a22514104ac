use Rattle.rtr_world.proofs.Words.{◌∙◌, refl, subst, sym, err_from_is_err_and, HoldsSteps, Publishes, ShowsCache}
use Rattle.rtr_world.specs.SideShown.{state_of}
use Rattle.rtr_world.proofs.Publishing.{publish_fails, publishes_new, publishes_nothing, refuses_more}
use Rattle.rtr_world.proofs.world.World.publish.Goals as goal

pub returns-then-is_current : goal.returns-then-is_current
returns-then-is_current c = λ w reached h. publishes_nothing w c.args.self.now c.args.set.now reached h c.len-size.ensures.set (sym (c.is_current.ensures w h) ∙ c.if-is_current.true)

pub returns-then-not-has_room : goal.returns-then-not-has_room
returns-then-not-has_room c = λ w reached h.
    refuses_more w c.args.self.now c.args.set.now h c.len-size.ensures.set (sym (c.is_current.ensures w h) ∙ c.if-is_current.false) (sym (c.has_room.ensures w reached h) ∙ c.if-not-has_room.true)

pub returns-in_err-set : goal.returns-in_err-set
returns-in_err-set c = λ w reached h.
    let p = err_from_is_err_and c.from_residual.result c.from_residual.ensures.1 in
    rw (p.1, p.2) (publish_fails w c.args.self.now _ c.args.set.now h c.len-size.ensures.set (sym (c.has_room.ensures w reached h) ∙ c.if-not-has_room.false) refl h.parts.serves)

pub returns-in_err-_published : goal.returns-in_err-_published
returns-in_err-_published c = λ w reached h.
    let p = err_from_is_err_and c.from_residual-in_err-_published.result c.from_residual-in_err-_published.ensures.1 in
    rw (p.1, p.2) (publish_fails w c.args.self.now _ c.args.set.now h c.len-size.ensures.set (sym (c.has_room.ensures w reached h) ∙ c.if-not-has_room.false) refl
    (subst (λ r. Publishes (λ i cache. ShowsCache HoldsSteps (record (state_of w h.at) { cache = i }) cache) r c.in_ok-set.set w.present c.publish.new.self) c.in_err-_published.was (c.publish.ensures _ h.parts.serves)))

pub returns : goal.returns
returns c = λ w reached h.
    publishes_new w c.args.self.now _ c.args.set.now c.publish.result c.in_ok-_published._published reached h c.len-size.ensures.set (sym (c.is_current.ensures w h) ∙ c.if-is_current.false) (sym (c.has_room.ensures w reached h) ∙ c.if-not-has_room.false) refl
    c.in_ok-_published.was (subst (λ s. Publishes (λ i cache. ShowsCache HoldsSteps (record (state_of w h.at) { cache = i }) cache) c.publish.result s w.present c.publish.new.self) c.in_ok-set.ensures (c.publish.ensures _ h.parts.serves))
