use Rattle.rtr_world.proofs.Words.{◌++◌, ◌∷◌, [], None, false, true, ◌∙◌, ap, refl, subst, sym, err_from_is_err_and, HoldsSteps, ShowsCache, without_conns, Intervals}
use Rattle.rtr_world.specs.Reached.{LoseAll}
use Rattle.rtr_world.specs.declared.world.World as code
use Rattle.rtr_world.proofs.Restarting.{gone_parts, pushed, restart_fails, restarted, restarts, session_used}
use Rattle.rtr_world.proofs.WorldSteps.{begun}
use Rattle.rtr_world.proofs.world.World.restart.Goals as goal

pub returns-then-is_used : goal.returns-then-is_used
returns-then-is_used c = λ w reached h.
    session_used w c.args.self.now c.args.session c.args.session0 c.args.start h c.ranges.session.fits c.ranges.session0.fits c.ranges.start.fits (sym (h.rest.used c.args.session c.args.session0) ∙ sym c.is_used.ensures ∙ c.if-is_used.true)

pub returns-in_err-store : goal.returns-in_err-store
returns-in_err-store c = λ w reached h.
    let p = err_from_is_err_and c.from_residual.result c.from_residual.ensures.1 in
    rw (p.1, p.2) (restart_fails w c.args.self.now _ c.args.session c.args.session0 c.args.start h c.ranges.session.fits c.ranges.session0.fits c.ranges.start.fits (sym (h.rest.used c.args.session c.args.session0) ∙ sym c.is_used.ensures ∙ c.if-is_used.false) refl refl)

pub returns-then-is_err : goal.returns-then-is_err
returns-then-is_err c = λ w reached h.
    restart_fails w c.args.self.now _ c.args.session c.args.session0 c.args.start h c.ranges.session.fits c.ranges.session0.fits c.ranges.start.fits (sym (h.rest.used c.args.session c.args.session0) ∙ sym c.is_used.ensures ∙ c.if-is_used.false)
    (ap (λ (x : code.World). record x { sessions = c.push.new.self }) c.self.view_is) (pushed c.push.result true _ _ _ (sym c.is_err.ensures.value ∙ c.if-is_err.true) c.push.ensures.items ∙ ap (λ (x : code.World). x.sessions.items) c.self.view_is)

pub returns : goal.returns
returns c = λ w reached h.
    let free = sym (h.rest.used c.args.session c.args.session0) ∙ sym c.is_used.ensures ∙ c.if-is_used.false in
    let sides = ap (λ (x : code.World). x.sides.items) c.self.view_is in
    let i = begun c.args.session c.args.session0 c.args.start in
    let serves = subst (λ (t : Intervals). ShowsCache HoldsSteps (without_conns w.keep t i) c.new_both.result) c.default.ensures (c.new_both.ensures w.keep i (subst (λ keep. HoldsSteps keep i c.in_ok-store.store) (ap (λ (x : code.World). x.keep) c.self.view_is ∙ h.rest.keep) (c.in_ok-store.ensures c.args.session0)) refl) in
    restarts w c.args.self.now _ c.args.session c.args.session0 c.args.start h c.ranges.session.fits c.ranges.session0.fits c.ranges.start.fits free (ap (λ (x : code.World). x.keep) c.self.view_is)
    (pushed c.push.result false _ _ _ (sym c.is_err.ensures.value ∙ c.if-is_err.false) c.push.ensures.items ∙ ap (λ (x : code.World). x.sessions.items ++ record { v0 = c.args.session0; v1 = c.args.session } ∷ []) c.self.view_is) refl refl
    (c.settle_all.ensures (restarted w c.args.session c.args.session0 c.args.start) (λ d. None) (gone_parts w c.args.session c.args.session0 c.args.start h.at c.args.self.now.cache _ c.args.self.now.sides.items c.lose_caches.new.sides.items free h.parts
    (subst (λ l. LoseAll l c.lose_caches.new.sides.items) sides c.lose_caches.ensures) serves))
