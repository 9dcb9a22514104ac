use Rattle.std.proofs.Common.{◌∙◌, ap, not, sym, subst}
use Rattle.rtr_world.specs.SideShown.{AloneAt}
use Rattle.rtr_world.specs.World as model
use Rattle.rtr_world.proofs.Moving.{ended_told}
use Rattle.rtr_world.proofs.side.Side.tell_ended.Goals as goal

pub returns-then-not-has_bytes : goal.returns-then-not-has_bytes
returns-then-not-has_bytes c = λ w at s h.
    subst (λ t. AloneAt w at t c.args.self.now c.tell_closed.new.self)
    (sym (ended_told (model.instances w) s s.router.link s.router.out (sym (c.has_ended.ensures s.router h.router) ∙ c.if-has_ended.true) (c.has_bytes.ensures s.router h.router ∙ ap not c.if-not-has_bytes.true)))
    (c.tell_closed.ensures w at s h)
