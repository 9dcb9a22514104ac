use Rattle.rtr_world.proofs.Words.{◌∙◌, [], ap, sym, subst, is_none}
use Rattle.rtr_world.specs.SideShown.{Moves}
use Rattle.rtr_world.proofs.Moving.{rest_closed}
use Rattle.rtr_world.proofs.side.Side.drop_rest.Goals as goal

pub returns-then-is_empty : goal.returns-then-is_empty
returns-then-is_empty c = λ w at s h.
    let closed = sym (c.is_closed.ensures s.router h.side.router) ∙ c.if-not-is_closed.false in
    let none = sym (c.is_empty.ensures ∙ ap is_none h.side.up) ∙ c.if-is_empty.true in
    subst (λ t. Moves w at c.args.self.now.conn t c.close.new.cache c.close.new.self) (sym (rest_closed s s.router.link s.up closed none))
    (c.close.ensures w at (record s { down = [] }) (record {
      serves = h.serves;
      side = record { router = h.side.router; conn = h.side.conn; up = h.side.up; down = c.clear.ensures; made = h.side.made; made_to = h.side.made_to };
    }))
