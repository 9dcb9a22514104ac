use Rattle.std.proofs.Common.{◌∙◌, ap, sym, subst, None}
use Rattle.rtr_world.specs.SideShown.{ShowsSide}
use Rattle.rtr_world.specs.World as model
use Rattle.rtr_world.proofs.Moving.{tells_closed, tells_open}
use Rattle.rtr_world.proofs.side.Side.tell_closed.Goals as goal
use Rattle.rtr_world.proofs.side.Side.tell_closed.Goals.{then-not-is_closed, else-not-is_closed}

pub returns : goal.returns
returns c = λ w at s h. elim c.if-not-is_closed.branch [
  | then-not-is_closed b ↦ record {
    shows = subst (λ v. ShowsSide w at (model.tell_closed (model.instances w) s) (record v { made = None })) (sym b.self-is)
        (tells_open w at s c.args.self.now _ (sym (c.is_closed.ensures s.router h.router) ∙ b.if-not-is_closed.true) h (b.closed.ensures.calls s.router h.router));
    conn = ap (λ v. v.conn) b.self-is;
  }
  | else-not-is_closed b ↦ record {
    shows = subst (λ v. ShowsSide w at (model.tell_closed (model.instances w) s) (record v { made = None })) (sym b.self-is)
        (tells_closed w at s c.args.self.now (sym (c.is_closed.ensures s.router h.router) ∙ b.if-not-is_closed.false) h);
    conn = ap (λ v. v.conn) b.self-is;
  }
]
