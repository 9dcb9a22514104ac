use Rattle.rtr_world.proofs.Words.{◌∙◌, ap, sym, is_none}
use Rattle.rtr_world.proofs.Moving.{is_no_conn, no_conn, tells_cut}
use Rattle.rtr_world.proofs.side.Side.tell_cut.Goals as goal

pub returns-then-is_empty : goal.returns-then-is_empty
returns-then-is_empty c = λ w at s h.
    let cut = no_conn at c.args.self.now.conn s.conn (is_no_conn c.args.self.now.conn c.is_none.result c.is_none.ensures c.if-is_none.true) h.conn in
    let none = sym (c.is_empty.ensures ∙ ap is_none h.down) ∙ c.if-is_empty.true in
    tells_cut w at s _ _ _ (c.tell_closed.ensures w at s h) cut none c.clear.ensures
