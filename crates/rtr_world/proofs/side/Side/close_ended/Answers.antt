use Rattle.rtr_world.proofs.Words.{◌≡◌, ◌⊎◌, false, ◌∙◌, inl, inr, refl, subst, sym, is_none}
use Rattle.rtr_world.specs.SideShown.{Moves}
use Rattle.rtr_world.proofs.Moving.{alone, conn_ended, conn_goes_on, ended_at, none_due, on_conn, open_at, some_due}
use Rattle.rtr_world.proofs.side.Side.close_ended.Goals as goal
use Rattle.rtr_world.proofs.side.Side.close_ended.Goals.{else-not-is_open-via-then-not-is_open+else-not-has_bytes, else-not-is_open-via-else-not-is_open}

pub returns-then-not-has_bytes : goal.returns-then-not-has_bytes
returns-then-not-has_bytes c = λ w at s h.
    let there = on_conn at c.args.self.now.conn s.conn c.in-Some.conn c.in-Some.is h.side.conn in
    let ended = ended_at _ there.conn there.at_is (sym (c.is_open.ensures _ h.serves) ∙ c.if-not-is_open.true) in
    let none = none_due _ there.conn there.at_is (sym (c.has_bytes.ensures _ h.serves) ∙ c.if-not-has_bytes.true) in
    subst (λ t. Moves w at c.args.self.now.conn t c.close.new.cache c.close.new.self) (sym (conn_ended s s.conn there.conn there.is ended none)) (c.close.ensures w at s h)

pub returns-else-not-is_open : goal.returns-else-not-is_open
returns-else-not-is_open c = λ w at s h.
    let there = on_conn at c.args.self.now.conn s.conn c.in-Some.conn c.in-Some.is h.side.conn in
    let goes_on : (there.conn.state.ended ≡ false) ⊎ (is_none there.conn.state.due ≡ false) = elim c.else-not-is_open.branch [
      | else-not-is_open-via-then-not-is_open+else-not-has_bytes b ↦ inr (some_due _ there.conn there.at_is (sym (b.has_bytes.ensures _ h.serves) ∙ b.if-not-has_bytes.false))
      | else-not-is_open-via-else-not-is_open b ↦ inl (open_at _ there.conn there.at_is (sym (c.is_open.ensures _ h.serves) ∙ b.if-not-is_open.false))
    ] in
    subst (λ t. Moves w at c.args.self.now.conn t c.args.cache.now c.args.self.now) (sym (conn_goes_on s s.conn there.conn there.is goes_on))
    (alone w at s s _ _ _ h (record { shows = h.side; conn = refl }))
