use Rattle.rtr_world.proofs.Words.{◌∙◌, ◌≡◌, ap, false, not, sym, true, err_from_is_err_and}
use Rattle.rtr_world.proofs.CaughtUpLaws.{and_again, failed_once, is_named, just_once}
use Rattle.rtr_world.proofs.world.World.reconnect_as_told.Goals as goal
use Rattle.rtr_world.proofs.world.World.reconnect_as_told.Goals.{else-held-via-then-held+else-is_none, else-held-via-else-held}

pub returns-in_err-reconnect : goal.returns-in_err-reconnect
returns-in_err-reconnect c = λ made history l s found.
    rw (err_from_is_err_and c.from_residual.result c.from_residual.ensures.1).1 (failed_once made history c.args.router s c.reconnect.new.self c.reconnect.result (c.reconnect.ensures made history l s found) _ _ c.in_err-reconnect.was)

pub returns-then-is_none : goal.returns-then-is_none
returns-then-is_none c = λ made history l s found.
    and_again made history c.args.router s c.reconnect.new.self c.reconnect.result (c.reconnect.ensures made history l s found) c.in_ok-reconnect.was
    (λ x y shows there. is_named c.args.router x y there _ c.committed-then-held.result (c.committed-then-held.ensures x shows) ∙ c.is_none.ensures ∙ ap not c.if-is_none.true)
    c.reconnect-then-is_none.result c.reconnect-then-is_none.new.self (c.reconnect-then-is_none.ensures made)

pub returns : goal.returns
returns c = λ made history l s found.
    just_once made history c.args.router s c.reconnect.new.self c.reconnect.result (c.reconnect.ensures made history l s found) c.in_ok-reconnect.was (λ x y shows there some. elim c.else-held.branch [
      | else-held-via-then-held+else-is_none w ↦ is_named c.args.router x y there _ w.committed-then-held.result (w.committed-then-held.ensures x shows) ∙ w.is_none.ensures ∙ ap not w.if-is_none.false
      | else-held-via-else-held w ↦ absurd (let k : true ≡ false = sym some ∙ is_named c.args.router l.world s found _ c.committed.result (c.committed.ensures l.world l.shows) ∙ sym c.is_some-held.ensures ∙ w.if-held.false in cc)
    ])
