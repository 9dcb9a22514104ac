use Rattle.rtr_world.proofs.Words.{◌≡◌, Err, Result, ⊤, ◌∙◌, arith, refl, sym}
use Rattle.rtr_world.specs.declared.event.CatchFault.{CatchFault}
use Rattle.rtr_world.specs.declared.event.CatchFault.TheVariants.{Memory, NoSuchRouter}
use Rattle.rtr_world.proofs.CaughtUpLaws.{ends_so, fails_so, no_error, no_router}
use Rattle.rtr_world.proofs.Showing.{shown_length}
use Rattle.rtr_world.proofs.world.World.catch_up.Goals as goal

pub returns-then-from-len-clause-caught : goal.returns-then-from-len-clause-caught
returns-then-from-len-clause-caught c = λ made history l.
    let len = shown_length l.world l.shows.at _ _ l.shows.parts in
    no_router made history c.args.router c.args.self.now l (omega (arith, len, c.if-from-len.true, c.len.ensures, c.from.ensures, c.args.self.now.sides.ok.0))

pub returns-then-from-len-clause-no_such : goal.returns-then-from-len-clause-no_such
returns-then-from-len-clause-no_such c = λ made history l.
    let len = shown_length l.world l.shows.at _ _ l.shows.parts in
    (λ e. omega (arith, len, c.if-from-len.true, c.len.ensures, c.from.ensures, c.args.self.now.sides.ok.0), λ high. refl)

pub returns-then-is_err-clause-caught : goal.returns-then-is_err-clause-caught
returns-then-is_err-clause-caught c = λ made history l.
    fails_so made history c.args.router c.args.self.now l c.on-cut.new.self c.on-cut.result c.on-cut.ensures (omega (arith, c.if-from-len.false, c.len.ensures, c.from.ensures, c.args.self.now.sides.ok.0)) c.reconnect_as_told.new.self c.reconnect_as_told.result (c.reconnect_as_told.ensures made)
    (sym c.is_err.ensures.value ∙ c.if-is_err.true)

pub returns-then-is_err-clause-no_such : goal.returns-then-is_err-clause-no_such
returns-then-is_err-clause-no_such c = λ made history l.
    let len = shown_length l.world l.shows.at _ _ l.shows.parts in (
      λ e. absurd (let k : ◌≡◌ {A = Result ⊤ CatchFault} (Err Memory) (Err NoSuchRouter) = e in cc),
      λ high. absurd (omega (arith, len, high, c.if-from-len.false, c.len.ensures, c.from.ensures, c.args.self.now.sides.ok.0)),
    )

pub returns-clause-caught : goal.returns-clause-caught
returns-clause-caught c = λ made history l.
    ends_so made history c.args.router c.args.self.now l c.on-cut.new.self c.on-cut.result c.on-cut.ensures (omega (arith, c.if-from-len.false, c.len.ensures, c.from.ensures, c.args.self.now.sides.ok.0)) c.reconnect_as_told.new.self c.reconnect_as_told.result (c.reconnect_as_told.ensures made)
    c.conclude.new.self c.conclude.result (no_error c.reconnect_as_told.result (sym c.is_err.ensures.value ∙ c.if-is_err.false)) (c.conclude.ensures.concluded made)

pub returns-clause-no_such : goal.returns-clause-no_such
returns-clause-no_such c = λ made history l.
    let len = shown_length l.world l.shows.at _ _ l.shows.parts in (
      λ e. absurd (c.conclude.ensures.there e),
      λ high. absurd (omega (arith, len, high, c.if-from-len.false, c.len.ensures, c.from.ensures, c.args.self.now.sides.ok.0)),
    )
