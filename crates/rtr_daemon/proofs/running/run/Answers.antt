-- Each turn is one more. A turn whose wait fails is the last, and changes nothing.
use Rattle.std.proofs.Common.{◌≡◌, ◌+◌, arith, inl, inr, refl, suc, subst, sym}
use Rattle.std.proofs.lemmas.Result.{err_from_is_err_and}
use Rattle.rtr_daemon.specs.Due.{Turns}
use Rattle.rtr_daemon.specs.Running.{AreSeen, EndsRun}
use Rattle.rtr_daemon.proofs.running.run.Goals as goal

pub returns-in_err-reason-clause-goes : goal.returns-in_err-reason-clause-goes
returns-in_err-reason-clause-goes g c = (suc c.loop-turn.invariant.goes.0, (c.loop-turn.daemon.service, c.loop-turn.invariant.goes.1, c.turn.ensures.goes))

pub returns-in_err-reason-clause-turns : goal.returns-in_err-reason-clause-turns
returns-in_err-reason-clause-turns g c =
    let failed = c.in_err-reason.ensures.fails in
    let p = err_from_is_err_and c.from_residual.result c.from_residual.ensures.1 in (
      c.loop-turn._turn,
      c.loop-turn.daemon,
      c.loop-turn.invariant.turns,
      subst (λ r. EndsRun (Turns g.W.Disk.answers g.W.Sockets.calls g.W.Time.reads g.W.Time.can_be g.W.Time.can_tick g.S.VersionStore.holds g.T.Stream.remaining g.T.Stream.contents g.T.Stream.answers) g.W.Sockets.calls r c.loop-turn._turn c.loop-turn.daemon c.turn.new.self) (sym p.1) (failed.1, inl failed.0),
    )

pub returns-in-Some-clause-goes : goal.returns-in-Some-clause-goes
returns-in-Some-clause-goes g c = (suc c.loop-turn.invariant.goes.0, (c.loop-turn.daemon.service, c.loop-turn.invariant.goes.1, c.turn.ensures.goes))

pub returns-in-Some-clause-turns : goal.returns-in-Some-clause-turns
returns-in-Some-clause-turns g c = (c.loop-turn._turn, c.loop-turn.daemon, c.loop-turn.invariant.turns, (c.loop-turn.env, c.in_ok-reason.ensures.turn))

pub loop-turn-preserved : goal.loop-turn-preserved
loop-turn-preserved g c =
    let more : suc c.loop-turn._turn ≡ c.loop-turn._turn + 1 = omega arith in
    record {
      goes = (suc c.loop-turn.invariant.goes.0, (c.loop-turn.daemon.service, c.loop-turn.invariant.goes.1, c.turn.ensures.goes));
      turns =
          subst (λ n. AreSeen (Turns g.W.Disk.answers g.W.Sockets.calls g.W.Time.reads g.W.Time.can_be g.W.Time.can_tick g.S.VersionStore.holds g.T.Stream.remaining g.T.Stream.contents g.T.Stream.answers) g.A.AfterTurn.sees n c.args.daemon.now c.args.after.now c.turn.new.self c.after_turn.new.self) more
          (c.loop-turn.daemon, c.loop-turn.after, c.loop-turn.invariant.turns, (c.loop-turn.env, c.in_ok-reason.ensures.turn), c.after_turn.ensures);
      comes = λ before. c.turn.ensures.comes (c.loop-turn.invariant.comes before);
    }

pub returns-clause-turns : goal.returns-clause-turns
returns-clause-turns g c =
    let all : c.loop-turn._turn ≡ 18446744073709551615 = omega (arith, c.loop-turn-test.false, c.loop-turn.auto._turn-end) in
    (c.loop-turn._turn, c.loop-turn.daemon, c.loop-turn.invariant.turns, (refl, inr all))
