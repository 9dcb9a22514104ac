use Rattle.rtr_ends.proofs.Words.{[], refl, ◌+◌, ◌∙◌, arith, take, Consumes-nil, length-take-le, was_counted}
use Rattle.rtr_ends.proofs.FetchStreamLaws as laws
use Rattle.rtr_ends.proofs.ServeStreamLaws.{not_less}
use Rattle.rtr_ends.proofs.fetching.fetch.Goals as goal

pub returns-in-Err-clause-fetches : goal.returns-in-Err-clause-fetches
returns-in-Err-clause-fetches g c calls leads =
    laws.fails_there c.args.now calls _ _ _ 0 _ c.args.router.now (laws.pends_first c.args.now calls _ _ c.args.router.now leads) [] _ _ c.take.new.router _ (Consumes-nil _) (omega arith) (omega arith) c.in-Err.field-0 (c.in-Err.ensures.takes _ leads)

pub loop-turn-init : goal.loop-turn-init
loop-turn-init g c = record {
  buffer = refl;
  room = c.take.auto.room;
  input_fails = refl;
  output_fails = c.in-Ok.ensures.fails;
  reads = omega arith;
  awaits = λ calls leads.
      laws.awaits_on c.args.now calls _ _ _ 0 _ c.args.router.now (laws.pends_first c.args.now calls _ _ c.args.router.now leads) [] _ _ c.take.new.router 0 (Consumes-nil _) (omega arith) (omega arith) (c.in-Ok.ensures.takes _ leads);
}

pub returns-in-Some-clause-fetches : goal.returns-in-Some-clause-fetches
returns-in-Some-clause-fetches g c calls leads =
    laws.reached_there c.args.now calls _ _ _ _ _ c.loop-turn.router (c.loop-turn.invariant.awaits calls leads) _ c.in-Some.fetched (omega (arith, c.loop-turn.invariant.reads)) c.in-Some.ensures.is

pub returns-in-Some-reached-clause-fetches : goal.returns-in-Some-reached-clause-fetches
returns-in-Some-reached-clause-fetches g c calls leads =
    laws.reached_there c.args.now calls _ _ _ _ _ c.loop-turn.router (c.loop-turn.invariant.awaits calls leads) _ c.in-Some-reached.fetched (omega (arith, c.loop-turn.invariant.reads)) c.in-Some-reached.ensures.is

pub returns-in-None-reached-clause-fetches : goal.returns-in-None-reached-clause-fetches
returns-in-None-reached-clause-fetches g c calls leads =
    laws.limit_there c.args.now calls _ _ _ _ _ c.loop-turn.router (c.loop-turn.invariant.awaits calls leads) c.in-None-reached.ensures.is _ (omega (arith, c.loop-turn.invariant.reads))

pub returns-in-Ok-eq0-clause-fetches : goal.returns-in-Ok-eq0-clause-fetches
returns-in-Ok-eq0-clause-fetches g c calls leads =
    let one = was_counted c.in-Ok-eq0.ensures.counted c.in-Ok-eq0.ensures.spent in
    laws.input_ends c.args.now calls _ _ _ _ _ c.loop-turn.router (c.loop-turn.invariant.awaits calls leads) c.in-None.ensures.is _ c.in-Ok-eq0.field-0 _ c.read.new.buf c.in-Ok-eq0.field-0-test
    (omega (arith, one.0, c.loop-turn.invariant.reads)) (omega (arith, c.read.auto.buf, c.loop-turn.invariant.buffer)) c.in-Ok-eq0.ensures.bytes

pub returns-in-Err-read-clause-fetches : goal.returns-in-Err-read-clause-fetches
returns-in-Err-read-clause-fetches g c calls leads =
    let more = not_less c.loop-turn.input c.read.new.self (λ n. (c.in-Err-read.ensures.counted n).0) c.in-Err-read.ensures.spent in
    laws.read_fails_there c.args.now calls _ _ _ _ _ c.loop-turn.router (c.loop-turn.invariant.awaits calls leads) c.in-None.ensures.is _ _ c.in-Err-read.ensures.bytes (omega (arith, more, c.loop-turn.invariant.reads))

pub returns-in-Err-take-clause-fetches : goal.returns-in-Err-take-clause-fetches
returns-in-Err-take-clause-fetches g c calls leads =
    let one = was_counted c.in-Ok-read.ensures.counted c.in-Ok-read.ensures.spent in
    let l = length-take-le c.in-Ok-read.n c.read.new.buf c.in-Ok-read.ensures.bound.0 in
    let w = laws.pends c.args.now calls _ _ _ _ _ c.loop-turn.router (c.loop-turn.invariant.awaits calls leads) c.in-None.ensures.is in
    laws.fails_there c.args.now calls _ _ _ c.loop-turn._turn _ c.loop-turn.router w (take c.in-Ok-read.n c.read.new.buf) _ _ c.take-in-Ok-read.new.router _ c.in-Ok-read.ensures.bytes.0 (omega (arith, one.0, c.loop-turn.invariant.reads))
    (omega (arith, one.0, c.loop-turn.invariant.reads, l, c.in-Ok-read.ensures.bound.0, c.read.auto.buf, c.loop-turn.invariant.buffer)) c.in-Err-take.field-0 (c.in-Err-take.ensures.takes _ w.leads)

pub loop-turn-preserved : goal.loop-turn-preserved
loop-turn-preserved g c =
    let one = was_counted c.in-Ok-read.ensures.counted c.in-Ok-read.ensures.spent in
    let l = length-take-le c.in-Ok-read.n c.read.new.buf c.in-Ok-read.ensures.bound.0 in
    record {
      buffer = c.read.auto.buf ∙ c.loop-turn.invariant.buffer;
      room = c.take-in-Ok-read.auto.room ∙ c.loop-turn.invariant.room;
      input_fails = omega (arith, one.1, c.loop-turn.invariant.input_fails);
      output_fails = c.in-Ok-take.ensures.fails ∙ c.loop-turn.invariant.output_fails;
      reads = omega (arith, one.0, c.loop-turn.invariant.reads);
      awaits = λ calls leads.
          let w = laws.pends c.args.now calls _ _ _ _ _ c.loop-turn.router (c.loop-turn.invariant.awaits calls leads) c.in-None.ensures.is in
          laws.awaits_on c.args.now calls _ _ _ c.loop-turn._turn _ c.loop-turn.router w (take c.in-Ok-read.n c.read.new.buf) _ _ c.take-in-Ok-read.new.router (c.loop-turn._turn + 1) c.in-Ok-read.ensures.bytes.0 (omega arith)
          (omega (arith, l, c.in-Ok-read.ensures.bound.0, c.read.auto.buf, c.loop-turn.invariant.buffer)) (c.in-Ok-take.ensures.takes _ w.leads);
    }
