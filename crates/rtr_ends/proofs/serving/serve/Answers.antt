use Rattle.rtr_ends.proofs.Words.{◌∙◌, sym, arith, take, length-take-le, was_counted}
use Rattle.rtr_ends.proofs.ServeStreamLaws as laws
use Rattle.rtr_ends.proofs.serving.serve.Goals as goal

pub returns-in-Ok-eq0-clause-serves : goal.returns-in-Ok-eq0-clause-serves
returns-in-Ok-eq0-clause-serves g c m stands =
    let w = c.loop-turn.invariant.waits m stands in
    let one = was_counted c.in-Ok-eq0.ensures.counted c.in-Ok-eq0.ensures.spent in
    laws.input_ends g.S.VersionStore.holds m c.args.conn.0 _ _ _ _ _ c.loop-turn.cache w _ c.end_of_input.result c.in-Ok-eq0.field-0 _ c.read.new.buf c.in-Ok-eq0.field-0-test (omega (arith, one.0, c.loop-turn.invariant.reads))
    (omega (arith, c.read.auto.buf, c.loop-turn.invariant.buffer)) c.in-Ok-eq0.ensures.bytes c.end_of_input.ensures.within

pub returns-in-Err-answer-clause-serves : goal.returns-in-Err-answer-clause-serves
returns-in-Err-answer-clause-serves g c m stands =
    let w = c.loop-turn.invariant.waits m stands in
    let one = was_counted c.in-Ok.ensures.counted c.in-Ok.ensures.spent in
    let l = length-take-le c.in-Ok.n c.read.new.buf c.in-Ok.ensures.bound.0 in
    laws.fails_there g.S.VersionStore.holds m c.args.conn.0 _ _ _ _ _ c.loop-turn.cache w (take c.in-Ok.n c.read.new.buf) _ _ c.answer.new.cache (omega (arith, l, c.in-Ok.ensures.bound.0, c.read.auto.buf, c.loop-turn.invariant.buffer)) c.in-Ok.ensures.bytes.0
    _ (omega (arith, one.0, c.loop-turn.invariant.reads)) c.in-Err-answer.field-0 (c.in-Err-answer.ensures.answers m w.calls w.turns w.stands)

pub returns-then-not-is_open-clause-serves : goal.returns-then-not-is_open-clause-serves
returns-then-not-is_open-clause-serves g c m stands =
    let w = c.loop-turn.invariant.waits m stands in
    let one = was_counted c.in-Ok.ensures.counted c.in-Ok.ensures.spent in
    let l = length-take-le c.in-Ok.n c.read.new.buf c.in-Ok.ensures.bound.0 in
    laws.ended_there g.S.VersionStore.holds m c.args.conn.0 _ _ _ _ _ c.loop-turn.cache w (take c.in-Ok.n c.read.new.buf) _ _ c.answer.new.cache (omega (arith, l, c.in-Ok.ensures.bound.0, c.read.auto.buf, c.loop-turn.invariant.buffer)) c.in-Ok.ensures.bytes.0
    _ (omega (arith, one.0, c.loop-turn.invariant.reads)) (c.in-Ok-answer.ensures.answers m w.calls w.turns w.stands) (λ x shows. sym c.if-not-is_open.true ∙ c.is_open.ensures x shows)

pub returns-in-Err-clause-serves : goal.returns-in-Err-clause-serves
returns-in-Err-clause-serves g c m stands =
    let w = c.loop-turn.invariant.waits m stands in
    let more = laws.not_less c.loop-turn.input c.read.new.self (λ n. (c.in-Err.ensures.counted n).0) c.in-Err.ensures.spent in
    laws.read_fails_there g.S.VersionStore.holds m c.args.conn.0 _ _ _ _ _ c.loop-turn.cache w _ _ c.in-Err.ensures.bytes (omega (arith, more, c.loop-turn.invariant.reads))

pub returns-clause-serves : goal.returns-clause-serves
returns-clause-serves g c m stands =
    laws.limit_there g.S.VersionStore.holds m c.args.conn.0 _ _ _ _ _ c.loop-turn.cache (c.loop-turn.invariant.waits m stands) _ (omega (arith, c.loop-turn.invariant.reads))

pub loop-turn-preserved : goal.loop-turn-preserved
loop-turn-preserved g c =
    let one = was_counted c.in-Ok.ensures.counted c.in-Ok.ensures.spent in
    let l = length-take-le c.in-Ok.n c.read.new.buf c.in-Ok.ensures.bound.0 in
    record {
      buffer = c.read.auto.buf ∙ c.loop-turn.invariant.buffer;
      room = c.answer.auto.room ∙ c.loop-turn.invariant.room;
      input_fails = omega (arith, one.1, c.loop-turn.invariant.input_fails);
      output_fails = c.in-Ok-answer.ensures.fails ∙ c.loop-turn.invariant.output_fails;
      reads = omega (arith, one.0, c.loop-turn.invariant.reads);
      waits = λ m stands.
          let w = c.loop-turn.invariant.waits m stands in
          laws.waits_on g.S.VersionStore.holds m c.args.conn.0 _ _ _ _ _ c.loop-turn.cache w (take c.in-Ok.n c.read.new.buf) _ _ c.answer.new.cache (omega (arith, l, c.in-Ok.ensures.bound.0, c.read.auto.buf, c.loop-turn.invariant.buffer)) c.in-Ok.ensures.bytes.0
          _ (omega arith) (c.in-Ok-answer.ensures.answers m w.calls w.turns w.stands) (λ x shows. sym c.if-not-is_open.false ∙ c.is_open.ensures x shows);
    }

pub returns-in-Ok-eq0-clause-reads : goal.returns-in-Ok-eq0-clause-reads
returns-in-Ok-eq0-clause-reads g c =
    let one = was_counted c.in-Ok-eq0.ensures.counted c.in-Ok-eq0.ensures.spent in
    laws.ends_in c.args.limit _ _ c.end_of_input.result c.end_of_input.ensures.either (omega (arith, one.0, c.loop-turn.invariant.reads)) (omega (arith, one.0, c.loop-turn.invariant.reads, c.loop-turn-test.true))
