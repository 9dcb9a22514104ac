use Rattle.rtr_ends.proofs.Words.{length, ◌∙◌, ap, arith, length-drop, length-take-le, take_rest, err_from_is_err_and, AreBytes-drop}
use Rattle.rtr_ends.proofs.ServeStreamLaws as laws
use Rattle.rtr_ends.proofs.serving.answer.Goals as goal

pub loop-room-smaller-in-Continue-1 : goal.loop-room-smaller-in-Continue-1
loop-room-smaller-in-Continue-1 g c =
    let l = length-take-le c.pull-ready.result c.pull-ready.new.out (omega (arith, c.pull-ready.ensures.within, c.pull-ready.auto.out)) in
    let more = c.in_ok-write_bytes.ensures.ok.2 (omega (arith, l, c.if-ready-gt0.true)) in
    omega (arith, more, c.in_ok-write_bytes.ensures.ok.3)

pub loop-room-preserved-in-Continue-1 : goal.loop-room-preserved-in-Continue-1
loop-room-preserved-in-Continue-1 g c = record {
  room = c.pull-ready.auto.out ∙ c.loop-room.invariant.room;
  within = c.loop-room.invariant.within;
  fails = c.in_ok-write_bytes.ensures.ok.1 ∙ c.loop-room.invariant.fails;
  partly = λ m calls turns stands.
      let p = c.loop-room.invariant.partly m calls turns stands in
      laws.pulls_more g.S.VersionStore.holds m c.args.conn.0 calls _ _ c.loop-room.cache _ p c.loop-room.room c.pull-ready.new.out c.pull-ready.result _ c.pull-ready.new.self (c.pull-ready.ensures.gives _ p.stands) c.in_ok-write_bytes.ensures.ok.0;
}

pub returns-in_err-write_bytes-clause-answers : goal.returns-in_err-write_bytes-clause-answers
returns-in_err-write_bytes-clause-answers g c = λ m calls turns stands.
    let p = c.loop-room.invariant.partly m calls turns stands in
    let r = err_from_is_err_and c.from_residual.result c.from_residual.ensures.1 in
    rw (r.1)
    (laws.fails_at g.S.VersionStore.holds m c.args.conn.0 calls _ _ _ c.loop-room.cache c.pull-ready.new.self c.args.piece.now c.loop-room.room c.pull-ready.new.out c.loop-room.at c.pull-ready.result r.0 p (c.pull-ready.ensures.gives _ p.stands)
    c.in_err-write_bytes.ensures.err.0)

pub returns-then-taken-eq0-clause-answers : goal.returns-then-taken-eq0-clause-answers
returns-then-taken-eq0-clause-answers g c = λ m calls turns stands.
    let p = c.loop-room.invariant.partly m calls turns stands in
    laws.answers_end g.S.VersionStore.holds m c.args.conn.0 calls _ _ c.loop-room.cache c.pull-ready.new.self c.receive-taken.new.self c.args.piece.now _ c.loop-room.room c.pull-ready.new.out c.loop-room.at c.pull-ready.result c.receive-taken.result p
    (c.pull-ready.ensures.gives _ p.stands) (omega (arith, c.if-ready-gt0.false)) (omega (arith, c.requires, c.loop-room.invariant.room)) (AreBytes-drop c.loop-room.at c.args.piece.now (λ i. omega (arith, c.type_inv.piece i)))
    (take_rest c.args.piece.now c.loop-room.at) c.receive-taken.ensures.takes c.if-taken-eq0.true

pub loop-room-preserved : goal.loop-room-preserved
loop-room-preserved g c = record {
  room = c.pull-ready.auto.out ∙ c.loop-room.invariant.room;
  within = (let l = length-drop c.loop-room.at c.args.piece.now in omega (arith, c.receive-taken.ensures.within, ap length (take_rest c.args.piece.now c.loop-room.at), l, c.loop-room.invariant.within));
  fails = c.loop-room.invariant.fails;
  partly = λ m calls turns stands.
      let p = c.loop-room.invariant.partly m calls turns stands in
      laws.answers_on g.S.VersionStore.holds m c.args.conn.0 calls _ _ c.loop-room.cache c.pull-ready.new.self c.receive-taken.new.self c.args.piece.now _ c.loop-room.room c.pull-ready.new.out c.loop-room.at c.pull-ready.result c.receive-taken.result p
      (c.pull-ready.ensures.gives _ p.stands) (omega (arith, c.if-ready-gt0.false)) (omega (arith, c.requires, c.loop-room.invariant.room)) (AreBytes-drop c.loop-room.at c.args.piece.now (λ i. omega (arith, c.type_inv.piece i)))
      (take_rest c.args.piece.now c.loop-room.at) c.receive-taken.ensures.takes;
}
