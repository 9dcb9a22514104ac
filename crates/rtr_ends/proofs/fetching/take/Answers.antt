use Rattle.rtr_ends.proofs.Words.{length, refl, ◌∙◌, ap, arith, length-drop, take_rest, err_from_is_err_and, AreBytes-drop}
use Rattle.rtr_ends.proofs.FetchStreamLaws as laws
use Rattle.rtr_ends.proofs.fetching.take.Goals as goal

pub loop-room-init : goal.loop-room-init
loop-room-init g c = record {
  room = refl;
  within = omega arith;
  fails = refl;
  part = λ calls leads. laws.starts c.args.now calls _ c.args.router.now leads;
}

pub loop-room-preserved-in-Continue-1 : goal.loop-room-preserved-in-Continue-1
loop-room-preserved-in-Continue-1 g c = record {
  room = c.pull-ready.auto.room ∙ c.loop-room.invariant.room;
  within = c.loop-room.invariant.within;
  fails = c.in_ok-write_bytes.ensures.ok.1 ∙ c.loop-room.invariant.fails;
  part = λ calls leads.
      laws.pulls_more c.args.now calls _ _ c.loop-room.router _ (c.loop-room.invariant.part calls leads) c.loop-room.room c.pull-ready.new.room c.pull-ready.result _ c.pull-ready.new.self c.pull-ready.ensures.leads c.pull-ready.ensures.bytes
      c.in_ok-write_bytes.ensures.ok.0;
}

pub returns-in_err-write_bytes-clause-takes : goal.returns-in_err-write_bytes-clause-takes
returns-in_err-write_bytes-clause-takes g c = λ calls leads.
    let r = err_from_is_err_and c.from_residual.result c.from_residual.ensures.1 in
    rw (r.1)
    (laws.fails_at c.args.now calls _ _ c.loop-room.router c.pull-ready.new.self c.args.piece.now c.loop-room.room c.pull-ready.new.room c.loop-room.at c.pull-ready.result (c.loop-room.invariant.part calls leads) c.pull-ready.ensures.leads
    c.pull-ready.ensures.bytes _ r.0 c.in_err-write_bytes.ensures.err.0)

pub returns-then-taken-eq0-clause-takes : goal.returns-then-taken-eq0-clause-takes
returns-then-taken-eq0-clause-takes g c = λ calls leads.
    laws.takes_end c.args.now calls _ _ c.loop-room.router c.pull-ready.new.self c.args.piece.now c.loop-room.room c.pull-ready.new.room c.loop-room.at c.pull-ready.result (c.loop-room.invariant.part calls leads) c.pull-ready.ensures.leads
    c.pull-ready.ensures.bytes (omega (arith, c.if-ready-gt0.false)) (omega (arith, c.requires, c.loop-room.invariant.room)) _ c.receive-taken.result c.receive-taken.new.self (AreBytes-drop c.loop-room.at c.args.piece.now (λ i. omega (arith, c.type_inv.piece i)))
    (take_rest c.args.piece.now c.loop-room.at) c.receive-taken.ensures.shown c.if-taken-eq0.true

pub loop-room-preserved : goal.loop-room-preserved
loop-room-preserved g c = record {
  room = c.pull-ready.auto.room ∙ c.loop-room.invariant.room;
  within = (let l = length-drop c.loop-room.at c.args.piece.now in omega (arith, c.receive-taken.ensures.within, ap length (take_rest c.args.piece.now c.loop-room.at), l, c.loop-room.invariant.within));
  fails = c.loop-room.invariant.fails;
  part = λ calls leads.
      laws.takes_on c.args.now calls _ _ c.loop-room.router c.pull-ready.new.self c.args.piece.now c.loop-room.room c.pull-ready.new.room c.loop-room.at c.pull-ready.result (c.loop-room.invariant.part calls leads) c.pull-ready.ensures.leads
      c.pull-ready.ensures.bytes (omega (arith, c.if-ready-gt0.false)) (omega (arith, c.requires, c.loop-room.invariant.room)) _ c.receive-taken.result c.receive-taken.new.self (AreBytes-drop c.loop-room.at c.args.piece.now (λ i. omega (arith, c.type_inv.piece i)))
      (take_rest c.args.piece.now c.loop-room.at) c.receive-taken.ensures.shown;
}
