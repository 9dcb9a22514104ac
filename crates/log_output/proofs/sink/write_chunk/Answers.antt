use Rattle.std.proofs.Common.{take, sym, ◌∙◌, inr}
use Rattle.std.proofs.KnownBytes.{Keeps-trans}
use Rattle.log_output.proofs.Writes.{fails, kept_appends, took}
use Rattle.log_output.proofs.sink.write_chunk.Goals as goal

pub returns-in-Ok : goal.returns-in-Ok
returns-in-Ok g c =
    took c.in-Ok.count c.room-room.result c.args.buffer.now c.consume.new.self c.chunk.result.now _ _ _ c.chunk.ensures c.in-Ok.ensures.within c.consume.ensures
    (kept_appends _ _ _ (take c.in-Ok.count c.chunk.result.now) c.room-room.ensures.keeps c.in-Ok.ensures.writes) c.in-Ok.ensures.answers

pub returns-then-not-is_pause : goal.returns-then-not-is_pause
returns-then-not-is_pause g c =
    let fails_so = sym c.is_pause.ensures ∙ c.if-not-is_pause.true in
    inr (fails c.args.buffer.now c.give_up.new.self _ _ _ (Keeps-trans _ _ _ c.room-room.ensures.keeps c.in-Err.ensures.writes) c.give_up.ensures (rw fails_so at c.in-Err.ensures.answers))
