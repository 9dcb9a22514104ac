use Rattle.std.proofs.Common.{arith, inl, ◌≡◌}
use Rattle.log_output.proofs.Writes.{ends, some_on, writes_none}
use Rattle.log_output.proofs.buffer.LogBuffer.write_to.Goals as goal

pub loop-turn-init : goal.loop-turn-init
loop-turn-init g c = writes_none _ _

pub returns-then-not-write_chunk : goal.returns-then-not-write_chunk
returns-then-not-write_chunk g c = ends c.loop-turn._turn 4096 _ c.loop-turn.self _ _ _ _ _ c.loop-turn.invariant (rw c.if-not-write_chunk.true at c.write_chunk.ensures)

pub loop-turn-preserved : goal.loop-turn-preserved
loop-turn-preserved g c = some_on c.loop-turn._turn 1 _ c.loop-turn.self _ _ _ _ c.loop-turn.invariant (rw c.if-not-write_chunk.false at c.write_chunk.ensures)

pub returns : goal.returns
returns g c =
    let all : c.loop-turn._turn ≡ 4096 = omega (arith, c.loop-turn-test.false, c.loop-turn.auto._turn-end) in
    inl (rw all at c.loop-turn.invariant)
