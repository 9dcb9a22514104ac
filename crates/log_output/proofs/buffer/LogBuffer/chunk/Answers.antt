use Rattle.std.proofs.Common.{sym, ◌∙◌}
use Rattle.log_output.proofs.Chunks.{chunk_before, chunk_behind}
use Rattle.log_output.proofs.buffer.LogBuffer.chunk.Goals as goal

pub returns-then-is_empty : goal.returns-then-is_empty
returns-then-is_empty c =
    rw (← c.self.view_is)
    (chunk_behind c.args.most c.as_slices.result.0.now c.as_slices.result.1.now c.self.inside.ring.items _ c.as_slices.ensures (sym c.is_empty.ensures ∙ c.if-is_empty.true) c.first_chunk.ensures)

pub returns : goal.returns
returns c =
    rw (← c.self.view_is)
    (chunk_before c.args.most c.as_slices.result.0.now c.as_slices.result.1.now c.self.inside.ring.items _ c.as_slices.ensures (sym c.is_empty.ensures ∙ c.if-is_empty.false) c.first_chunk-2.ensures)
