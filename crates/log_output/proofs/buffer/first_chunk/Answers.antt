use Rattle.log_output.proofs.Chunks.{chunk_of}
use Rattle.log_output.proofs.buffer.first_chunk.Goals as goal

pub returns : goal.returns
returns c = chunk_of c.min.result c.args.most c.args.bytes.now c.min.ensures
