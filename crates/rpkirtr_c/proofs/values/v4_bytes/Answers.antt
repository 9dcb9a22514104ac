use Rattle.rpkirtr_c.specs.Spelled.{v4_bytes}
use Rattle.rpkirtr_c.proofs.values.v4_bytes.Goals as goal

pub returns : goal.returns
unfolding v4_bytes
returns c = c.write_u32.ensures
