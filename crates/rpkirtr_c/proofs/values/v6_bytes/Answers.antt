use Rattle.std.proofs.Common.{◌∙◌}
use Rattle.std.proofs.lemmas.List.{append-nil}
use Rattle.rpkirtr_c.specs.Spelled.{v6_bytes}
use Rattle.rpkirtr_c.proofs.values.v6_bytes.Goals as goal

pub returns : goal.returns
unfolding v6_bytes
returns c = c.write_u128.ensures ∙ append-nil _
