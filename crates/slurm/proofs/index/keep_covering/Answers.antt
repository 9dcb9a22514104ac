use Rattle.std.proofs.Common.{rules}
use Rattle.std.proofs.lemmas.Fn.{filter_same}
use Rattle.prefixes.specs.Payload.{covers}
use Rattle.slurm.proofs.index.keep_covering.Goals as goal

pub returns : goal.returns
returns c = filter_same _ (λ f. covers f c.args.prefix.now) _ (λ x b f' h. search rules) _ _ c.retain.ensures.filtered
