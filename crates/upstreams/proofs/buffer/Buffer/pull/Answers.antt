use Rattle.upstreams.proofs.ConnectionLaws.{pulled_all}
use Rattle.upstreams.proofs.buffer.Buffer.pull.Goals as goal

pub returns-clause-bytes : goal.returns-clause-bytes
returns-clause-bytes c = λ r shown. pulled_all c.self.inside.bytes r.out c.pull-self-inside.new.room c.pull-self-inside.result c.self.told (c.pull-self-inside.ensures.bytes r shown)
