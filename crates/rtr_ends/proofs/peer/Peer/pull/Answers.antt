use Rattle.rtr_ends.proofs.PeerLaws.{pulls}
use Rattle.rtr_ends.proofs.peer.Peer.pull.Goals as goal

pub returns-clause-pulls : goal.returns-clause-pulls
returns-clause-pulls c = λ keep t i o shows. pulls keep t i o c.args.out.now c.pull.result c.pull.new.out c.args.self.now c.pull.new.self c.pull.ensures.gives c.pull.ensures.stays shows
