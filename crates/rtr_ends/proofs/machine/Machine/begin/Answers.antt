use Rattle.std.proofs.Common.{refl}
use Rattle.rtr_ends.proofs.StagingLaws.{begins}
use Rattle.rtr_ends.proofs.machine.Machine.begin.Goals as goal

pub returns : goal.returns
returns c = begins c.args.question c.args.session c.base_len-count.result c.args.self.now _ c.base_len-count.ensures.count c.base_len-count.ensures.fits _ c.over.ensures refl
