use Rattle.std.proofs.Common.{◌∙◌, ap}
use Rattle.vrps.specs.VrpSet.{has}
use Rattle.vrps.proofs.set.VrpSet.contains.Goals as goal

pub returns : goal.returns
returns c =
    let listed = rw c.deref.ensures.value at c.is_listed.ensures in
    listed ∙ ap (λ t. has t c.args.vrp.now) c.self.view_is
