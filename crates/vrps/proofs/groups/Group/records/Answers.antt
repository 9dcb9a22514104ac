use Rattle.std.proofs.Common.{arith, ◌∙◌}
use Rattle.std.proofs.lemmas.Grind.{common_steps}
use Rattle.vrps.proofs.Members.{all_of_prefix}
use Rattle.vrps.proofs.groups.Group.records.Goals as goal

pub returns-clause-part : goal.returns-clause-part
returns-clause-part c = grind (arith, common_steps)

pub returns-clause-all : goal.returns-clause-all
returns-clause-all c = λ d.
    let groups = c.args.self.now.groups.now in
    returns-clause-part c ∙ all_of_prefix groups.records.items groups.starts.items groups.sorted c.args.self.now.place c.args.self.now.within d
