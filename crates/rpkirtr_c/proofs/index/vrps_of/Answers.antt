use Rattle.std.proofs.Common.{[], sym, subst}
use Rattle.rpkirtr_c.specs.Indexes.{AreRecords}
use Rattle.rpkirtr_c.proofs.RecordLaws.{none_are}
use Rattle.rpkirtr_c.proofs.index.vrps_of.Goals as goal

pub returns-clause-ok : goal.returns-clause-ok
returns-clause-ok c = c.in_ok-add_vrps.ensures.ok [] (subst (λ vs. AreRecords vs []) (sym c.new-list.ensures.items) none_are)
