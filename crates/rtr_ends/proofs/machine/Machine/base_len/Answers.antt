use Rattle.rtr_ends.proofs.Words.{sym, vrp_cmp, len-empty}
use Rattle.rtr_ends.proofs.machine.Machine.base_len.Goals as goal

pub returns-in-Reset-clause-count : goal.returns-in-Reset-clause-count
returns-in-Reset-clause-count c = rw c.in-Reset.is (sym (len-empty vrp_cmp (Unit {0})))
