use Rattle.std.proofs.Common.{[], ◌++◌, ap, arith, drop, length}
use Rattle.rtr_ends.specs.Sender.{due_of, left, newest_of, ready_in}
use Rattle.rtr_ends.proofs.SenderLaws.{ready_newest}
use Rattle.rtr_ends.proofs.sender.Sender.new.Goals as goal

pub returns-clause-due : goal.returns-clause-due
unfolding due_of left
returns-clause-due c = ap (λ x. drop 0 x ++ []) c.new.ensures

pub returns-clause-newest : goal.returns-clause-newest
unfolding newest_of
returns-clause-newest c = ready_newest c.args.ready

pub returns-clause-room : goal.returns-clause-room
unfolding ready_in
returns-clause-room c = omega (arith, ap (λ x. length (drop 0 x)) c.new.ensures)
