use Rattle.std.proofs.Common.{◌<◌, subst}
use Rattle.vrps.specs.VrpSet.{size}
use Rattle.slurm.specs.Exceptions.{exceptions_of}
use Rattle.slurm.proofs.ExceptionLaws.{leads, made, made_excepted}
use Rattle.slurm.proofs.applying.apply.Goals as goal

pub returns-clause-ok : goal.returns-clause-ok
returns-clause-ok c =
    made c.apply.result _ _ c.apply.ensures.ok
    (leads (exceptions_of c.args.slurm.now) c.as_slice.result.now c.in_ok-announce.announce c.args.set.now c.in_ok-withdraw.withdraw
    c.as_slice.ensures.value c.in_ok-withdraw.ensures c.in_ok-announce.ensures)

pub returns-clause-members : goal.returns-clause-members
returns-clause-members c = made_excepted c.apply.result (exceptions_of c.args.slurm.now) c.args.set.now (returns-clause-ok c)

pub returns-clause-too_many : goal.returns-clause-too_many
returns-clause-too_many c e =
    let is = leads (exceptions_of c.args.slurm.now) c.as_slice.result.now c.in_ok-announce.announce c.args.set.now c.in_ok-withdraw.withdraw
    c.as_slice.ensures.value c.in_ok-withdraw.ensures c.in_ok-announce.ensures in
    subst (λ t. 16777215 < size t) is (c.apply.ensures.too_many e)
