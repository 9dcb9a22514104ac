use Rattle.std.proofs.Common.{◌+◌, take, sym, subst}
use Rattle.std.specs.Prelude.{Contains}
use Rattle.slurm.proofs.Sweeping.{PrefixesSwept, prefix_beside, prefix_under, prefixes_agree}
use Rattle.slurm.proofs.claims.prefix_clash.Goals as goal
use Rattle.slurm.proofs.claims.prefix_clash.Goals.{then-not-covers, else-not-covers+else-root-claim}

pub loop-claim-preserved : goal.loop-claim-preserved
loop-claim-preserved c = elim c.if-not-covers.branch [
  | then-not-covers w ↦ subst (λ r. PrefixesSwept (take (c.loop-claim.claim-index + 1) c.args.claims.now) r × Contains c.args.claims.now r) (sym w.root-is)
      (prefix_beside c.args.claims.now c.requires.ascending c.requires.prefixes c.loop-claim.claim-index c.loop-claim.root c.claim-item.result c.loop-claim-test.true c.claim-item.is c.loop-claim.invariant
      (sym w.if-not-covers.ensures))
  | else-not-covers+else-root-claim w ↦ subst (λ r. PrefixesSwept (take (c.loop-claim.claim-index + 1) c.args.claims.now) r × Contains c.args.claims.now r) (sym w.root-is)
      (prefix_under c.args.claims.now c.requires.ascending c.requires.prefixes c.loop-claim.claim-index c.loop-claim.root c.claim-item.result c.loop-claim-test.true c.claim-item.is c.loop-claim.invariant
      (sym w.if-not-covers.ensures) w.if-root-claim.false)
]

pub returns-clause-none : goal.returns-clause-none
returns-clause-none c = prefixes_agree c.args.claims.now c.loop-claim.claim-index c.loop-claim.root c.loop-claim-test.false c.loop-claim.invariant.0
