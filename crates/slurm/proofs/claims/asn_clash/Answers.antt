use Rattle.std.proofs.Common.{◌+◌, get_or, take, sym, subst}
use Rattle.std.specs.Prelude.{Contains}
use Rattle.std.proofs.lemmas.List.{get_or_default}
use Rattle.slurm.proofs.Sweeping.{AsnsSwept, asn_beside, asn_under, asns_agree}
use Rattle.slurm.proofs.claims.asn_clash.Goals as goal
use Rattle.slurm.proofs.claims.asn_clash.Goals.{then-root-next, else-root-next+else-root-next-2}

pub loop-claim-preserved : goal.loop-claim-preserved
loop-claim-preserved c =
    let claims = c.args.claims.now in
    let i = c.loop-claim.claim-index in
    let next = get_or claims i (record { asn = 0; file = 0 }) in
    let is = get_or_default claims i (record { asn = 0; file = 0 }) next c.loop-claim-test.true in
    elim c.if-root-next.branch [
      | then-root-next w ↦ subst (λ r. AsnsSwept (take (i + 1) claims) r × Contains claims r) (sym w.root-is)
          (asn_beside claims c.requires i c.loop-claim.root next c.loop-claim-test.true is c.loop-claim.invariant w.if-root-next.true)
      | else-root-next+else-root-next-2 w ↦ subst (λ r. AsnsSwept (take (i + 1) claims) r × Contains claims r) (sym w.root-is)
          (asn_under claims c.requires i c.loop-claim.root next c.loop-claim-test.true is c.loop-claim.invariant w.if-root-next.false w.if-root-next-2.false)
    ]

pub returns-clause-none : goal.returns-clause-none
returns-clause-none c = asns_agree c.args.claims.now c.loop-claim.claim-index c.loop-claim.root c.loop-claim-test.false c.loop-claim.invariant.0
