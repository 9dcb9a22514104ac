use Rattle.std.proofs.Common.{map, subst, sym}
use Rattle.slurm.specs.Claims.{PrefixesClash, PrefixesAgree}
use Rattle.slurm.specs.Scoped.{scoped_of}
use Rattle.slurm.specs.Uniting.{IsOverlapOf}
use Rattle.slurm.proofs.Overlapping.{prefix_overlaps, prefixes_apart}
use Rattle.slurm.proofs.uniting.know_prefixes_apart.Goals as goal

pub returns-in-Some-clause-err : goal.returns-in-Some-clause-err
returns-in-Some-clause-err c =
    subst (λ f. IsOverlapOf (map scoped_of c.args.files.now) f) (sym c.overlap.ensures)
    (prefix_overlaps (map scoped_of c.args.files.now) c.in_ok-claims.claims.items c.in-Some.one c.in-Some.other c.in_ok-claims.ensures.same
    (subst (λ cs. PrefixesClash cs c.in-Some.one c.in-Some.other) c.as_slice.ensures.value c.in-Some.ensures.some))

pub returns-clause-ok : goal.returns-clause-ok
returns-clause-ok c =
    prefixes_apart (map scoped_of c.args.files.now) c.in_ok-claims.claims.items c.in_ok-claims.ensures.same (subst PrefixesAgree c.as_slice.ensures.value c.in-None.ensures.none)
