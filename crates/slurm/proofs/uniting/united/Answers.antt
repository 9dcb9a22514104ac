use Rattle.std.proofs.Common.{◌∙◌, ◌<◌, ap, inl, map, refl, subst}
use Rattle.vrps.specs.VrpSet.{set_of, size}
use Rattle.slurm.specs.Scoped.{scoped_of}
use Rattle.slurm.proofs.United.{set_of_records}
use Rattle.slurm.proofs.uniting.united.Goals as goal

pub returns-in-Ok-clause-ok : goal.returns-in-Ok-clause-ok
returns-in-Ok-clause-ok c =
    let set = c.in-Ok.ensures.ok ∙ ap set_of c.in_ok-records.ensures ∙ set_of_records (map scoped_of c.args.files.now) in
    (c.len-within_limit.ensures.set.within_limit, λ i. record { filters = c.in_ok-filters.ensures i; assertions = set i })

pub returns-in-Err-clause-err : goal.returns-in-Err-clause-err
returns-in-Err-clause-err c =
    inl (refl, subst (λ s. 16777215 < size s) (ap set_of c.in_ok-records.ensures ∙ set_of_records (map scoped_of c.args.files.now)) (c.from_list.ensures.too_many.0 (c.in-Err.is ∙ c.in-Err.ensures.only)))
